use Rattle.std.proofs.Common.{◌≡◌, true, ap, ◌∙◌}
use Rattle.mls_state.specs.First.{with_triples}
use Rattle.mls_state.specs.Properties.{is_known}
use Rattle.mls_state.specs.State.{State}
use Rattle.mls_snapshots.proofs.Rebuilt.{triples_left}
use Rattle.std.proofs.Common.{drop, ◌+◌}
use Rattle.mls_snapshots.proofs.rebuilding.give_each.Goals as goal

pub loop-cell-preserved : goal.loop-cell-preserved
loop-cell-preserved c =
    let new = c.give_known.new.state in
    let k = c.loop-cell.cell-index in
    let t = c.cell-item.result in
    let cells = c.args.cells.now in
    let so_far = c.loop-cell.invariant in
    record {
      same = c.give_known.ensures.rest ∙ (λ i. record (so_far.same i) { matrix = new.matrix });
      cells = λ all.
          let known : is_known c.args.state.now t ≡ true = rw c.cell-item.is (all k t c.loop-cell-test.true) in
          ap (λ (w : State). with_triples w.matrix (drop (k + 1) cells))
          (c.give_known.ensures.known (ap (λ (w : State). is_known w t) so_far.same ∙ known))
          ∙ triples_left c.loop-cell.state.matrix cells k t c.loop-cell-test.true c.cell-item.is
          ∙ so_far.cells all;
    }
