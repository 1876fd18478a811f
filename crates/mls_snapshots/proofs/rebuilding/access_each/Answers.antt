use Rattle.std.proofs.Common.{◌≡◌, true, ap, ◌∙◌, drop, ◌+◌}
use Rattle.mls_state.specs.First.{with_triples}
use Rattle.mls_state.specs.Properties.{is_known}
use Rattle.mls_state.specs.State.{State}
use Rattle.mls_snapshots.proofs.Rebuilt.{triples_left}
use Rattle.mls_snapshots.proofs.rebuilding.access_each.Goals as goal

pub loop-triple-preserved : goal.loop-triple-preserved
loop-triple-preserved c =
    let new = c.access_known.new.state in
    let k = c.loop-triple.triple-index in
    let t = c.triple-item.result in
    let triples = c.args.triples.now in
    let so_far = c.loop-triple.invariant in
    record {
      same = c.in_ok-access_known.ensures.rest ∙ (λ i. record (so_far.same i) { accesses = new.accesses });
      triples = λ all.
          let known : is_known c.args.state.now t ≡ true = rw c.triple-item.is (all k t c.loop-triple-test.true) in
          ap (λ (w : State). with_triples w.accesses (drop (k + 1) triples))
          (c.in_ok-access_known.ensures.known (ap (λ (w : State). is_known w t) so_far.same ∙ known))
          ∙ triples_left c.loop-triple.state.accesses triples k t c.loop-triple-test.true c.triple-item.is
          ∙ so_far.triples all;
    }
