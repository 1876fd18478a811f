use Rattle.std.proofs.Common.{◌≡◌, true, ◌∙◌, ap}
use Rattle.mls_state.specs.State.{is_subject, is_active}
use Rattle.mls_state.specs.Properties.{is_known}
use Rattle.std.proofs.lemmas.Bool.{and_parts}
use Rattle.mls_state.proofs.state.State.give_all.Goals as goal

pub give-requires-clause-subject : goal.give-requires-clause-subject
give-requires-clause-subject g c =
    let known : is_known c.args.self.now c.cell-item.result ≡ true = rw c.cell-item.is (c.requires c.loop-cell.cell-index c.cell-item.result c.loop-cell-test.true) in
    ap (λ v. is_subject v c.cell-item.result.0) c.loop-cell.invariant.same ∙ (and_parts (is_subject c.args.self.now c.cell-item.result.0) (is_active c.args.self.now c.cell-item.result.1) known).0

pub give-requires-clause-object : goal.give-requires-clause-object
give-requires-clause-object g c =
    let known : is_known c.args.self.now c.cell-item.result ≡ true = rw c.cell-item.is (c.requires c.loop-cell.cell-index c.cell-item.result c.loop-cell-test.true) in
    ap (λ v. is_active v c.cell-item.result.1) c.loop-cell.invariant.same ∙ (and_parts (is_subject c.args.self.now c.cell-item.result.0) (is_active c.args.self.now c.cell-item.result.1) known).1
