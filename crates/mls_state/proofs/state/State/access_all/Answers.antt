use Rattle.std.proofs.Common.{◌≡◌, true, ◌∙◌, ap}
use Rattle.mls_state.specs.State.{is_subject, is_active}
use Rattle.mls_state.specs.Properties.{is_known}
use Rattle.std.proofs.lemmas.Bool.{and_parts}
use Rattle.mls_state.proofs.state.State.access_all.Goals as goal

pub put_access-requires-clause-subject : goal.put_access-requires-clause-subject
put_access-requires-clause-subject g c =
    let known : is_known c.args.self.now c.triple-item.result ≡ true = rw c.triple-item.is (c.requires c.loop-triple.triple-index c.triple-item.result c.loop-triple-test.true) in
    ap (λ v. is_subject v c.triple-item.result.0) c.loop-triple.invariant.same ∙ (and_parts (is_subject c.args.self.now c.triple-item.result.0) (is_active c.args.self.now c.triple-item.result.1) known).0

pub put_access-requires-clause-object : goal.put_access-requires-clause-object
put_access-requires-clause-object g c =
    let known : is_known c.args.self.now c.triple-item.result ≡ true = rw c.triple-item.is (c.requires c.loop-triple.triple-index c.triple-item.result c.loop-triple-test.true) in
    ap (λ v. is_active v c.triple-item.result.1) c.loop-triple.invariant.same ∙ (and_parts (is_subject c.args.self.now c.triple-item.result.0) (is_active c.args.self.now c.triple-item.result.1) known).1
