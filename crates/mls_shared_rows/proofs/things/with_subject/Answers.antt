use Rattle.std.proofs.Common.{◌≡◌, ◌++◌, subst, sym}
use Rattle.std.specs.Prelude.{IfOk}
use Rattle.mls_rows.specs.Rows.{bytes_of, form_of}
use Rattle.mls_shared_rows.proofs.States.{subject_is}
use Rattle.mls_shared_rows.proofs.things.with_subject.Goals as goal

pub returns-clause-bytes : goal.returns-clause-bytes
returns-clause-bytes c =
    subst (λ t. IfOk c.with_kind.result (λ new. bytes_of new ≡ bytes_of c.args.output ++ t))
    (sym (subject_is (form_of c.args.output) c.args.names.now c.args.state.now c.args.s _ _ _ _ c.subject.ensures.maximum c.subject.ensures.current
    c.subject.ensures.integrity c.subject.ensures.trusted))
    c.with_kind.ensures.bytes
