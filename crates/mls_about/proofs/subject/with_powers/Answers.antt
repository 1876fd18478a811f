use Rattle.std.proofs.Common.{◌≡◌, ◌++◌, subst, sym}
use Rattle.std.specs.Prelude.{IfOk}
use Rattle.std.proofs.lemmas.List.Folds.{flat_map-map}
use Rattle.mls_review.specs.Granted.{change_view}
use Rattle.mls_rows.specs.Rows.{bytes_of, form_of}
use Rattle.mls_about.specs.Subjects.{change_bytes}
use Rattle.mls_about.proofs.subject.with_powers.Goals as goal

pub returns-clause-bytes : goal.returns-clause-bytes
returns-clause-bytes c =
    subst (λ t. IfOk c.with_kinds.result (λ new. bytes_of new ≡ bytes_of c.args.output ++ t))
    (sym (flat_map-map (change_bytes (form_of c.args.output) c.args.names.now) change_view c.args.found.now)) c.with_kinds.ensures.bytes
