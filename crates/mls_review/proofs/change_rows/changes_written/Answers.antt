use Rattle.std.proofs.Common.{sym, ◌∙◌}
use Rattle.std.proofs.lemmas.List.Folds.{flat_map-map}
use Rattle.mls_review.specs.Granted.{change_view}
use Rattle.mls_review.specs.PowerRows.{granted_row}
use Rattle.mls_review.proofs.change_rows.changes_written.Goals as goal

pub returns : goal.returns
returns c =
    c.into_bytes.ensures ∙ c.in_ok-output.ensures.bytes
    ∙ sym (flat_map-map (granted_row c.args.form c.args.names.now) change_view c.args.found.now)
