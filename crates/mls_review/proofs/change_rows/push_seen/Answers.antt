use Rattle.std.proofs.Common.{◌≡◌, ◌++◌, string_bytes, subst, sym}
use Rattle.std.specs.Prelude.{OnOk}
use Rattle.std.proofs.lemmas.List.Folds.{flat_map-map}
use Rattle.mls_review.specs.Granted.{change_view}
use Rattle.mls_review.specs.PowerRows.{granted_line}
use Rattle.mls_review.proofs.change_rows.push_seen.Goals as goal

pub returns : goal.returns
returns c =
    subst (λ t. OnOk c.push_changes.result (string_bytes c.push_changes.new.text ≡ string_bytes c.args.text.now ++ t))
    (sym (flat_map-map (granted_line c.args.names.now) change_view c.args.found.now)) c.push_changes.ensures
