use Rattle.std.proofs.Common.{sym, ◌∙◌}
use Rattle.std.proofs.lemmas.List.Folds.{flat_map-map}
use Rattle.mls_start_faults.specs.PlaceRows.{located_row}
use Rattle.mls_start_faults.specs.Places.{located_view}
use Rattle.mls_start_faults.proofs.place_row.places_written.Goals as goal

pub returns : goal.returns
returns c =
    c.into_bytes.ensures ∙ c.in_ok-output.ensures
    ∙ sym (flat_map-map (located_row c.args.form) located_view c.args.found.now)
