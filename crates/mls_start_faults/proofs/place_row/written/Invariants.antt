use Rattle.std.proofs.Common.{◌≡◌, take}
use Rattle.std.specs.List.{flat_map}
use Rattle.mls_rows.specs.Rows.{bytes_of, form_of}
use Rattle.mls_start_faults.specs.PlaceRows.{located_row}
use Rattle.mls_start_faults.specs.Places.{located_view}
use Rattle.mls_start_faults.proofs.place_row.written.Given as goal

-- the places so far are written, in the form that is asked for
abbrev pub invariant-loop-row : goal.invariant-loop-row
invariant-loop-row l =
    (form_of l.output ≡ l.fn.form)
    × (bytes_of l.output ≡ flat_map (λ row. located_row l.fn.form (located_view row)) (take l.row-index l.found))
