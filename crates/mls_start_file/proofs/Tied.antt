-- A start that was built of rows goes with their counts.
use Rattle.std.proofs.Common.{◌≡◌, ◌+◌, List, length, refl, Option, Some, None, option_map}
use Rattle.std.proofs.lemmas.Option.{none-some, same_Some}
use Rattle.mls_labels.specs.Scheme.{bounds_of}
use Rattle.mls_lines.specs.Names.{Names}
use Rattle.mls_start.proofs.Laws.{subject_opening, active_opening}
use Rattle.mls_start.specs.Rows.{Rows, opening, object_count}
use Rattle.mls_start.specs.declared.object_row.ObjectRow.{ObjectRow}
use Rattle.mls_start_text.specs.Each.{each_of}
use Rattle.mls_start_text.specs.Labelling.{Labelled}
use Rattle.mls_start_text.specs.Placing.{Placed}
use Rattle.mls_start_file.specs.Placing.{placed_child, rows_made, rows_with}
use Rattle.mls_start_file.specs.Ties.{HasCounts}
use Rattle.mls_start_text.proofs.Laws.{length_each}

next_is : (rows : Rows) → (opening rows).next ≡ object_count rows
unfolding opening
next_is rows = refl

security_is : (rows : Rows) → (opening rows).security ≡ rows.security
unfolding opening
security_is rows = refl

integrity_is : (rows : Rows) → (opening rows).integrity ≡ rows.integrity
unfolding opening
integrity_is rows = refl

-- the opening of rows has just as many subjects and objects
pub counted : (rows : Rows) → HasCounts (length rows.subjects) (object_count rows) rows.security rows.integrity (opening rows)
counted rows = record { known = subject_opening rows; active = active_opening rows; next = next_is rows; security = security_is rows; integrity = integrity_is rows }

by_objects : (names : Names) (labelled : Labelled) (triples : Placed) (rows : Rows) (o : Option (List ObjectRow)) → each_of placed_child labelled.children ≡ o → option_map (rows_made names labelled triples) o ≡ Some rows
    → HasCounts (length labelled.subjects) (1 + length labelled.children) (bounds_of names.security) (bounds_of names.integrity) (opening rows)
by_objects names labelled triples rows None known made = absurd (none-some rows made)
by_objects names labelled triples rows (Some objects) known made =
    let same : rows_made names labelled triples objects ≡ rows = same_Some (rows_made names labelled triples objects) rows made in
    let counts : HasCounts (length labelled.subjects) (1 + length objects) (bounds_of names.security) (bounds_of names.integrity) (opening (rows_made names labelled triples objects)) = counted (rows_made names labelled triples objects) in
    let children : length objects ≡ length labelled.children = length_each placed_child labelled.children objects known in
    rw (← same, ← children) counts

-- the rows of a labelled file open with just as many
pub counted_rows : (names : Names) (labelled : Labelled) (triples : Placed) (rows : Rows) → rows_with names labelled triples ≡ Some rows
    → HasCounts (length labelled.subjects) (1 + length labelled.children) (bounds_of names.security) (bounds_of names.integrity) (opening rows)
counted_rows names labelled triples rows made = by_objects names labelled triples rows (each_of placed_child labelled.children) refl made
