-- Rows that are refused by how many they are.
use Rattle.std.proofs.Common.{◌≡◌, ◌+◌, Bool, true, false, cond, List, length, refl, ap, ◌∙◌, Option, Some, None, Ok, Err, is_some, option_map}
use Rattle.std.specs.Prelude.{◌==◌, nat_lt}
use Rattle.std.proofs.lemmas.Bool.{false≢true}
use Rattle.std.proofs.lemmas.Option.{none-some}
use Rattle.mls_lines.specs.Names.{Names}
use Rattle.mls_start.specs.Rows.{Rows, opening}
use Rattle.mls_state.specs.declared.start_fault.StartFault.{StartFault}
use Rattle.mls_state.specs.declared.start_fault.StartFault.TheVariants.{NoSubjects, TooManySubjects, TooManyObjects}
use Rattle.mls_start.specs.declared.object_row.ObjectRow.{ObjectRow}
use Rattle.mls_tables.specs.declared.limits.TheConstants.{MAX_SUBJECTS, MAX_OBJECTS}
use Rattle.mls_start_file.specs.Building.{count_fault}
use Rattle.mls_start_file.specs.Loading.{needing, refused_by, start_of}
use Rattle.mls_start_text.specs.Each.{each_of}
use Rattle.mls_start_text.specs.Labelling.{Labelled}
use Rattle.mls_start_text.specs.Placing.{Placed}
use Rattle.mls_start_file.specs.Placing.{placed_child, rows_made, rows_with}
use Rattle.mls_start_text.specs.declared.load_fault.LoadFault.TheVariants.{Start, Unknown}
use Rattle.mls_start_text.proofs.Laws.{length_each}

-- a fault among the first of a list of faults is the first of all
front : (a b c : Bool) (x y z fault : StartFault) (rest : Option StartFault) → cond a (Some x) (cond b (Some y) (cond c (Some z) None)) ≡ Some fault → cond a (Some x) (cond b (Some y) (cond c (Some z) rest)) ≡ Some fault
front true b c x y z fault rest h = h
front false true c x y z fault rest h = h
front false false true x y z fault rest h = h
front false false false x y z fault rest h = absurd (none-some fault h)

by_rows : (names : Names) (labelled : Labelled) (triples : Placed) (fault : StartFault) (o : Option (List ObjectRow)) → each_of placed_child labelled.children ≡ o → is_some o ≡ true → count_fault (length labelled.subjects) (length labelled.children) ≡ Some fault → needing (option_map (rows_made names labelled triples) o) Unknown start_of ≡ Err (Start fault)
by_rows names labelled triples fault None known some counted = absurd (false≢true some)
by_rows names labelled triples fault (Some objects) known some counted =
    let rows : Rows = rows_made names labelled triples objects in
    let counts : count_fault (length labelled.subjects) (length objects) ≡ Some fault = ap (count_fault (length labelled.subjects)) (length_each placed_child labelled.children objects known) ∙ counted in
    ap (λ f. refused_by (option_map (λ x. Start x) f) (Ok (opening rows))) (front (length labelled.subjects == 0) (nat_lt MAX_SUBJECTS (length labelled.subjects)) (nat_lt MAX_OBJECTS (1 + length objects)) NoSubjects TooManySubjects TooManyObjects fault _ counts)

-- where each parent is known, and there are none or too many of something, that is the rows' first fault
pub refused_by_count : (names : Names) (labelled : Labelled) (triples : Placed) (fault : StartFault) → is_some (each_of placed_child labelled.children) ≡ true → count_fault (length labelled.subjects) (length labelled.children) ≡ Some fault → needing (rows_with names labelled triples) Unknown start_of ≡ Err (Start fault)
refused_by_count names labelled triples fault known counted = by_rows names labelled triples fault (each_of placed_child labelled.children) refl known counted
