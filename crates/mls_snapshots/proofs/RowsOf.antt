-- The rows of a state, and that its text is their lines.
use Rattle.std.proofs.Common.{◌≡◌, ℕ, Bool, true, false, List, [], ◌∷◌, ◌++◌, Option, Some, None, refl, sym, ap, ◌∙◌}
use Rattle.std.specs.Prelude.{codes}
use Rattle.std.specs.Fmt.{decimal}
use Rattle.std.specs.FinMap as maps
use Rattle.std.specs.FinSet as set
use Rattle.std.specs.List.{flat_map, range_with_len}
use Rattle.std.proofs.lemmas.List.{append_assoc}
use Rattle.mls_labels.specs.Label.{Label}
use Rattle.mls_lines.specs.Names.{Names}
use Rattle.mls_state.specs.State.{State}
use Rattle.mls_state.specs.declared.table.Table.{Table}
use Rattle.mls_state.specs.declared.table.Table.TheVariants.{Matrix, Accesses}
use Rattle.mls_tables.specs.Once.{accesses_at}
use Rattle.mls_tables.specs.Triples.{Triple as TripleOf, TripleSet}
use Rattle.mls_tables.specs.declared.limits.TheConstants.{MAX_SUBJECTS, MAX_OBJECTS}
use Rattle.mls_snapshots.specs.States.{profile_number, head_lines, subject_parts, subject_line, object_parts, object_line, triple_line, cell_lines, subjects_text, objects_text, row_text, table_text, state_text, word_of}
use Rattle.mls_wording.specs.Wording.{subject_text, object_text, security_text, integrity_text}
use Rattle.mls_snapshots.proofs.Joins.{subject_left, subject_right, trusted_right, root_left, root_right, child_left, child_right}
use Rattle.mls_snapshots.proofs.Lines.{spaced}
use Rattle.mls_snapshots.proofs.Rows.{Row, Kind, Next, Subject, Object, Triple, first_of, rest_of, joined}

-- the row of a subject; none where it isn't known
abbrev pub subject_at : ℕ → Option Label → Option Label → Option Label → Bool → List Row
subject_at s (Some m) (Some c) (Some i) t = Subject s m c i t ∷ []
subject_at s (Some m) (Some c) None t = []
subject_at s (Some m) None i t = []
subject_at s None c i t = []

abbrev pub subject_rows : State → ℕ → List Row
subject_rows v s = subject_at s (maps.get v.maximum s) (maps.get v.current s) (maps.get v.subject_integrity s) (set.contains v.trusted s)

-- the row of an object; none where it isn't active
abbrev pub object_at : ℕ → Option Label → Option Label → Option ℕ → List Row
object_at o (Some l) (Some i) p = Object o l i p ∷ []
object_at o (Some l) None p = []
object_at o None i p = []

abbrev pub object_rows : State → ℕ → List Row
object_rows v o = object_at o (maps.get v.object_label o) (maps.get v.object_integrity o) (maps.get v.parent o)

-- the rows of triples
abbrev pub triple_rows : Table → List TripleOf → List Row
triple_rows table [] = []
triple_rows table (t ∷ ts) = Triple table t.0 t.1 t.2 ∷ triple_rows table ts

unfoldable pub all_subjects : State → ℕ → List Row
all_subjects v n = flat_map (subject_rows v) (range_with_len 0 n)

unfoldable pub all_objects : State → ℕ → List Row
all_objects v n = flat_map (object_rows v) (range_with_len 0 n)

unfoldable pub all_cells : Table → TripleSet → ℕ → ℕ → List Row
all_cells table b s n = flat_map (λ o. triple_rows table (accesses_at b s o)) (range_with_len 0 n)

unfoldable pub all_triples : Table → TripleSet → ℕ → ℕ → List Row
all_triples table b m n = flat_map (λ s. all_cells table b s m) (range_with_len 0 n)

-- what stands behind the rows of subjects and objects, behind those of subjects, and behind the first two
abbrev pub both_tables : State → List Row
both_tables v = all_triples Matrix v.matrix MAX_OBJECTS MAX_SUBJECTS ++ all_triples Accesses v.accesses MAX_OBJECTS MAX_SUBJECTS

abbrev pub all_others : State → List Row
all_others v = all_objects v MAX_OBJECTS ++ both_tables v

abbrev pub things : State → List Row
things v = all_subjects v MAX_SUBJECTS ++ all_others v

-- the rows of a state
abbrev pub rows_of : State → List Row
rows_of v = Kind v.profile ∷ Next v.next ∷ things v

-- the lines of rows

joined_append : (names : Names) (rows others : List Row) → joined names (rows ++ others) ≡ joined names rows ++ joined names others
joined_append names [] others = refl
joined_append names (row ∷ rows) others =
    let line : List ℕ = spaced (first_of row) (rest_of names row) in
    ap (λ t. line ++ 10 ∷ t) (joined_append names rows others) ∙ sym (append_assoc line (10 ∷ joined names rows) (joined names others))

joined_flat : (names : Names) (f : ℕ → List Row) (g : ℕ → List ℕ) → ((k : ℕ) → g k ≡ joined names (f k)) → (ks : List ℕ) → flat_map g ks ≡ joined names (flat_map f ks)
joined_flat names f g same [] = refl
joined_flat names f g same (k ∷ ks) = (λ i. same k i ++ joined_flat names f g same ks i) ∙ sym (joined_append names (f k) (flat_map f ks))

subject_joined : (names : Names) (s : ℕ) (m c i : Option Label) (t : Bool) → subject_parts names s m c i t ≡ joined names (subject_at s m c i t)
subject_joined names s (Some m) (Some c) (Some i) true =
    subject_left (codes "subject ") (subject_text names s) (codes " maximum ") (security_text names m) (codes " current ") (security_text names c) (codes " integrity ") (integrity_text names i)
    (codes " trusted") (10 ∷ [])
    ∙ sym (trusted_right (codes "subject") (subject_text names s) (codes "maximum") (security_text names m) (codes "current") (security_text names c) (codes "integrity") (integrity_text names i)
    (codes "trusted") (10 ∷ []))
subject_joined names s (Some m) (Some c) (Some i) false =
    subject_left (codes "subject ") (subject_text names s) (codes " maximum ") (security_text names m) (codes " current ") (security_text names c) (codes " integrity ") (integrity_text names i)
    [] (10 ∷ [])
    ∙ sym (subject_right (codes "subject") (subject_text names s) (codes "maximum") (security_text names m) (codes "current") (security_text names c) (codes "integrity") (integrity_text names i)
    (10 ∷ []))
subject_joined names s (Some m) (Some c) None t = refl
subject_joined names s (Some m) None i t = refl
subject_joined names s None c i t = refl

object_joined : (names : Names) (o : ℕ) (l i : Option Label) (p : Option ℕ) → object_parts names o l i p ≡ joined names (object_at o l i p)
object_joined names o (Some l) (Some i) None =
    root_left (codes "object ") (object_text names o) (codes " security ") (security_text names l) (codes " integrity ") (integrity_text names i) [] (10 ∷ [])
    ∙ sym (root_right (codes "object") (object_text names o) (codes "security") (security_text names l) (codes "integrity") (integrity_text names i) (10 ∷ []))
object_joined names o (Some l) (Some i) (Some p) =
    child_left (codes "object ") (object_text names o) (codes " security ") (security_text names l) (codes " integrity ") (integrity_text names i)
    (codes " parent ") (object_text names p) (10 ∷ [])
    ∙ sym (child_right (codes "object") (object_text names o) (codes "security") (security_text names l) (codes "integrity") (integrity_text names i)
    (codes "parent") (object_text names p) (10 ∷ []))
object_joined names o (Some l) None p = refl
object_joined names o None i p = refl

triple_joined : (names : Names) (table : Table) (t : TripleOf) → triple_line (word_of table) names t ≡ spaced (word_of table) (rest_of names (Triple table t.0 t.1 t.2)) ++ 10 ∷ []
triple_joined names Matrix t = simp append_assoc refl
triple_joined names Accesses t = simp append_assoc refl

triples_joined : (names : Names) (table : Table) (ts : List TripleOf) → flat_map (triple_line (word_of table) names) ts ≡ joined names (triple_rows table ts)
triples_joined names table [] = refl
triples_joined names table (t ∷ ts) =
    (λ i. triple_joined names table t i ++ triples_joined names table ts i)
    ∙ append_assoc (spaced (word_of table) (rest_of names (Triple table t.0 t.1 t.2))) (10 ∷ []) (joined names (triple_rows table ts))

subjects_joined : (names : Names) (v : State) (n : ℕ) → subjects_text names v n ≡ joined names (all_subjects v n)
unfolding subjects_text all_subjects
subjects_joined names v n = joined_flat names (subject_rows v) (subject_line names v)
    (λ s. subject_joined names s (maps.get v.maximum s) (maps.get v.current s) (maps.get v.subject_integrity s) (set.contains v.trusted s)) (range_with_len 0 n)

objects_joined : (names : Names) (v : State) (n : ℕ) → objects_text names v n ≡ joined names (all_objects v n)
unfolding objects_text all_objects
objects_joined names v n = joined_flat names (object_rows v) (object_line names v)
    (λ o. object_joined names o (maps.get v.object_label o) (maps.get v.object_integrity o) (maps.get v.parent o)) (range_with_len 0 n)

cells_joined : (names : Names) (table : Table) (b : TripleSet) (s n : ℕ) → row_text (word_of table) names b s n ≡ joined names (all_cells table b s n)
unfolding row_text all_cells
cells_joined names table b s n = joined_flat names (λ o. triple_rows table (accesses_at b s o)) (cell_lines (word_of table) names b s)
    (λ o. triples_joined names table (accesses_at b s o)) (range_with_len 0 n)

table_joined : (names : Names) (table : Table) (b : TripleSet) (n : ℕ) → table_text (word_of table) names b n ≡ joined names (all_triples table b MAX_OBJECTS n)
unfolding table_text all_triples
table_joined names table b n = joined_flat names (λ s. all_cells table b s MAX_OBJECTS) (λ s. row_text (word_of table) names b s MAX_OBJECTS)
    (λ s. cells_joined names table b s MAX_OBJECTS) (range_with_len 0 n)

abbrev things_text : Names → State → List ℕ
things_text names v =
    subjects_text names v MAX_SUBJECTS ++ (objects_text names v MAX_OBJECTS
    ++ (table_text (word_of Matrix) names v.matrix MAX_SUBJECTS ++ table_text (word_of Accesses) names v.accesses MAX_SUBJECTS))

things_joined : (names : Names) (v : State) → things_text names v ≡ joined names (things v)
things_joined names v =
    let a = all_subjects v MAX_SUBJECTS in
    let b = all_objects v MAX_OBJECTS in
    let c = all_triples Matrix v.matrix MAX_OBJECTS MAX_SUBJECTS in
    let d = all_triples Accesses v.accesses MAX_OBJECTS MAX_SUBJECTS in
    (λ i. subjects_joined names v MAX_SUBJECTS i ++ (objects_joined names v MAX_OBJECTS i
    ++ (table_joined names Matrix v.matrix MAX_SUBJECTS i ++ table_joined names Accesses v.accesses MAX_SUBJECTS i)))
    ∙ ap (λ t. joined names a ++ (joined names b ++ t)) (sym (joined_append names c d))
    ∙ ap (λ t. joined names a ++ t) (sym (joined_append names b (c ++ d)))
    ∙ sym (joined_append names a (b ++ (c ++ d)))

head_joined : (names : Names) (v : State) (text : List ℕ) (rows : List Row) → text ≡ joined names rows → head_lines v ++ text ≡ joined names (Kind v.profile ∷ Next v.next ∷ rows)
head_joined names v text rows same = simp append_assoc (ap (λ t. codes "profile " ++ (decimal (profile_number v.profile) ++ (codes "\nnext " ++ (decimal v.next ++ 10 ∷ t)))) same)

grouped : (a b c d e : List ℕ) → a ++ b ++ c ++ d ++ e ≡ a ++ (b ++ (c ++ (d ++ e)))
grouped a b c d e = append_assoc (a ++ b ++ c) d e ∙ append_assoc (a ++ b) c (d ++ e) ∙ append_assoc a b (c ++ (d ++ e))

-- the text of a state is the lines of its rows
pub state_joined : (names : Names) (v : State) → state_text names v ≡ joined names (rows_of v)
state_joined names v =
    grouped (head_lines v) (subjects_text names v MAX_SUBJECTS) (objects_text names v MAX_OBJECTS)
    (table_text (word_of Matrix) names v.matrix MAX_SUBJECTS) (table_text (word_of Accesses) names v.accesses MAX_SUBJECTS)
    ∙ head_joined names v (things_text names v) (things v) (things_joined names v)
