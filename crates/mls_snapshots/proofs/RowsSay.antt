-- What the rows of a state say: just what there is in it.
use Rattle.std.proofs.Common.{◌≡◌, ℕ, zero, suc, ◌+◌, ◌<◌, ◌≤◌, Bool, true, false, cond, ◌⊎◌, inl, inr, List, [], ◌∷◌, ◌++◌, filter, Option, Some, None, refl, sym, ap, subst, ◌∙◌, arith}
use Rattle.std.specs.FinMap as maps
use Rattle.std.specs.FinSet as set
use Rattle.std.specs.List.{flat_map, range_with_len}
use Rattle.std.proofs.lemmas.Bool.{cases_eq}
use Rattle.mls_labels.specs.Label.{Label}
use Rattle.mls_state.specs.State.{State}
use Rattle.mls_state.specs.Tables.{triples_of}
use Rattle.mls_state.specs.declared.table.Table.{Table}
use Rattle.mls_state.specs.declared.table.Table.TheVariants.{Matrix, Accesses}
use Rattle.mls_tables.specs.Once.{accesses_at}
use Rattle.mls_tables.specs.Triples.{Triple as TripleOf, TripleSet}
use Rattle.mls_tables.specs.declared.mode.Mode.{Mode}
use Rattle.mls_tables.specs.declared.mode.Mode.TheVariants.{Execute, Read, Append, Write}
use Rattle.mls_tables.specs.declared.limits.TheConstants.{MAX_SUBJECTS, MAX_OBJECTS}
use Rattle.mls_snapshots.proofs.Rows.{Row, Kind, Next, Subject, Object, Triple}
use Rattle.mls_snapshots.proofs.RowsOf.{subject_at, subject_rows, object_at, object_rows, triple_rows, all_subjects, all_objects, all_cells, all_triples, both_tables, all_others, rows_of}

-- what a row says of a state
abbrev pub IsRowOf : State → Row → Type 0
IsRowOf v (Kind p) = p ≡ v.profile
IsRowOf v (Next n) = n ≡ v.next
IsRowOf v (Subject s m c i t) =
    (maps.get v.maximum s ≡ Some m) × (maps.get v.current s ≡ Some c) × (maps.get v.subject_integrity s ≡ Some i) × (set.contains v.trusted s ≡ t)
IsRowOf v (Object o l i p) = (maps.get v.object_label o ≡ Some l) × (maps.get v.object_integrity o ≡ Some i) × (maps.get v.parent o ≡ p)
IsRowOf v (Triple table s o x) = set.contains (triples_of table v) (s, o, x) ≡ true

-- each of some rows
abbrev pub Each : (Row → Type 0) → List Row → Type 0
Each P [] = Unit {0}
Each P (row ∷ rows) = P row × Each P rows

pub each_append : (P : Row → Type 0) (rows others : List Row) → Each P rows → Each P others → Each P (rows ++ others)
each_append P [] others h k = k
each_append P (row ∷ rows) others h k = (h.0, each_append P rows others h.1 k)

pub each_flat : (P : Row → Type 0) (f : ℕ → List Row) → ((k : ℕ) → Each P (f k)) → (ks : List ℕ) → Each P (flat_map f ks)
each_flat P f h [] = tt
each_flat P f h (k ∷ ks) = each_append P (f k) (flat_map f ks) (h k) (each_flat P f h ks)

each_subject : (v : State) (s : ℕ) → Each (IsRowOf v) (subject_rows v s)
each_subject v s = from (maps.get v.maximum s) refl (maps.get v.current s) refl (maps.get v.subject_integrity s) refl where
  from : (m : Option Label) → maps.get v.maximum s ≡ m → (c : Option Label) → maps.get v.current s ≡ c → (i : Option Label) → maps.get v.subject_integrity s ≡ i
      → Each (IsRowOf v) (subject_at s m c i (set.contains v.trusted s))
  from (Some m) e (Some c) f (Some i) g = ((e, f, g, refl), tt)
  from (Some m) e (Some c) f None g = tt
  from (Some m) e None f i g = tt
  from None e c f i g = tt

each_object : (v : State) (o : ℕ) → Each (IsRowOf v) (object_rows v o)
each_object v o = from (maps.get v.object_label o) refl (maps.get v.object_integrity o) refl where
  from : (l : Option Label) → maps.get v.object_label o ≡ l → (i : Option Label) → maps.get v.object_integrity o ≡ i → Each (IsRowOf v) (object_at o l i (maps.get v.parent o))
  from (Some l) e (Some i) f = ((e, f, refl), tt)
  from (Some l) e None f = tt
  from None e i f = tt

each_triple : (v : State) (table : Table) (ts : List TripleOf) → Each (IsRowOf v) (triple_rows table (filter (set.contains (triples_of table v)) ts))
each_triple v table [] = tt
each_triple v table (t ∷ ts) = from (set.contains (triples_of table v) t) refl (each_triple v table ts) where
  from : (b : Bool) → set.contains (triples_of table v) t ≡ b → Each (IsRowOf v) (triple_rows table (filter (set.contains (triples_of table v)) ts))
      → Each (IsRowOf v) (triple_rows table (cond b (t ∷ filter (set.contains (triples_of table v)) ts) (filter (set.contains (triples_of table v)) ts)))
  from true e rest = (e, rest)
  from false e rest = rest

each_of_subjects : (v : State) (n : ℕ) → Each (IsRowOf v) (all_subjects v n)
unfolding all_subjects
each_of_subjects v n = each_flat (IsRowOf v) (subject_rows v) (each_subject v) (range_with_len 0 n)

each_of_objects : (v : State) (n : ℕ) → Each (IsRowOf v) (all_objects v n)
unfolding all_objects
each_of_objects v n = each_flat (IsRowOf v) (object_rows v) (each_object v) (range_with_len 0 n)

each_of_cells : (v : State) (table : Table) (s n : ℕ) → Each (IsRowOf v) (all_cells table (triples_of table v) s n)
unfolding all_cells
each_of_cells v table s n = each_flat (IsRowOf v) (λ o. triple_rows table (accesses_at (triples_of table v) s o))
    (λ o. each_triple v table ((s, o, Execute) ∷ (s, o, Read) ∷ (s, o, Append) ∷ (s, o, Write) ∷ [])) (range_with_len 0 n)

each_of_triples : (v : State) (table : Table) (m n : ℕ) → Each (IsRowOf v) (all_triples table (triples_of table v) m n)
unfolding all_triples
each_of_triples v table m n = each_flat (IsRowOf v) (λ s. all_cells table (triples_of table v) s m) (λ s. each_of_cells v table s m) (range_with_len 0 n)

-- the rows of a state say what is so in it
pub each_row : (v : State) → Each (IsRowOf v) (rows_of v)
each_row v =
    let matrix = all_triples Matrix v.matrix MAX_OBJECTS MAX_SUBJECTS in
    let accesses = all_triples Accesses v.accesses MAX_OBJECTS MAX_SUBJECTS in
    let tables : Each (IsRowOf v) (both_tables v) =
    each_append (IsRowOf v) matrix accesses (each_of_triples v Matrix MAX_OBJECTS MAX_SUBJECTS) (each_of_triples v Accesses MAX_OBJECTS MAX_SUBJECTS) in
    let others : Each (IsRowOf v) (all_others v) =
    each_append (IsRowOf v) (all_objects v MAX_OBJECTS) (both_tables v) (each_of_objects v MAX_OBJECTS) tables in
    (refl, (refl, each_append (IsRowOf v) (all_subjects v MAX_SUBJECTS) (all_others v) (each_of_subjects v MAX_SUBJECTS) others))

-- a row stands among some
abbrev pub In : {X : Type 0} → X → List X → Type 0
In x [] = ⊥
In x (y ∷ ys) = (x ≡ y) ⊎ In x ys

pub in_each : (P : Row → Type 0) (row : Row) (rows : List Row) → Each P rows → In row rows → P row
in_each P row [] h there = absurd there
in_each P row (other ∷ rows) h (inl is) = subst P (sym is) h.0
in_each P row (other ∷ rows) h (inr later) = in_each P row rows h.1 later

in_left : (row : Row) (rows others : List Row) → In row rows → In row (rows ++ others)
in_left row [] others there = absurd there
in_left row (other ∷ rows) others (inl is) = inl is
in_left row (other ∷ rows) others (inr later) = inr (in_left row rows others later)

in_right : (row : Row) (rows others : List Row) → In row others → In row (rows ++ others)
in_right row [] others there = there
in_right row (other ∷ rows) others there = inr (in_right row rows others there)

in_flat : (row : Row) (f : ℕ → List Row) (k : ℕ) (ks : List ℕ) → In k ks → In row (f k) → In row (flat_map f ks)
in_flat row f k [] there here = absurd there
in_flat row f k (j ∷ ks) (inl is) here = in_left row (f j) (flat_map f ks) (subst (λ (n : ℕ). In row (f n)) is here)
in_flat row f k (j ∷ ks) (inr later) here = in_right row (f j) (flat_map f ks) (in_flat row f k ks later here)

in_range : (a n k : ℕ) → a ≤ k → k < a + n → In k (range_with_len a n)
in_range a zero k low high = absurd (omega arith)
in_range a (suc n) k low high = elim (cases_eq k a) [
  | inl same ↦ inl same
  | inr other ↦ inr (in_range (a + 1) n k (omega (arith, other, low)) (omega (arith, high)))
]

in_subjects : (v : State) (n s : ℕ) (row : Row) → s < n → In row (subject_rows v s) → In row (all_subjects v n)
unfolding all_subjects
in_subjects v n s row below here = in_flat row (subject_rows v) s (range_with_len 0 n) (in_range 0 n s (omega arith) (omega (arith, below))) here

in_objects : (v : State) (n o : ℕ) (row : Row) → o < n → In row (object_rows v o) → In row (all_objects v n)
unfolding all_objects
in_objects v n o row below here = in_flat row (object_rows v) o (range_with_len 0 n) (in_range 0 n o (omega arith) (omega (arith, below))) here

in_cells : (table : Table) (b : TripleSet) (s n o : ℕ) (row : Row) → o < n → In row (triple_rows table (accesses_at b s o)) → In row (all_cells table b s n)
unfolding all_cells
in_cells table b s n o row below here = in_flat row (λ k. triple_rows table (accesses_at b s k)) o (range_with_len 0 n) (in_range 0 n o (omega arith) (omega (arith, below))) here

in_triples : (table : Table) (b : TripleSet) (m n s : ℕ) (row : Row) → s < n → In row (all_cells table b s m) → In row (all_triples table b m n)
unfolding all_triples
in_triples table b m n s row below here = in_flat row (λ k. all_cells table b k m) s (range_with_len 0 n) (in_range 0 n s (omega arith) (omega (arith, below))) here

-- where a triple is there, its row is
in_filtered : (table : Table) (b : TripleSet) (t : TripleOf) (ts : List TripleOf) → In t ts → set.contains b t ≡ true → In (Triple table t.0 t.1 t.2) (triple_rows table (filter (set.contains b) ts))
in_filtered table b t [] there is = absurd there
in_filtered table b t (u ∷ ts) (inl same) is =
    let passes : set.contains b u ≡ true = ap (set.contains b) (sym same) ∙ is in
    subst (λ (q : Bool). In (Triple table t.0 t.1 t.2) (triple_rows table (cond q (u ∷ filter (set.contains b) ts) (filter (set.contains b) ts)))) (sym passes)
    (inl (ap (λ (w : TripleOf). Triple table w.0 w.1 w.2) same))
in_filtered table b t (u ∷ ts) (inr later) is = from (set.contains b u) (in_filtered table b t ts later is) where
  from : (q : Bool) → In (Triple table t.0 t.1 t.2) (triple_rows table (filter (set.contains b) ts))
      → In (Triple table t.0 t.1 t.2) (triple_rows table (cond q (u ∷ filter (set.contains b) ts) (filter (set.contains b) ts)))
  from true there = inr there
  from false there = there

in_modes : (s o : ℕ) (x : Mode) → In {X = TripleOf} (s, o, x) ((s, o, Execute) ∷ (s, o, Read) ∷ (s, o, Append) ∷ (s, o, Write) ∷ [])
in_modes s o Execute = inl refl
in_modes s o Read = inr (inl refl)
in_modes s o Append = inr (inr (inl refl))
in_modes s o Write = inr (inr (inr (inl refl)))

triple_there : (table : Table) (b : TripleSet) (s o : ℕ) (x : Mode) → s < MAX_SUBJECTS → o < MAX_OBJECTS → set.contains b (s, o, x) ≡ true
    → In (Triple table s o x) (all_triples table b MAX_OBJECTS MAX_SUBJECTS)
triple_there table b s o x below inside is =
    in_triples table b MAX_OBJECTS MAX_SUBJECTS s (Triple table s o x) below
    (in_cells table b s MAX_OBJECTS o (Triple table s o x) inside
    (in_filtered table b (s, o, x) ((s, o, Execute) ∷ (s, o, Read) ∷ (s, o, Append) ∷ (s, o, Write) ∷ []) (in_modes s o x) is))

-- a subject with its labels has a row
pub subject_in : (v : State) (s : ℕ) (m c i : Label) → s < MAX_SUBJECTS → maps.get v.maximum s ≡ Some m → maps.get v.current s ≡ Some c → maps.get v.subject_integrity s ≡ Some i
    → In (Subject s m c i (set.contains v.trusted s)) (rows_of v)
subject_in v s m c i below maximum current own =
    let row : Row = Subject s m c i (set.contains v.trusted s) in
    let is : subject_rows v s ≡ row ∷ [] = (λ k. subject_at s (maximum k) (current k) (own k) (set.contains v.trusted s)) in
    inr (inr (in_left row (all_subjects v MAX_SUBJECTS) (all_others v) (in_subjects v MAX_SUBJECTS s row below (subst (In row) (sym is) (inl refl)))))

-- an object with its labels has a row
pub object_in : (v : State) (o : ℕ) (l i : Label) → o < MAX_OBJECTS → maps.get v.object_label o ≡ Some l → maps.get v.object_integrity o ≡ Some i
    → In (Object o l i (maps.get v.parent o)) (rows_of v)
object_in v o l i below label own =
    let row : Row = Object o l i (maps.get v.parent o) in
    let is : object_rows v o ≡ row ∷ [] = (λ k. object_at o (label k) (own k) (maps.get v.parent o)) in
    inr (inr (in_right row (all_subjects v MAX_SUBJECTS) (all_others v) (in_left row (all_objects v MAX_OBJECTS) (both_tables v) (in_objects v MAX_OBJECTS o row below (subst (In row) (sym is) (inl refl))))))

-- a triple of a table has a row
pub triple_in : (v : State) (table : Table) (s o : ℕ) (x : Mode) → s < MAX_SUBJECTS → o < MAX_OBJECTS → set.contains (triples_of table v) (s, o, x) ≡ true
    → In (Triple table s o x) (rows_of v)
triple_in v table s o x below inside is =
    inr (inr (in_right (Triple table s o x) (all_subjects v MAX_SUBJECTS) (all_others v)
    (in_right (Triple table s o x) (all_objects v MAX_OBJECTS) (both_tables v) (in_tables table is)))) where
      in_tables : (t : Table) → set.contains (triples_of t v) (s, o, x) ≡ true → In (Triple t s o x) (both_tables v)
      in_tables Matrix there =
          in_left (Triple Matrix s o x) (all_triples Matrix v.matrix MAX_OBJECTS MAX_SUBJECTS) (all_triples Accesses v.accesses MAX_OBJECTS MAX_SUBJECTS)
          (triple_there Matrix v.matrix s o x below inside there)
      in_tables Accesses there =
          in_right (Triple Accesses s o x) (all_triples Matrix v.matrix MAX_OBJECTS MAX_SUBJECTS) (all_triples Accesses v.accesses MAX_OBJECTS MAX_SUBJECTS)
          (triple_there Accesses v.accesses s o x below inside there)
