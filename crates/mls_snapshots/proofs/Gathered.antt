-- What the rows of a state say is all of that state.
use Rattle.std.proofs.Common.{◌≡◌, ℕ, zero, suc, ◌+◌, ◌<◌, ◌≤◌, Bool, true, false, ◌&&◌, ◌||◌, ◌⊎◌, inl, inr, List, [], ◌∷◌, ◌++◌, length, get_or, set, Option, Some, None, refl, sym, ap, subst, ◌∙◌, arith, get_or-set_same, get_or-set_other, length-set, length-append}
use Rattle.std.proofs.lemmas.Bool.{or_cases, or_left, or_right, and_parts, cases_eq, cases_lt}
use Rattle.std.proofs.lemmas.Bool.Decides.{nat_tests}
use Rattle.std.proofs.lemmas.List.{get_or_past}
use Rattle.std.proofs.lemmas.Option.{slice_get_past}
use Rattle.std.specs.Prelude.{nat_lt, is_some, slice_get, option_and_then}
use Rattle.std.specs.Cmp.{nat_cmp_total}
use Rattle.std.specs.Ordering.{nat_cmp}
use Rattle.std.specs.FinMap as maps
use Rattle.std.specs.FinMap.{FinMap, same_map}
use Rattle.std.specs.FinSet as sets
use Rattle.std.specs.FinSet.{nat_cmp-IsAntisymmetric, same_set}
use Rattle.std.specs.List.{flat_map, range_with_len}
use Rattle.mls_facts.specs.Numbered.{numbered, holds_of, places_of}
use Rattle.mls_facts.proofs.Numbered.{get-numbered}
use Rattle.mls_facts.proofs.Passing.{contains-passing}
use Rattle.mls_labels.specs.Label.{Label}
use Rattle.mls_state.specs.First.{with_triples}
use Rattle.mls_state.specs.Properties.{HasTree, HasWholeTables}
use Rattle.mls_state.specs.State.{State, is_subject, is_active}
use Rattle.mls_state.specs.Tables.{triples_of}
use Rattle.mls_state.specs.declared.subject.Subject.{Subject as SubjectView}
use Rattle.mls_state.specs.declared.table.Table.{Table}
use Rattle.mls_state.specs.declared.table.Table.TheVariants.{Matrix, Accesses}
use Rattle.mls_tables.specs.Once.{accesses_at}
use Rattle.mls_tables.specs.Triples.{Triple as TripleOf, TripleSet, triple_cmp, is_triple}
use Rattle.mls_tables.specs.declared.limits.TheConstants.{MAX_SUBJECTS, MAX_OBJECTS}
use Rattle.mls_tables.specs.declared.mode.Mode.{Mode}
use Rattle.mls_tables.proofs.Laws.{same_triples, contains-insert-triple, is_triple-itself, is_triple-true}
use Rattle.mls_snapshots.specs.declared.state_line.ObjectParts.{ObjectParts}
use Rattle.mls_snapshots.specs.declared.state_rows.StateRows.{StateRows}
use Rattle.mls_snapshots.specs.Gathering.{Said, said_by, with_line, with_rows, IsUnsaid, Says}
use Rattle.mls_snapshots.specs.LineReading.{subject_with}
use Rattle.mls_snapshots.specs.Rows.{Row, Kind, Next, Subject, Object, Triple, said_of}
use Rattle.mls_snapshots.specs.Saying.{parts_of, object_of, SaysAll}
use Rattle.mls_snapshots.proofs.RowsOf.{subject_at, subject_rows, object_at, object_rows, triple_rows, all_subjects, all_objects, all_cells, all_triples, both_tables, all_others, things, rows_of}
use Rattle.mls_snapshots.proofs.RowsSay.{IsRowOf, Each, each_append, each_flat, each_row, In, object_in, triple_in}
use Rattle.mls_snapshots.proofs.SubjectTables.{by_count, untrusted}

-- what is there in a table
there : {X : Type 0} (o : Option X) → is_some o ≡ true → (x : X) × (o ≡ Some x)
there None is = cc
there (Some x) is = (x, refl)

missing : {X : Type 0} (o : Option X) → is_some o ≡ false → o ≡ None
missing None is = refl
missing (Some x) is = cc

alike : (a b : Bool) → (a ≡ true → b ≡ true) → (b ≡ true → a ≡ true) → a ≡ b
alike true b to back = sym (to refl)
alike false true to back = back refl
alike false false to back = refl

with_rows_append : (a : Said) (rows others : List Row) → with_rows a (rows ++ others) ≡ with_rows (with_rows a rows) others
with_rows_append a [] others = refl
with_rows_append a (row ∷ rows) others = with_rows_append (with_line a (said_of row)) rows others

-- triples, one after the other

with_triples-push : (b : TripleSet) (ts : List TripleOf) (t : TripleOf) → with_triples b (ts ++ t ∷ []) ≡ sets.insert (with_triples b ts) t
with_triples-push b [] t = refl
with_triples-push b (u ∷ ts) t = with_triples-push (sets.insert b u) ts t

pushed : (ts : List TripleOf) (u t : TripleOf) → sets.contains (with_triples sets.empty (ts ++ u ∷ [])) t ≡ (is_triple t u || sets.contains (with_triples sets.empty ts) t)
pushed ts u t = ap (λ b. sets.contains b t) (with_triples-push sets.empty ts u) ∙ contains-insert-triple (with_triples sets.empty ts) u t

in_more : (ts : List TripleOf) (u t : TripleOf) (w : TripleSet) → (sets.contains (with_triples sets.empty ts) t ≡ true → sets.contains w t ≡ true) → sets.contains w u ≡ true
    → sets.contains (with_triples sets.empty (ts ++ u ∷ [])) t ≡ true → sets.contains w t ≡ true
in_more ts u t w was so has = from (or_cases (is_triple t u) (sets.contains (with_triples sets.empty ts) t) (sym (pushed ts u t) ∙ has)) where
  from : (is_triple t u ≡ true) ⊎ (sets.contains (with_triples sets.empty ts) t ≡ true) → sets.contains w t ≡ true
  from (inl same) = ap (sets.contains w) (is_triple-true t u same) ∙ so
  from (inr before) = was before

still_in : (ts : List TripleOf) (u t : TripleOf) → sets.contains (with_triples sets.empty ts) t ≡ true → sets.contains (with_triples sets.empty (ts ++ u ∷ [])) t ≡ true
still_in ts u t has = pushed ts u t ∙ or_right (is_triple t u) (sets.contains (with_triples sets.empty ts) t) has

now_in : (ts : List TripleOf) (t : TripleOf) → sets.contains (with_triples sets.empty (ts ++ t ∷ [])) t ≡ true
now_in ts t = pushed ts t t ∙ or_left (is_triple t t) (sets.contains (with_triples sets.empty ts) t) (is_triple-itself t)

abbrev cells_of : Table → Said → List TripleOf
cells_of Matrix a = a.cells
cells_of Accesses a = a.accesses

abbrev held : Table → Said → TripleSet
held table a = with_triples sets.empty (cells_of table a)

held_kept : (table : Table) (t : TripleOf) (a : Said) (row : Row) → sets.contains (held table a) t ≡ true → sets.contains (held table (with_line a (said_of row))) t ≡ true
held_kept Matrix t a (Kind p) has = has
held_kept Matrix t a (Next n) has = has
held_kept Matrix t a (Subject s m c i b) has = has
held_kept Matrix t a (Object o l i p) has = has
held_kept Matrix t a (Triple Matrix s o x) has = still_in a.cells (s, o, x) t has
held_kept Matrix t a (Triple Accesses s o x) has = has
held_kept Accesses t a (Kind p) has = has
held_kept Accesses t a (Next n) has = has
held_kept Accesses t a (Subject s m c i b) has = has
held_kept Accesses t a (Object o l i p) has = has
held_kept Accesses t a (Triple Matrix s o x) has = has
held_kept Accesses t a (Triple Accesses s o x) has = still_in a.accesses (s, o, x) t has

all_kept : (table : Table) (t : TripleOf) (a : Said) (rows : List Row) → sets.contains (held table a) t ≡ true → sets.contains (held table (with_rows a rows)) t ≡ true
all_kept table t a [] has = has
all_kept table t a (row ∷ rows) has = all_kept table t (with_line a (said_of row)) rows (held_kept table t a row has)

held_now : (table : Table) (s o : ℕ) (x : Mode) (a : Said) → sets.contains (held table (with_line a (said_of (Triple table s o x)))) (s, o, x) ≡ true
held_now Matrix s o x a = now_in a.cells (s, o, x)
held_now Accesses s o x a = now_in a.accesses (s, o, x)

-- each triple with a row is held
came : (table : Table) (s o : ℕ) (x : Mode) (a : Said) (rows : List Row) → In (Triple table s o x) rows → sets.contains (held table (with_rows a rows)) (s, o, x) ≡ true
came table s o x a [] stands = absurd stands
came table s o x a (row ∷ rows) (inl is) =
    all_kept table (s, o, x) (with_line a (said_of row)) rows
    (subst (λ (r : Row). sets.contains (held table (with_line a (said_of r))) (s, o, x) ≡ true) is (held_now table s o x a))
came table s o x a (row ∷ rows) (inr later) = came table s o x (with_line a (said_of row)) rows later

-- rows that are no subject's leave the subjects
abbrev IsOther : Row → Type 0
IsOther (Kind p) = Unit {0}
IsOther (Next n) = Unit {0}
IsOther (Subject s m c i t) = ⊥
IsOther (Object o l i p) = Unit {0}
IsOther (Triple table s o x) = Unit {0}

subjects_left : (a : Said) (row : Row) → IsOther row → (with_line a (said_of row)).subjects ≡ a.subjects
subjects_left a (Kind p) other = refl
subjects_left a (Next n) other = refl
subjects_left a (Subject s m c i t) other = absurd other
subjects_left a (Object o l i p) other = refl
subjects_left a (Triple Matrix s o x) other = refl
subjects_left a (Triple Accesses s o x) other = refl

all_left : (a : Said) (rows : List Row) → Each IsOther rows → (with_rows a rows).subjects ≡ a.subjects
all_left a [] each = refl
all_left a (row ∷ rows) each = all_left (with_line a (said_of row)) rows each.1 ∙ subjects_left a row each.0

other_object : (o : ℕ) (l i : Option Label) (p : Option ℕ) → Each IsOther (object_at o l i p)
other_object o (Some l) (Some i) p = (tt, tt)
other_object o (Some l) None p = tt
other_object o None i p = tt

other_triples : (table : Table) (ts : List TripleOf) → Each IsOther (triple_rows table ts)
other_triples table [] = tt
other_triples table (t ∷ ts) = (tt, other_triples table ts)

other_objects : (v : State) (n : ℕ) → Each IsOther (all_objects v n)
unfolding all_objects
other_objects v n =
    each_flat IsOther (object_rows v) (λ o. other_object o (maps.get v.object_label o) (maps.get v.object_integrity o) (maps.get v.parent o)) (range_with_len 0 n)

other_cells : (table : Table) (b : TripleSet) (s n : ℕ) → Each IsOther (all_cells table b s n)
unfolding all_cells
other_cells table b s n = each_flat IsOther (λ o. triple_rows table (accesses_at b s o)) (λ o. other_triples table (accesses_at b s o)) (range_with_len 0 n)

other_table : (table : Table) (b : TripleSet) (m n : ℕ) → Each IsOther (all_triples table b m n)
unfolding all_triples
other_table table b m n = each_flat IsOther (λ s. all_cells table b s m) (λ s. other_cells table b s m) (range_with_len 0 n)

each_other : (v : State) → Each IsOther (all_others v)
each_other v =
    let matrix = all_triples Matrix v.matrix MAX_OBJECTS MAX_SUBJECTS in
    let accesses = all_triples Accesses v.accesses MAX_OBJECTS MAX_SUBJECTS in
    each_append IsOther (all_objects v MAX_OBJECTS) (both_tables v) (other_objects v MAX_OBJECTS)
    (each_append IsOther matrix accesses (other_table Matrix v.matrix MAX_OBJECTS MAX_SUBJECTS) (other_table Accesses v.accesses MAX_OBJECTS MAX_SUBJECTS))

-- subjects, with one more where there is one
abbrev appended : List SubjectView → Option SubjectView → List SubjectView
appended xs None = xs
appended xs (Some s) = xs ++ s ∷ []

subjects_at : (a : Said) (s : ℕ) (m c i : Option Label) (t : Bool) → (with_rows a (subject_at s m c i t)).subjects ≡ appended a.subjects (subject_with m c i t)
subjects_at a s (Some m) (Some c) (Some i) t = refl
subjects_at a s (Some m) (Some c) None t = refl
subjects_at a s (Some m) None i t = refl
subjects_at a s None c i t = refl

get_before : {X : Type 0} (xs : List X) (x : X) (j : ℕ) → j < length xs → slice_get (xs ++ x ∷ []) j ≡ slice_get xs j
get_before [] x j within = absurd (omega (arith, within))
get_before (y ∷ xs) x zero within = refl
get_before (y ∷ xs) x (suc j) within = get_before xs x j (omega (arith, within))

get_last : {X : Type 0} (xs : List X) (x : X) → slice_get (xs ++ x ∷ []) (length xs) ≡ Some x
get_last [] x = refl
get_last (y ∷ xs) x = get_last xs x

-- a state with so many subjects
module _ (v : State) (count : ℕ) (known : (s : ℕ) → is_subject v s ≡ nat_lt s count) (many : count ≤ MAX_SUBJECTS) (tree : HasTree v) (whole : HasWholeTables v) where
  profile_line : (a : Said) (row : Row) → IsRowOf v row → a.profile ≡ v.profile → (with_line a (said_of row)).profile ≡ v.profile
  profile_line a (Kind p) so is = so
  profile_line a (Next n) so is = is
  profile_line a (Subject s m c i t) so is = is
  profile_line a (Object o l i p) so is = is
  profile_line a (Triple Matrix s o x) so is = is
  profile_line a (Triple Accesses s o x) so is = is

  profile_kept : (a : Said) (rows : List Row) → Each (IsRowOf v) rows → a.profile ≡ v.profile → (with_rows a rows).profile ≡ v.profile
  profile_kept a [] each is = is
  profile_kept a (row ∷ rows) each is = profile_kept (with_line a (said_of row)) rows each.1 (profile_line a row each.0 is)

  next_line : (a : Said) (row : Row) → IsRowOf v row → a.next ≡ v.next → (with_line a (said_of row)).next ≡ v.next
  next_line a (Kind p) so is = is
  next_line a (Next n) so is = so
  next_line a (Subject s m c i t) so is = is
  next_line a (Object o l i p) so is = is
  next_line a (Triple Matrix s o x) so is = is
  next_line a (Triple Accesses s o x) so is = is

  next_kept : (a : Said) (rows : List Row) → Each (IsRowOf v) rows → a.next ≡ v.next → (with_rows a rows).next ≡ v.next
  next_kept a [] each is = is
  next_kept a (row ∷ rows) each is = next_kept (with_line a (said_of row)) rows each.1 (next_line a row each.0 is)

  -- objects

  room_line : (a : Said) (row : Row) → length (with_line a (said_of row)).objects ≡ length a.objects
  room_line a (Kind p) = refl
  room_line a (Next n) = refl
  room_line a (Subject s m c i t) = refl
  room_line a (Object o l i p) = length-set a.objects o (Some (record { labels = record { security = l; integrity = i }; parent = p }))
  room_line a (Triple Matrix s o x) = refl
  room_line a (Triple Accesses s o x) = refl

  room_kept : (a : Said) (rows : List Row) → length (with_rows a rows).objects ≡ length a.objects
  room_kept a [] = refl
  room_kept a (row ∷ rows) = room_kept (with_line a (said_of row)) rows ∙ room_line a row

  entered_now : (a : Said) (o : ℕ) (l i : Label) (p : Option ℕ) → IsRowOf v (Object o l i p) → o < length a.objects
      → get_or (with_line a (said_of (Object o l i p))).objects o None ≡ object_of v o
  entered_now a o l i p so within =
      let parts : ObjectParts = record { labels = record { security = l; integrity = i }; parent = p } in
      get_or-set_same a.objects o (Some parts) None within ∙ sym (λ k. parts_of (so.0 k) (so.1 k) (so.2 k))

  object_line : (q : ℕ) (a : Said) (row : Row) → IsRowOf v row → q < length a.objects → get_or a.objects q None ≡ object_of v q
      → get_or (with_line a (said_of row)).objects q None ≡ object_of v q
  object_line q a (Kind p) so within is = is
  object_line q a (Next n) so within is = is
  object_line q a (Subject s m c i t) so within is = is
  object_line q a (Object o l i p) so within is = from (cases_eq q o) where
    parts : ObjectParts
    parts = record { labels = record { security = l; integrity = i }; parent = p }

    from : (q ≡ o) ⊎ (q ≡ o → ⊥) → get_or (set a.objects o (Some parts)) q None ≡ object_of v q
    from (inl same) =
        let inside : o < length a.objects = omega (arith, same, within) in
        ap (λ n. get_or (set a.objects o (Some parts)) n None) same ∙ entered_now a o l i p so inside ∙ ap (object_of v) (sym same)
    from (inr other) = get_or-set_other a.objects o q (Some parts) None other ∙ is
  object_line q a (Triple Matrix s o x) so within is = is
  object_line q a (Triple Accesses s o x) so within is = is

  object_kept : (q : ℕ) (a : Said) (rows : List Row) → Each (IsRowOf v) rows → q < length a.objects → get_or a.objects q None ≡ object_of v q
      → get_or (with_rows a rows).objects q None ≡ object_of v q
  object_kept q a [] each within is = is
  object_kept q a (row ∷ rows) each within is =
      object_kept q (with_line a (said_of row)) rows each.1 (omega (arith, within, room_line a row)) (object_line q a row each.0 within is)

  entered : (q : ℕ) (l i : Label) (p : Option ℕ) (a : Said) (rows : List Row) → Each (IsRowOf v) rows → In (Object q l i p) rows → q < length a.objects
      → get_or (with_rows a rows).objects q None ≡ object_of v q
  entered q l i p a [] each stands within = absurd stands
  entered q l i p a (row ∷ rows) each (inl is) within =
      object_kept q (with_line a (said_of row)) rows each.1 (omega (arith, within, room_line a row))
      (subst (λ (r : Row). get_or (with_line a (said_of r)).objects q None ≡ object_of v q) is (entered_now a q l i p (subst (IsRowOf v) (sym is) each.0) within))
  entered q l i p a (row ∷ rows) each (inr later) within =
      entered q l i p (with_line a (said_of row)) rows each.1 later (omega (arith, within, room_line a row))

  none_of : (q : ℕ) → is_active v q ≡ false → object_of v q ≡ None
  none_of q inactive = λ k. parts_of (missing (maps.get v.object_label q) inactive k) (maps.get v.object_integrity q) (maps.get v.parent q)

  objects_all : (first : Said) → IsUnsaid first → (q : ℕ) → get_or (with_rows first (rows_of v)).objects q None ≡ object_of v q
  objects_all first unsaid q = by_active (is_active v q) refl where
    room : length first.objects ≡ 4096
    room = unsaid.objects.room

    past : q < 4096 ⊎ 4096 ≤ q → is_active v q ≡ false → get_or (with_rows first (rows_of v)).objects q None ≡ object_of v q
    past (inl below) inactive = object_kept q first (rows_of v) (each_row v) (omega (arith, below, room)) (unsaid.objects.none q ∙ sym (none_of q inactive))
    past (inr above) inactive =
        let all : length (with_rows first (rows_of v)).objects ≡ length first.objects = room_kept first (rows_of v) in
        get_or_past (with_rows first (rows_of v)).objects q None (omega (arith, above, all, room)) ∙ sym (none_of q inactive)

    by_active : (b : Bool) → is_active v q ≡ b → get_or (with_rows first (rows_of v)).objects q None ≡ object_of v q
    by_active true active =
        let below : q < 4096 = tree.objects.below q active in
        let label = there (maps.get v.object_label q) active in
        let own = there (maps.get v.object_integrity q) (whole.object_integrity q ∙ active) in
        entered q label.0 own.0 (maps.get v.parent q) first (rows_of v) (each_row v) (object_in v q label.0 own.0 below label.1 own.1) (omega (arith, below, room))
    by_active false inactive = past (cases_lt q 4096) inactive

  -- triples

  held_line : (table : Table) (t : TripleOf) (a : Said) (row : Row) → IsRowOf v row → (sets.contains (held table a) t ≡ true → sets.contains (triples_of table v) t ≡ true)
      → sets.contains (held table (with_line a (said_of row))) t ≡ true → sets.contains (triples_of table v) t ≡ true
  held_line Matrix t a (Kind p) so was has = was has
  held_line Matrix t a (Next n) so was has = was has
  held_line Matrix t a (Subject s m c i b) so was has = was has
  held_line Matrix t a (Object o l i p) so was has = was has
  held_line Matrix t a (Triple Matrix s o x) so was has = in_more a.cells (s, o, x) t v.matrix was so has
  held_line Matrix t a (Triple Accesses s o x) so was has = was has
  held_line Accesses t a (Kind p) so was has = was has
  held_line Accesses t a (Next n) so was has = was has
  held_line Accesses t a (Subject s m c i b) so was has = was has
  held_line Accesses t a (Object o l i p) so was has = was has
  held_line Accesses t a (Triple Matrix s o x) so was has = was has
  held_line Accesses t a (Triple Accesses s o x) so was has = in_more a.accesses (s, o, x) t v.accesses was so has

  -- no other triple is held
  held_of : (table : Table) (t : TripleOf) (a : Said) (rows : List Row) → Each (IsRowOf v) rows → (sets.contains (held table a) t ≡ true → sets.contains (triples_of table v) t ≡ true)
      → sets.contains (held table (with_rows a rows)) t ≡ true → sets.contains (triples_of table v) t ≡ true
  held_of table t a [] each was has = was has
  held_of table t a (row ∷ rows) each was has = held_of table t (with_line a (said_of row)) rows each.1 (held_line table t a row each.0 was) has

  none_held : (table : Table) (t : TripleOf) (first : Said) → cells_of table first ≡ [] → sets.contains (held table first) t ≡ true → sets.contains (triples_of table v) t ≡ true
  none_held table t first none has =
      absurd (let no : false ≡ true = sym (ap (λ ts. sets.contains (with_triples sets.empty ts) t) none ∙ sets.contains-empty triple_cmp t) ∙ has in cc)

  known_few : (s : ℕ) → is_subject v s ≡ true → s < MAX_SUBJECTS
  known_few s is =
      let same : nat_lt s count ≡ true = sym (known s) ∙ is in
      let below : s < count = grind (arith, nat_tests, same) in
      omega (arith, below, many)

  known_parts : (table : Table) (s o : ℕ) (x : Mode) → sets.contains (triples_of table v) (s, o, x) ≡ true → (is_subject v s ≡ true) × (is_active v o ≡ true)
  known_parts Matrix s o x is = and_parts (is_subject v s) (is_active v o) (tree.matrix_known (s, o, x) is)
  known_parts Accesses s o x is = and_parts (is_subject v s) (is_active v o) (tree.accesses_known (s, o, x) is)

  triples_all : (table : Table) (first : Said) → cells_of table first ≡ [] → held table (with_rows first (rows_of v)) ≡ triples_of table v
  triples_all table first none = same_triples (held table (with_rows first (rows_of v))) (triples_of table v) (λ t.
      alike (sets.contains (held table (with_rows first (rows_of v))) t) (sets.contains (triples_of table v) t)
      (held_of table t first (rows_of v) (each_row v) (none_held table t first none))
      (λ is.
      let parts = known_parts table t.0 t.1 t.2 is in
      came table t.0 t.1 t.2 first (rows_of v) (triple_in v table t.0 t.1 t.2 (known_few t.0 parts.0) (tree.objects.below t.1 parts.1) is)))

  -- subjects

  abbrev subject_of : ℕ → Option SubjectView
  subject_of s = subject_with (maps.get v.maximum s) (maps.get v.current s) (maps.get v.subject_integrity s) (sets.contains v.trusted s)

  record HasParts (s : ℕ) : Type 0 where
    m : Label
    c : Label
    i : Label
    maximum : maps.get v.maximum s ≡ Some m
    current : maps.get v.current s ≡ Some c
    integrity : maps.get v.subject_integrity s ≡ Some i

  record LacksParts (s : ℕ) : Type 0 where
    maximum : maps.get v.maximum s ≡ None
    current : maps.get v.current s ≡ None
    integrity : maps.get v.subject_integrity s ≡ None

  parts_there : (s : ℕ) → s < count → HasParts s
  parts_there s below =
      let within : nat_lt s count ≡ true = grind (arith, nat_tests, below) in
      let is : is_subject v s ≡ true = known s ∙ within in
      let a = there (maps.get v.maximum s) is in
      let b = there (maps.get v.current s) (whole.current s ∙ is) in
      let d = there (maps.get v.subject_integrity s) (whole.subject_integrity s ∙ is) in
      record { m = a.0; c = b.0; i = d.0; maximum = a.1; current = b.1; integrity = d.1 }

  parts_missing : (s : ℕ) → nat_lt s count ≡ false → LacksParts s
  parts_missing s above =
      let is : is_subject v s ≡ false = known s ∙ above in
      record {
        maximum = missing (maps.get v.maximum s) is;
        current = missing (maps.get v.current s) (whole.current s ∙ is);
        integrity = missing (maps.get v.subject_integrity s) (whole.subject_integrity s ∙ is);
      }

  abbrev view_of : (s : ℕ) → HasParts s → SubjectView
  view_of s p = record { maximum = p.m; current = p.c; integrity = p.i; trusted = sets.contains v.trusted s }

  subject_there : (s : ℕ) (p : HasParts s) → subject_of s ≡ Some (view_of s p)
  subject_there s p = λ k. subject_with (p.maximum k) (p.current k) (p.integrity k) (sets.contains v.trusted s)

  subject_missing : (s : ℕ) → LacksParts s → subject_of s ≡ None
  subject_missing s p = λ k. subject_with (p.maximum k) (p.current k) (p.integrity k) (sets.contains v.trusted s)

  -- the subjects below a number
  record IsUpTo (k : ℕ) (xs : List SubjectView) : Type 0 where
    below : (j : ℕ) → j < k → slice_get xs j ≡ subject_of j
    room : k ≤ count → length xs ≡ k
    full : count ≤ k → length xs ≡ count

  more_known : (k : ℕ) (xs : List SubjectView) (x : SubjectView) → IsUpTo k xs → k < count → subject_of k ≡ Some x → IsUpTo (k + 1) (xs ++ x ∷ [])
  more_known k xs x up inside is = record {
    below = λ j within. at j within (cases_eq j k);
    room = λ some. omega (arith, long, longer);
    full = λ some. omega (arith, long, longer, inside, some);
  } where
    long : length xs ≡ k
    long = up.room (omega (arith, inside))

    longer : length (xs ++ x ∷ []) ≡ length xs + 1
    longer = length-append xs (x ∷ [])

    at : (j : ℕ) → j < k + 1 → (j ≡ k) ⊎ (j ≡ k → ⊥) → slice_get (xs ++ x ∷ []) j ≡ subject_of j
    at j within (inl same) =
        let place : j ≡ length xs = same ∙ sym long in
        ap (slice_get (xs ++ x ∷ [])) place ∙ get_last xs x ∙ sym is ∙ ap subject_of (sym same)
    at j within (inr other) =
        let less : j < k = omega (arith, within, other) in
        get_before xs x j (omega (arith, less, long)) ∙ up.below j less

  more_unknown : (k : ℕ) (xs : List SubjectView) → IsUpTo k xs → count ≤ k → subject_of k ≡ None → IsUpTo (k + 1) xs
  more_unknown k xs up outside is = record {
    below = λ j within. at j within (cases_eq j k);
    room = λ some. absurd (omega (arith, some, outside));
    full = λ some. up.full outside;
  } where
    at : (j : ℕ) → j < k + 1 → (j ≡ k) ⊎ (j ≡ k → ⊥) → slice_get xs j ≡ subject_of j
    at j within (inl same) =
        let long : length xs ≡ count = up.full outside in
        slice_get_past xs j (omega (arith, long, outside, same)) ∙ sym is ∙ ap subject_of (sym same)
    at j within (inr other) = up.below j (omega (arith, within, other))

  one_more : (k : ℕ) (xs : List SubjectView) → IsUpTo k xs → IsUpTo (k + 1) (appended xs (subject_of k))
  one_more k xs up = by_count count k (IsUpTo (k + 1) (appended xs (subject_of k)))
      (λ inside.
      let is : subject_of k ≡ Some (view_of k (parts_there k inside)) = subject_there k (parts_there k inside) in
      subst (λ o. IsUpTo (k + 1) (appended xs o)) (sym is) (more_known k xs (view_of k (parts_there k inside)) up inside is))
      (λ above.
      let outside : count ≤ k = grind (arith, nat_tests, above) in
      let is : subject_of k ≡ None = subject_missing k (parts_missing k above) in
      subst (λ o. IsUpTo (k + 1) (appended xs o)) (sym is) (more_unknown k xs up outside is))

  subjects_from : (n k e : ℕ) (a : Said) → k + n ≡ e → IsUpTo k a.subjects → IsUpTo e (with_rows a (flat_map (subject_rows v) (range_with_len k n))).subjects
  subjects_from zero k e a is up = let same : k ≡ e = omega (arith, is) in subst (λ q. IsUpTo q a.subjects) same up
  subjects_from (suc n) k e a is up =
      let rest : List Row = flat_map (subject_rows v) (range_with_len (k + 1) n) in
      let one : (with_rows a (subject_rows v k)).subjects ≡ appended a.subjects (subject_of k) =
      subjects_at a k (maps.get v.maximum k) (maps.get v.current k) (maps.get v.subject_integrity k) (sets.contains v.trusted k) in
      subst (λ (s : Said). IsUpTo e s.subjects) (sym (with_rows_append a (subject_rows v k) rest))
      (subjects_from n (k + 1) e (with_rows a (subject_rows v k)) (omega (arith, is)) (subst (IsUpTo (k + 1)) (sym one) (one_more k a.subjects up)))

  subjects_through : (a : Said) → IsUpTo 0 a.subjects → IsUpTo 256 (with_rows a (all_subjects v MAX_SUBJECTS)).subjects
  unfolding all_subjects
  subjects_through a up = subjects_from 256 0 256 a refl up

  none_yet : (xs : List SubjectView) → xs ≡ [] → IsUpTo 0 xs
  none_yet xs none =
      let empty : length xs ≡ 0 = ap length none in
      record {
        below = λ j within. absurd (omega (arith, within));
        room = λ some. empty;
        full = λ some. omega (arith, empty, some);
      }

  subjects_up : (a : Said) → a.subjects ≡ [] → IsUpTo 256 (with_rows a (things v)).subjects
  subjects_up a none =
      let through = subjects_through a (none_yet a.subjects none) in
      subst (λ (s : Said). IsUpTo 256 s.subjects) (sym (with_rows_append a (all_subjects v MAX_SUBJECTS) (all_others v)))
      (subst (IsUpTo 256) (sym (all_left (with_rows a (all_subjects v MAX_SUBJECTS)) (all_others v) (each_other v))) through)

  module _ (xs : List SubjectView) (up : IsUpTo 256 xs) where
    long : length xs ≡ count
    long = up.full many

    each_subject : (j : ℕ) → slice_get xs j ≡ subject_of j
    each_subject j = by_count count j (slice_get xs j ≡ subject_of j)
        (λ inside. up.below j (omega (arith, inside, many)))
        (λ above.
        let outside : count ≤ j = grind (arith, nat_tests, above) in
        slice_get_past xs j (omega (arith, outside, long)) ∙ sym (subject_missing j (parts_missing j above)))

    table_of : (f : SubjectView → Label) (t : FinMap nat_cmp Label) → ((j : ℕ) → option_and_then (λ s. Some (f s)) (subject_of j) ≡ maps.get t j) → numbered (λ s. Some (f s)) xs ≡ t
    table_of f t same = same_map nat_cmp_total nat_cmp-IsAntisymmetric (numbered (λ s. Some (f s)) xs) t
        (λ j. get-numbered (λ s. Some (f s)) xs j ∙ ap (option_and_then (λ s. Some (f s))) (each_subject j) ∙ same j)

    maximum_table : numbered (λ s. Some s.maximum) xs ≡ v.maximum
    maximum_table = table_of (λ s. s.maximum) v.maximum (λ j.
        by_count count j (option_and_then (λ s. Some s.maximum) (subject_of j) ≡ maps.get v.maximum j)
        (λ inside. let p = parts_there j inside in ap (option_and_then (λ (s : SubjectView). Some s.maximum)) (subject_there j p) ∙ sym p.maximum)
        (λ above. let p = parts_missing j above in ap (option_and_then (λ (s : SubjectView). Some s.maximum)) (subject_missing j p) ∙ sym p.maximum))

    current_table : numbered (λ s. Some s.current) xs ≡ v.current
    current_table = table_of (λ s. s.current) v.current (λ j.
        by_count count j (option_and_then (λ s. Some s.current) (subject_of j) ≡ maps.get v.current j)
        (λ inside. let p = parts_there j inside in ap (option_and_then (λ (s : SubjectView). Some s.current)) (subject_there j p) ∙ sym p.current)
        (λ above. let p = parts_missing j above in ap (option_and_then (λ (s : SubjectView). Some s.current)) (subject_missing j p) ∙ sym p.current))

    integrity_table : numbered (λ s. Some s.integrity) xs ≡ v.subject_integrity
    integrity_table = table_of (λ s. s.integrity) v.subject_integrity (λ j.
        by_count count j (option_and_then (λ s. Some s.integrity) (subject_of j) ≡ maps.get v.subject_integrity j)
        (λ inside. let p = parts_there j inside in ap (option_and_then (λ (s : SubjectView). Some s.integrity)) (subject_there j p) ∙ sym p.integrity)
        (λ above. let p = parts_missing j above in ap (option_and_then (λ (s : SubjectView). Some s.integrity)) (subject_missing j p) ∙ sym p.integrity))

    abbrev is_trusted : SubjectView → Bool
    is_trusted s = s.trusted

    trusted_at : (j : ℕ) → (nat_lt j (length xs) && holds_of is_trusted (slice_get xs j)) ≡ sets.contains v.trusted j
    trusted_at j = by_count count j ((nat_lt j (length xs) && holds_of is_trusted (slice_get xs j)) ≡ sets.contains v.trusted j)
        (λ inside.
        let within : nat_lt j (length xs) ≡ true = grind (arith, nat_tests, inside, long) in
        λ k. within k && holds_of is_trusted ((each_subject j ∙ subject_there j (parts_there j inside)) k))
        (λ above.
        let outside : count ≤ j = grind (arith, nat_tests, above) in
        let past : nat_lt j (length xs) ≡ false = grind (arith, nat_tests, outside, long) in
        ap (λ b. b && holds_of is_trusted (slice_get xs j)) past ∙ sym (untrusted v.trusted j (is_subject v j) (known j ∙ above) (whole.trusted j)))

    trusted_places : places_of is_trusted xs ≡ v.trusted
    trusted_places = same_set nat_cmp_total nat_cmp-IsAntisymmetric (places_of is_trusted xs) v.trusted
        (λ j. contains-passing (λ k. holds_of is_trusted (slice_get xs k)) (length xs) j ∙ trusted_at j)

  -- all that the rows say

  abbrev begun : Said → Said
  begun first = record first { profile = v.profile; next = v.next }

  pub says_all : (rows : StateRows) → Says (said_by rows) (rows_of v) → SaysAll v rows
  says_all rows says =
      let first : Said = says.0 in
      let unsaid : IsUnsaid first = says.1 in
      let is : said_by rows ≡ with_rows first (rows_of v) = says.2 in
      let each : Each (IsRowOf v) (things v) = (each_row v).1.1 in
      let subjects : rows.subjects.items ≡ (with_rows (begun first) (things v)).subjects = ap (λ (s : Said). s.subjects) is in
      let up : IsUpTo 256 rows.subjects.items = subst (IsUpTo 256) (sym subjects) (subjects_up (begun first) unsaid.subjects) in
      record {
        profile = ap (λ (s : Said). s.profile) is ∙ profile_kept (begun first) (things v) each refl;
        next = ap (λ (s : Said). s.next) is ∙ next_kept (begun first) (things v) each refl;
        maximum = maximum_table rows.subjects.items up;
        current = current_table rows.subjects.items up;
        integrity = integrity_table rows.subjects.items up;
        trusted = trusted_places rows.subjects.items up;
        objects = λ o. ap (λ (s : Said). get_or s.objects o None) is ∙ objects_all first unsaid o;
        matrix = ap (λ (s : Said). with_triples sets.empty s.cells) is ∙ triples_all Matrix first unsaid.cells;
        accesses = ap (λ (s : Said). with_triples sets.empty s.accesses) is ∙ triples_all Accesses first unsaid.accesses;
      }
