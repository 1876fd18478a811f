-- Tables whose lists tell who accesses what.
use Rattle.std.specs.Prelude.{◌≡◌, ℕ, ◌+◌, ◌<◌, ◌≤◌, Bool, true, false, not, ◌&&◌, ◌||◌, List, [], length, replicate, take, drop, ◌∷◌, ◌++◌, refl}
use Rattle.std.specs.FinSet as set
use Rattle.std.specs.List.{list_any}
use Rattle.std.proofs.Common.{◌⊎◌, inl, inr, arith, sym, ap, ◌∙◌, eqb, ltb, get_or}
use Rattle.std.proofs.lemmas.Bool.{cases_lt, lt-ltb, cases_Bool, eq-eqb, ne_eqb, and_parts, false≢true}
use Rattle.std.proofs.Math.Bool.{and-true}
use Rattle.std.proofs.Math.Seq.{take-add}
use Rattle.std.proofs.lemmas.List.{get_or_past, get_or-replicate, length-replicate}
use Rattle.std.proofs.lemmas.List.Folds.{list_any_at, list_any-append}
use Rattle.mls_tables.proofs.Within.{without_objects-first, without_objects-none}
use Rattle.mls_tables.specs.declared.limits.TheConstants.{MAX_SUBJECTS, MAX_OBJECTS}
use Rattle.mls_tables.specs.Triples.{Triple, TripleSet, is_triple}
use Rattle.mls_tables.specs.Table.{Table, IsWithin, empty_table, without_object, without_objects}
use Rattle.mls_tables.specs.Held.{is_held, objects_of, subjects_of, Indexes, IsIndexed}
use Rattle.mls_tables.proofs.Indexes.{list_any-listed, listed-none}
use Rattle.mls_tables.proofs.Laws.{same_triples, is_triple-true, contains-remove-triple, contains-without_object, contains-without_objects}
use Rattle.mls_tables.proofs.Held.{held_empty}

-- the lists of a table whose triples changed
pub IsIndexed-changed : (t : Table) (objects subjects objects' subjects' : List (List ℕ)) (ts : TripleSet) → IsIndexed t objects subjects → length objects' ≡ length objects → length subjects' ≡ length subjects → Indexes (is_held ts) objects' subjects' → IsIndexed (record t { triples = ts }) objects' subjects'
IsIndexed-changed t objects subjects objects' subjects' ts h rows columns held = record {
  rows = rows ∙ h.rows;
  columns = let fits : t.columns ≤ length subjects = h.columns in omega arith;
  few_rows = h.few_rows;
  few_columns = h.few_columns;
  held = held;
}

-- nothing is held, and nothing listed
pub IsIndexed-none : (n : ℕ) → n ≤ MAX_SUBJECTS → IsIndexed (empty_table n) (replicate n []) []
IsIndexed-none n few = record {
  rows = length-replicate n [];
  columns = omega arith;
  few_rows = few;
  few_columns = omega arith;
  held = record {
    within = λ s o held. absurd (false≢true (sym (held_empty s o) ∙ held));
    rows = λ s. row s (cases_lt s n) ∙ sym (listed-none MAX_OBJECTS (is_held set.empty s) (held_empty s));
    columns = λ o. sym (listed-none MAX_SUBJECTS (λ s. is_held set.empty s o) (λ s. held_empty s o));
  };
} where
  row : (s : ℕ) → (s < n) ⊎ (n ≤ s) → get_or (replicate {A = List ℕ} n []) s [] ≡ []
  row s (inl below) = get_or-replicate n s [] [] below
  row s (inr past) = let long : length (replicate {A = List ℕ} n []) ≡ n = length-replicate n [] in get_or_past (replicate {A = List ℕ} n []) s [] (omega arith)

module _ (p : ℕ → ℕ → Bool) (objects subjects : List (List ℕ)) (h : Indexes p objects subjects) where
  -- who is related to something has a list
  row_there : (s o : ℕ) → p s o ≡ true → s < length objects
  row_there s o is = from (cases_lt s (length objects)) where
    listed_there : list_any (eqb o) (get_or objects s []) ≡ true
    listed_there = ap (list_any (eqb o)) (h.rows s) ∙ list_any-listed (p s) o MAX_OBJECTS ∙ (λ i. is i && lt-ltb o MAX_OBJECTS (h.within s o is).1 i)

    from : (s < length objects) ⊎ (length objects ≤ s) → s < length objects
    from (inl below) = below
    from (inr past) = absurd (false≢true (ap (list_any (eqb o)) (sym (get_or_past objects s [] past)) ∙ listed_there))

  pub holders_below : (o k d : ℕ) → k < length (get_or subjects o []) → get_or (get_or subjects o []) k d < length objects
  holders_below o k d within =
      let there : list_any (eqb (get_or (get_or subjects o []) k d)) (get_or subjects o []) ≡ true = list_any_at _ (get_or subjects o []) k d within (eq-eqb _ _ refl) in
      row_there (get_or (get_or subjects o []) k d) o (and_parts (p (get_or (get_or subjects o []) k d) o) _ (sym (ap (list_any (eqb (get_or (get_or subjects o []) k d))) (h.columns o) ∙ list_any-listed (λ s. p s o) (get_or (get_or subjects o []) k d) MAX_SUBJECTS) ∙ there)).0

pub objects_listed : (b : TripleSet) (s : ℕ) (objects subjects : List (List ℕ)) → Indexes (is_held b) objects subjects → get_or objects s [] ≡ objects_of b s
unfolding objects_of
objects_listed b s objects subjects h = h.rows s

pub subjects_listed : (b : TripleSet) (o : ℕ) (objects subjects : List (List ℕ)) → Indexes (is_held b) objects subjects → get_or subjects o [] ≡ subjects_of b o
unfolding subjects_of
subjects_listed b o objects subjects h = h.columns o

covered : (a b : Bool) → (a ≡ true → b ≡ true) → (a && b) ≡ a
covered true b h = h refl
covered false b h = refl

-- who is listed
pub objects_each : (b : TripleSet) (s : ℕ) (objects subjects : List (List ℕ)) → Indexes (is_held b) objects subjects → (o : ℕ) → list_any (eqb o) (get_or objects s []) ≡ is_held b s o
objects_each b s objects subjects h o = ap (list_any (eqb o)) (h.rows s) ∙ list_any-listed (is_held b s) o MAX_OBJECTS ∙ covered (is_held b s o) (ltb o MAX_OBJECTS) (λ is. lt-ltb o MAX_OBJECTS (h.within s o is).1)

pub subjects_each : (b : TripleSet) (o : ℕ) (objects subjects : List (List ℕ)) → Indexes (is_held b) objects subjects → (s : ℕ) → list_any (eqb s) (get_or subjects o []) ≡ is_held b s o
subjects_each b o objects subjects h s = ap (list_any (eqb s)) (h.columns o) ∙ list_any-listed (λ a. is_held b a o) s MAX_SUBJECTS ∙ covered (is_held b s o) (ltb s MAX_SUBJECTS) (λ is. lt-ltb s MAX_SUBJECTS (h.within s o is).0)

-- to remove what isn't there changes nothing
pub remove-unknown : (b : TripleSet) (t : Triple) → set.contains b t ≡ false → set.remove b t ≡ b
remove-unknown b t none = same_triples _ _ (λ u. contains-remove-triple b t u ∙ from u (cases_Bool (is_triple u t))) where
  from : (u : Triple) → (is_triple u t ≡ true) ⊎ (is_triple u t ≡ false) → (not (is_triple u t) && set.contains b u) ≡ set.contains b u
  from u (inl same) = (λ i. not (same i) && set.contains b u) ∙ sym (ap (set.contains b) (is_triple-true u t same) ∙ none)
  from u (inr other) = λ i. not (other i) && set.contains b u

-- of an object without a column there is no triple
pub without_object-unknown : (n m : ℕ) (ts : TripleSet) (o : ℕ) → IsWithin n m ts → m ≤ o → without_object ts o ≡ ts
without_object-unknown n m ts o within past = same_triples _ _ (λ t. contains-without_object ts o t ∙ from t (cases_Bool (set.contains ts t))) where
  from : (t : Triple) → (set.contains ts t ≡ true) ⊎ (set.contains ts t ≡ false) → (set.contains ts t && not (eqb t.1 o)) ≡ set.contains ts t
  from t (inl there) = let low : t.1 < m = (within t there).1 in ap (λ e. set.contains ts t && not e) (ne_eqb t.1 o (λ same. omega arith)) ∙ and-true (set.contains ts t)
  from t (inr none) = (λ i. none i && not (eqb t.1 o)) ∙ sym none

-- where the first object of a group has no column, its triples needn't be removed
pub without_first-unknown : (n m : ℕ) (ts : TripleSet) (group : List ℕ) → IsWithin n m ts → 0 < length group → m ≤ get_or group 0 0 → without_objects ts (take 1 group) ≡ ts
without_first-unknown n m ts [] within some past = absurd (omega arith)
without_first-unknown n m ts (o ∷ group) within some past = sym (without_objects-first ts o []) ∙ without_objects-none (without_object ts o) ∙ without_object-unknown n m ts o within past

-- to remove the triples of some objects, and then those of more, is to remove those of all
pub without_objects-both : (ts : TripleSet) (g h : List ℕ) → without_objects (without_objects ts g) h ≡ without_objects ts (g ++ h)
without_objects-both ts g h = same_triples _ _ (λ t.
    contains-without_objects (without_objects ts g) h t
    ∙ ap (λ b. b && not (list_any (λ x. eqb x t.1) h)) (contains-without_objects ts g t)
    ∙ both (set.contains ts t) (list_any (λ x. eqb x t.1) g) (list_any (λ x. eqb x t.1) h)
    ∙ ap (λ b. set.contains ts t && not b) (sym (list_any-append (λ x. eqb x t.1) g h))
    ∙ sym (contains-without_objects ts (g ++ h) t)) where
      both : (a b c : Bool) → ((a && not b) && not c) ≡ (a && not (b || c))
      both true true c = refl
      both true false c = refl
      both false b c = refl

-- a first part of a group, and then the first part of the rest
pub without_objects-more : (ts : TripleSet) (group : List ℕ) (k n : ℕ) → without_objects (without_objects ts (take k group)) (take n (drop k group)) ≡ without_objects ts (take (k + n) group)
without_objects-more ts group k n = without_objects-both ts (take k group) (take n (drop k group)) ∙ ap (without_objects ts) (sym (take-add k n group))
