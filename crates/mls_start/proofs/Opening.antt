-- The state of the rows of a start: how it comes about, one object and one triple after the other.
use Rattle.std.proofs.Common.{◌≡◌, ℕ, suc, ◌+◌, ◌<◌, Bool, true, false, List, [], ◌∷◌, ◌++◌, length, map, drop, get_or, Option, Some, None, is_some, refl, sym, ap, ◌∙◌, arith, append_assoc, nat_eq, nat_lt, ◌||◌}
use Rattle.std.proofs.lemmas.Bool.Decides.{nat_tests}
use Rattle.std.proofs.lemmas.Bool.{or_right, and_parts}
use Rattle.std.proofs.lemmas.List.{append-nil, length-map, length_push, drop_more}
use Rattle.std.specs.FinMap as map
use Rattle.std.specs.Ordering.{nat_cmp}
use Rattle.std.specs.FinSet as set
use Rattle.mls_facts.specs.Numbered.{numbered}
use Rattle.mls_facts.proofs.Numbered.{numbered-push, numbered-one, numbered-none, is_some-numbered}
use Rattle.mls_facts.proofs.Entries.{has-inserted}
use Rattle.mls_labels.specs.Label.{Bounds}
use Rattle.mls_tables.specs.Triples.{Triple, triple_cmp}
use Rattle.mls_tables.proofs.Laws.{triples_total, same_triple}
use Rattle.mls_state.specs.declared.subject.Subject.{Subject}
use Rattle.mls_state.specs.declared.subject.ObjectLabels.{ObjectLabels}
use Rattle.mls_start.specs.declared.object_row.ObjectRow.{ObjectRow}
use Rattle.mls_state.specs.State.{State, is_subject, is_active}
use Rattle.mls_facts.proofs.Least.{least_failing-is}
use Rattle.mls_tables.specs.declared.limits.TheConstants.{MAX_OBJECTS}
use Rattle.mls_tree.specs.Tree.{next_number}
use Rattle.mls_tree.specs.declared.profile.Profile.{Profile}
use Rattle.mls_tree.specs.declared.profile.Profile.TheVariants.{One, Two}
use Rattle.mls_state.specs.Changes.{with_object}
use Rattle.mls_state.specs.First.{first_state, with_triples}
use Rattle.mls_start.specs.Growing.{with_row, with_rows, with_cells_and_accesses}
use Rattle.mls_start.specs.StartFaults.{parents_before}
use Rattle.mls_start.specs.Rows.{Rows, object_count, labels_of, parents_of, opening}

-- to insert triples one after the other is to take the set of the longer list
pub with_triples-from_list : (ks ts : List Triple) → with_triples (set.from_list {R = triple_cmp} ks) ts ≡ set.from_list {R = triple_cmp} (ks ++ ts)
with_triples-from_list ks [] = ap (λ l. set.from_list {R = triple_cmp} l) (sym (append-nil ks))
with_triples-from_list ks (t ∷ ts) =
    ap (λ b. with_triples b ts) (sym (set.from_list_push triples_total same_triple ks t))
    ∙ with_triples-from_list (ks ++ t ∷ []) ts
    ∙ ap (λ l. set.from_list {R = triple_cmp} l) (append_assoc ks (t ∷ []) ts)

-- a state whose objects have these labels and parents, in the order of their numbers
abbrev placed : State → List ObjectLabels → List (Option ℕ) → State
placed v labels parents = record v {
  object_label = numbered (λ (o : ObjectLabels). Some o.security) labels;
  object_integrity = numbered (λ (o : ObjectLabels). Some o.integrity) labels;
  parent = numbered (λ (parent : Option ℕ). parent) parents;
  next = length labels;
}

placed-row : (v : State) (labels : List ObjectLabels) (parents : List (Option ℕ)) (o : ObjectRow) → length parents ≡ length labels
    → with_row (placed v labels parents) o ≡ placed v (labels ++ o.labels ∷ []) (parents ++ Some o.parent ∷ [])
placed-row v labels parents o as_many i = record v {
  object_label = sym (numbered-push (λ (x : ObjectLabels). Some x.security) labels o.labels o.labels.security refl) i;
  object_integrity = sym (numbered-push (λ (x : ObjectLabels). Some x.integrity) labels o.labels o.labels.integrity refl) i;
  parent = (ap (λ n. map.insert (numbered (λ (parent : Option ℕ). parent) parents) n o.parent) (sym as_many)
      ∙ sym (numbered-push (λ (parent : Option ℕ). parent) parents (Some o.parent) o.parent refl)) i;
  next = sym (length_push labels o.labels) i;
}

placed-rows : (v : State) (labels : List ObjectLabels) (parents : List (Option ℕ)) (objects : List ObjectRow) → length parents ≡ length labels
    → with_rows (placed v labels parents) objects ≡ placed v (labels ++ map (λ o. o.labels) objects) (parents ++ map (λ o. Some o.parent) objects)
placed-rows v labels parents [] as_many = λ i. placed v (sym (append-nil labels) i) (sym (append-nil parents) i)
placed-rows v labels parents (o ∷ objects) as_many =
    let more : length (parents ++ Some o.parent ∷ []) ≡ length (labels ++ o.labels ∷ []) = length_push parents (Some o.parent) ∙ ap (λ n. n + 1) as_many ∙ sym (length_push labels o.labels) in
    ap (λ (w : State). with_rows w objects) (placed-row v labels parents o as_many)
    ∙ placed-rows v (labels ++ o.labels ∷ []) (parents ++ Some o.parent ∷ []) objects more
    ∙ (λ i. placed v (append_assoc labels (o.labels ∷ []) (map (λ x. x.labels) objects) i) (append_assoc parents (Some o.parent ∷ []) (map (λ x. Some x.parent) objects) i))

placed-first : (subjects : List Subject) (root : ObjectLabels) (security integrity : Bounds) (profile : Profile)
    → first_state subjects root security integrity profile ≡ placed (first_state subjects root security integrity profile) (root ∷ []) (None ∷ [])
placed-first subjects root security integrity profile i = record (first_state subjects root security integrity profile) {
  object_label = sym (numbered-one (λ (x : ObjectLabels). Some x.security) root root.security refl) i;
  object_integrity = sym (numbered-one (λ (x : ObjectLabels). Some x.integrity) root root.integrity refl) i;
  parent = sym (numbered-none (λ (parent : Option ℕ). parent) None refl) i;
}

pub length-labels : (rows : Rows) → length (labels_of rows) ≡ object_count rows
length-labels rows = let below : length (map (λ (o : ObjectRow). o.labels) rows.objects) ≡ length rows.objects = length-map rows.objects (λ o. o.labels) in omega arith

-- the first state with the objects and then the triples is the opening
pub opened : (rows : Rows) (cells accesses : List Triple) (v : State)
    → v ≡ with_rows (first_state rows.subjects rows.root rows.security rows.integrity rows.profile) rows.objects
    → set.from_list {R = triple_cmp} cells ≡ rows.cells → set.from_list {R = triple_cmp} accesses ≡ rows.accesses
    → with_cells_and_accesses v cells accesses ≡ opening rows
unfolding opening
opened rows cells accesses v is all accessed =
    let first = first_state rows.subjects rows.root rows.security rows.integrity rows.profile in
    ap (λ (w : State). with_cells_and_accesses w cells accesses) (is
    ∙ ap (λ (w : State). with_rows w rows.objects) (placed-first rows.subjects rows.root rows.security rows.integrity rows.profile)
    ∙ placed-rows first (rows.root ∷ []) (None ∷ []) rows.objects refl)
    ∙ (λ i. record (placed first (labels_of rows) (parents_of rows)) {
      matrix = (with_triples-from_list [] cells ∙ all) i;
      accesses = (with_triples-from_list [] accesses ∙ accessed) i;
      next = length-labels rows i;
    })

-- the objects are those below their count, and the subjects too
pub active_opening : (rows : Rows) (o : ℕ) → is_active (opening rows) o ≡ nat_lt o (object_count rows)
unfolding opening
active_opening rows o = is_some-numbered (λ (x : ObjectLabels). Some x.security) (λ _. refl) (labels_of rows) o ∙ ap (nat_lt o) (length-labels rows)

pub subject_opening : (rows : Rows) (s : ℕ) → is_subject (opening rows) s ≡ nat_lt s (length rows.subjects)
unfolding opening
subject_opening rows s = is_some-numbered (λ (x : Subject). Some x.maximum) (λ _. refl) rows.subjects s

-- what is active or known there stays so with objects more
pub active_rows : (v : State) (objects : List ObjectRow) (o : ℕ) → is_active v o ≡ true → is_active (with_rows v objects) o ≡ true
active_rows v [] o active = active
active_rows v (x ∷ objects) o active = active_rows (with_row v x) objects o (has-inserted v.object_label v.next x.labels.security o ∙ or_right (nat_eq o v.next) (is_active v o) active)

or_next : (q n : ℕ) (same less : Bool) → nat_eq q n ≡ same → nat_lt q n ≡ less → (same || less) ≡ nat_lt q (n + 1)
or_next q n true less is below = let there : nat_lt q (n + 1) ≡ true = grind (arith, nat_tests, is) in sym there
or_next q n false true is below = let there : nat_lt q (n + 1) ≡ true = grind (arith, nat_tests, below) in sym there
or_next q n false false is below = let past : nat_lt q (n + 1) ≡ false = grind (arith, nat_tests, is, below) in sym past

-- the objects of the first state are those below 1: the root
pub active-first : (subjects : List Subject) (root : ObjectLabels) (security integrity : Bounds) (profile : Profile) (o : ℕ)
    → is_active (first_state subjects root security integrity profile) o ≡ nat_lt o 1
active-first subjects root security integrity profile o =
    let none : nat_lt o 0 ≡ false = grind (arith, nat_tests) in
    has-inserted map.empty 0 root.security o
    ∙ ap (λ b. nat_eq o 0 || b) (ap is_some (map.get-empty nat_cmp o) ∙ sym none)
    ∙ or_next o 0 (nat_eq o 0) (nat_lt o 0) refl refl

-- where the objects are those below the next number, they are so with one object more
module _ (v : State) (o : ObjectRow) (active : (q : ℕ) → is_active v q ≡ nat_lt q v.next) where
  pub active_row : (q : ℕ) → is_active (with_row v o) q ≡ nat_lt q (v.next + 1)
  active_row q =
      has-inserted v.object_label v.next o.labels.security q
      ∙ ap (λ b. nat_eq q v.next || b) (active q)
      ∙ or_next q v.next (nat_eq q v.next) (nat_lt q v.next) refl refl

  -- each number below the next is active
  pub active_below : (q : ℕ) → q < v.next → is_active v q ≡ true
  active_below q below = let there : nat_lt q v.next ≡ true = grind (arith, nat_tests, below) in active q ∙ there

  next_is : (p : Profile) → v.next < MAX_OBJECTS → next_number p (v.next + 1) (is_active (with_row v o)) ≡ v.next + 1
  next_is One room = refl
  next_is Two room =
      least_failing-is (is_active (with_row v o)) MAX_OBJECTS 0 (v.next + 1) (omega arith) (omega arith)
      (λ q low below. let there : nat_lt q (v.next + 1) ≡ true = grind (arith, nat_tests, below) in active_row q ∙ there)
      (λ high. let past : nat_lt (v.next + 1) (v.next + 1) ≡ false = grind (arith, nat_tests) in active_row (v.next + 1) ∙ past)

  -- and the next number is then the one after, in both profiles
  pub added_row : v.next < MAX_OBJECTS → with_object v o.parent o.labels.security o.labels.integrity ≡ with_row v o
  added_row room i = record (with_row v o) { next = next_is v.profile room i }

module _ (objects : List ObjectRow) (i : ℕ) (o : ObjectRow) (within : i < length objects) (at : o ≡ get_or objects i o) where
  next_row : drop i objects ≡ o ∷ drop (i + 1) objects
  next_row = drop_more objects i o within ∙ ap (λ x. x ∷ drop (i + 1) objects) (sym at)

  -- with the next object more, the objects after it are left
  pub rows_left : (v : State) → with_rows (with_row v o) (drop (i + 1) objects) ≡ with_rows v (drop i objects)
  rows_left v = ap (with_rows v) (sym next_row)

  -- the next object's parent is before it, and those of the objects after it before these
  pub parents_left : (n : ℕ) → parents_before n (drop i objects) ≡ true → (o.parent < n) × (parents_before (n + 1) (drop (i + 1) objects) ≡ true)
  parents_left n all =
      let both = and_parts (nat_lt o.parent n) (parents_before (suc n) (drop (i + 1) objects)) (ap (parents_before n) (sym next_row) ∙ all) in
      let less : o.parent < n = grind (arith, nat_tests, both.0) in
      let more : suc n ≡ n + 1 = omega arith in
      (less, ap (λ k. parents_before k (drop (i + 1) objects)) (sym more) ∙ both.1)
