-- A state with one object more: what its fields stand for, and that they agree.
use Rattle.std.proofs.Common.{◌≡◌, ℕ, ◌+◌, ◌<◌, ◌≤◌, ◌⊎◌, inl, inr, Bool, true, false, cond, set, List, [], ◌∷◌, ◌++◌, length, arith, Some, None, is_some, refl, sym, ap, subst, ◌∙◌, nat_eq, ◌||◌}
use Rattle.std.specs.Prelude.{◌==◌}
use Rattle.std.specs.Ordering.{nat_cmp}
use Rattle.std.specs.Cmp.{nat_cmp_total}
use Rattle.std.specs.FinMap as map
use Rattle.std.specs.FinMap.{FinMap, nat_cmp-IsAntisymmetric}
use Rattle.std.proofs.lemmas.Bool.{cases_Bool, cases_eq, eqb-true, ne_eqb, or_right}
use Rattle.std.proofs.lemmas.Bool.Decides.{nat_tests}
use Rattle.mls_facts.specs.Numbered.{numbered, places_of}
use Rattle.mls_facts.specs.Places.{placed}
use Rattle.mls_facts.proofs.Numbered.{numbered-push}
use Rattle.mls_facts.proofs.Entries.{has-inserted, by_number, at_new, elsewhere, get-kept}
use Rattle.mls_facts.proofs.Places.{length-placed}
use Rattle.mls_labels.specs.Label.{Label}
use Rattle.mls_tables.specs.Triples.{TripleSet}
use Rattle.std.specs.FinSet as finset
use Rattle.mls_tree.specs.Tree.{Hierarchy, IsTree, HasNext, is_active, next_number, with_parents}
use Rattle.mls_tree.proofs.Laws.{is_active-insert, next_number-same, next_most}
use Rattle.mls_state.specs.declared.state.State.TheInside.{Inside}
use Rattle.mls_state.specs.declared.subject.Subject.{Subject}
use Rattle.mls_state.specs.declared.subject.ObjectLabels.{ObjectLabels}
use Rattle.mls_state.specs.State.{State}
use Rattle.mls_state.specs.State as states
use Rattle.mls_state.specs.Properties.{Each, is_known}
use Rattle.mls_state.specs.Changes.{renumbered}
use Rattle.mls_state.specs.StateView.{state_of, Agrees}
use Rattle.mls_state.proofs.NumberedSet.{numbered-set}
use Rattle.mls_state.proofs.Tables.{active-tree}
use Rattle.mls_state.proofs.TreeKept.{known_still}

-- the new object is active, and any other as before
pub active_new : (parent : FinMap nat_cmp ℕ) (n p : ℕ) → is_active (map.insert parent n p) n ≡ true
active_new parent n p = ap (λ e. n == 0 || is_some e) (at_new parent n p) ∙ or_right (n == 0) true refl

pub active_other : (parent : FinMap nat_cmp ℕ) (n p q : ℕ) → nat_eq q n ≡ false → is_active (map.insert parent n p) q ≡ is_active parent q
active_other parent n p q other = ap (λ e. q == 0 || is_some e) (elsewhere parent n p q other)

-- to place an item is to enter it
pub numbered-placed : {A X : Type 0} (f : A → X) (items : List A) (n : ℕ) (a : A) → n ≤ length items
    → numbered (λ x. Some (f x)) (placed items n a) ≡ map.insert (numbered (λ x. Some (f x)) items) n (f a)
numbered-placed {A} {X} f items n a within = from (cases_Bool (nat_eq n (length items))) where
  from : (nat_eq n (length items) ≡ true) ⊎ (nat_eq n (length items) ≡ false) → numbered (λ x. Some (f x)) (placed items n a) ≡ map.insert (numbered (λ x. Some (f x)) items) n (f a)
  from (inl end) =
      ap (λ b. numbered (λ x. Some (f x)) (cond b (items ++ a ∷ []) (set items n a))) end
      ∙ numbered-push (λ x. Some (f x)) items a (f a) refl ∙ ap (λ k. map.insert (numbered (λ x. Some (f x)) items) k (f a)) (sym (eqb-true n (length items) end))
  from (inr inside) =
      let low : n < length items = grind (arith, nat_tests, inside, within) in
      ap (λ b. numbered (λ x. Some (f x)) (cond b (items ++ a ∷ []) (set items n a))) inside ∙ numbered-set f items n a low

module _ {A X : Type 0} (f : A → X) (items : List A) (a : A) (parent : FinMap nat_cmp ℕ) (p : ℕ) where
  -- to place labels and to add their object is to enter them
  pub kept-placed : (n : ℕ) → n ≤ length items
      → map.retain_keys (numbered (λ x. Some (f x)) (placed items n a)) (is_active (map.insert parent n p)) ≡ map.insert (map.retain_keys (numbered (λ x. Some (f x)) items) (is_active parent)) n (f a)
  kept-placed n within = map.same_map nat_cmp_total nat_cmp-IsAntisymmetric _ _ (λ q.
      get-kept (numbered (λ x. Some (f x)) (placed items n a)) (is_active (map.insert parent n p)) q
      ∙ ap (λ m. cond (is_active (map.insert parent n p) q) (map.get m q) None) (numbered-placed f items n a within)
      ∙ by_number n q (λ k. cond (is_active (map.insert parent n p) k) (map.get (map.insert (numbered (λ x. Some (f x)) items) n (f a)) k) None ≡ map.get (map.insert (map.retain_keys (numbered (λ x. Some (f x)) items) (is_active parent)) n (f a)) k)
      ((λ i. cond (active_new parent n p i) (at_new (numbered (λ x. Some (f x)) items) n (f a) i) None) ∙ sym (at_new (map.retain_keys (numbered (λ x. Some (f x)) items) (is_active parent)) n (f a)))
      (λ other. (λ i. cond (active_other parent n p q other i) (elsewhere (numbered (λ x. Some (f x)) items) n (f a) q other i) None)
      ∙ sym (get-kept (numbered (λ x. Some (f x)) items) (is_active parent) q)
      ∙ sym (elsewhere (map.retain_keys (numbered (λ x. Some (f x)) items) (is_active parent)) n (f a) q other)))

-- at a place within, an item is put in place of what stands there
pub placed_inside : {X : Type 0} (xs : List X) (n : ℕ) (x : X) → n < length xs → placed xs n x ≡ set xs n x
placed_inside xs n x within = ap (λ b. cond b (xs ++ x ∷ []) (set xs n x)) (ne_eqb n (length xs) (λ end. omega (arith, within, end)))

-- a state with an object of a number, and with a next number as if this were given
abbrev pub grown : State → ℕ → ℕ → ℕ → Label → Label → State
grown v n given p l i = renumbered (record v {
  object_label = map.insert v.object_label n l;
  object_integrity = map.insert v.object_integrity n i;
  parent = map.insert v.parent n p;
}) given

-- the state with one object more: what its fields stand for, and that they agree
module _ {A : Type 0} (a b : Inside A) (h : Agrees a) (n given p : ℕ) (l : ObjectLabels) (at : n ≤ length a.objects.items)
    (subjects : b.subjects.items ≡ a.subjects.items) (objects : b.objects.items ≡ placed a.objects.items n l)
    (trees : b.tree ≡ with_parents a.tree (map.insert a.tree.parent n p) given)
    (matrix_rows : b.matrix.subjects ≡ a.matrix.subjects) (matrix_triples : b.matrix.triples ≡ a.matrix.triples)
    (matrix_columns : a.matrix.columns ≤ b.matrix.columns) (matrix_wide : n < b.matrix.columns)
    (access_rows : b.accesses.subjects ≡ a.accesses.subjects) (access_triples : b.accesses.triples ≡ a.accesses.triples)
    (access_columns : a.accesses.columns ≤ b.accesses.columns) (access_wide : n < b.accesses.columns)
    (security : b.security ≡ a.security) (integrity : b.integrity ≡ a.integrity) where
  abbrev m : FinMap nat_cmp ℕ
  m = map.insert a.tree.parent n p

  labels-placed : {X : Type 0} (f : ObjectLabels → X) → map.retain_keys (numbered (λ x. Some (f x)) b.objects.items) (is_active b.tree.parent)
      ≡ map.insert (map.retain_keys (numbered (λ x. Some (f x)) a.objects.items) (is_active a.tree.parent)) n (f l)
  labels-placed f =
      (λ i. map.retain_keys (numbered (λ x. Some (f x)) (objects i)) (is_active (trees i).parent))
      ∙ kept-placed f a.objects.items l a.tree.parent p n at

  abbrev grown_labels : FinMap nat_cmp Label
  grown_labels = map.insert (state_of a).object_label n l.security

  -- what is active in the tree has labels
  active-grown : (o : ℕ) → is_active m o ≡ map.contains_key grown_labels o
  active-grown o =
      is_active-insert a.tree.parent n p o ∙ ap (λ c. nat_eq o n || c) (sym (active-tree a h o))
      ∙ sym (has-inserted (state_of a).object_label n l.security o)

  pub state-grown : state_of b ≡ grown (state_of a) n given p l.security l.integrity
  state-grown i = record {
    accesses = access_triples i;
    matrix = matrix_triples i;
    maximum = numbered (λ (s : Subject). Some s.maximum) (subjects i);
    current = numbered (λ (s : Subject). Some s.current) (subjects i);
    subject_integrity = numbered (λ (s : Subject). Some s.integrity) (subjects i);
    trusted = places_of (λ (s : Subject). s.trusted) (subjects i);
    object_label = labels-placed (λ (x : ObjectLabels). x.security) i;
    object_integrity = labels-placed (λ (x : ObjectLabels). x.integrity) i;
    parent = (trees i).parent;
    profile = (trees i).profile;
    next = (ap (λ (t : Hierarchy). t.next) trees ∙ next_number-same a.tree.profile given (is_active m) (λ o. map.contains_key grown_labels o) active-grown) i;
    security = security i;
    integrity = integrity i;
  }

  -- triples of the state name known subjects and active objects of the grown one
  known_more : (ts : TripleSet) → Each ts (is_known (state_of a)) → Each ts (is_known (grown (state_of a) n given p l.security l.integrity))
  known_more ts known t there = known_still (state_of a) (grown (state_of a) n given p l.security l.integrity) t refl
      (λ is. has-inserted (state_of a).object_label n l.security t.1 ∙ or_right (nat_eq t.1 n) (states.is_active (state_of a) t.1) is) (known t there)

  pub agrees-grown : given ≤ length (placed a.objects.items n l) → IsTree b.tree.parent (is_active b.tree.parent) → HasNext b.tree.profile (is_active b.tree.parent) b.tree.next → Agrees b
  agrees-grown fits is_tree has_next = record {
    matrix_rows = matrix_rows ∙ h.matrix_rows ∙ ap length (sym subjects);
    access_rows = access_rows ∙ h.access_rows ∙ ap length (sym subjects);
    labels = labels;
    place = place;
    matrix_columns = wide a.matrix.columns b.matrix.columns h.matrix_columns matrix_columns matrix_wide;
    access_columns = wide a.accesses.columns b.accesses.columns h.access_columns access_columns access_wide;
    tree = is_tree;
    next = has_next;
    accesses_known = known_in b.accesses.triples (λ t there. known_more a.accesses.triples h.accesses_known t (ap (λ ts. finset.contains ts t) (sym access_triples) ∙ there));
    matrix_known = known_in b.matrix.triples (λ t there. known_more a.matrix.triples h.matrix_known t (ap (λ ts. finset.contains ts t) (sym matrix_triples) ∙ there));
  } where
    known_in : (ts : TripleSet) → Each ts (is_known (grown (state_of a) n given p l.security l.integrity)) → Each ts (is_known (state_of b))
    known_in ts all = subst (λ (v : State). Each ts (is_known v)) (sym state-grown) all

    sizes : (length a.objects.items ≤ length (placed a.objects.items n l)) × (n < length (placed a.objects.items n l)) × (length (placed a.objects.items n l) ≡ cond (nat_eq n (length a.objects.items)) (length a.objects.items + 1) (length a.objects.items))
    sizes = length-placed a.objects.items n l at

    longer : length a.objects.items ≤ length b.objects.items
    longer = rw objects sizes.0

    there : n < length b.objects.items
    there = rw objects sizes.1

    labels : (o : ℕ) → is_active b.tree.parent o ≡ true → o < length b.objects.items
    labels o is = from (cases_eq o n) where
      now : (nat_eq o n || is_active a.tree.parent o) ≡ true
      now = sym (is_active-insert a.tree.parent n p o) ∙ ap (λ (t : Hierarchy). is_active t.parent o) (sym trees) ∙ is

      from : (o ≡ n) ⊎ (o ≡ n → ⊥) → o < length b.objects.items
      from (inl same) = omega (arith, same, there)
      from (inr other) =
          let old : o < length a.objects.items = h.labels o (sym (ap (λ c. c || is_active a.tree.parent o) (ne_eqb o n other)) ∙ now) in
          omega (arith, old, longer)

    -- the next number has a place, or is the first behind all
    place : b.tree.next ≤ length b.objects.items
    place =
        let most = next_most a.tree.profile (is_active b.tree.parent) (given) (length b.objects.items) (rw objects fits) labels in
        rw (ap (λ (t : Hierarchy). t.next) trees ∙ ap (λ (t : Hierarchy). next_number a.tree.profile (given) (is_active t.parent)) (sym trees)) most

    wide : (old new : ℕ) → length a.objects.items ≤ old → old ≤ new → n < new → length b.objects.items ≤ new
    wide old new fits longer_columns room = from (nat_eq n (length a.objects.items)) refl where
      from : (c : Bool) → nat_eq n (length a.objects.items) ≡ c → length b.objects.items ≤ new
      from true end =
          let long : length b.objects.items ≡ length a.objects.items + 1 = ap length objects ∙ sizes.2 ∙ ap (λ c. cond c (length a.objects.items + 1) (length a.objects.items)) end in
          let at : n ≡ length a.objects.items = eqb-true n (length a.objects.items) end in
          omega (arith, long, at, room)
      from false inside =
          let long : length b.objects.items ≡ length a.objects.items = ap length objects ∙ sizes.2 ∙ ap (λ c. cond c (length a.objects.items + 1) (length a.objects.items)) inside in
          omega (arith, long, fits, longer_columns)
