-- A state with more places for the labels of objects: what its fields stand for, and that they agree.
use Rattle.std.proofs.Common.{◌≡◌, ℕ, ◌<◌, ◌≤◌, Bool, true, false, cond, List, [], ◌∷◌, length, get_or, Option, Some, None, refl, sym, ap, subst, ◌∙◌, arith}
use Rattle.std.specs.Prelude.{slice_get, option_and_then, Result, Ok, Err, OnErr}
use Rattle.std.specs.Cmp.{nat_cmp_total}
use Rattle.std.specs.FinMap as map
use Rattle.std.specs.FinMap.{nat_cmp-IsAntisymmetric}
use Rattle.std.specs.FinSet as finset
use Rattle.std.proofs.lemmas.Option.{slice_get-get_or}
use Rattle.mls_facts.specs.Numbered.{numbered, places_of}
use Rattle.mls_facts.proofs.Numbered.{get-numbered}
use Rattle.mls_facts.proofs.Entries.{get-kept}
use Rattle.mls_tables.specs.Triples.{TripleSet}
use Rattle.mls_tree.specs.Tree.{Hierarchy, IsTree, HasNext, is_active}
use Rattle.mls_state.specs.declared.state.State.TheInside.{Inside}
use Rattle.mls_state.specs.declared.subject.Subject.{Subject}
use Rattle.mls_state.specs.declared.subject.ObjectLabels.{ObjectLabels}
use Rattle.mls_state.specs.First.{SameCells}
use Rattle.mls_state.specs.State.{State}
use Rattle.mls_state.specs.Properties.{Each, is_known}
use Rattle.mls_state.specs.StateView.{state_of, Agrees}

-- what is so is so of a fault
pub on_err : {X E : Type 0} {P : Type 0} (r : Result X E) → P → OnErr r P
on_err (Ok x) p = tt
on_err (Err e) p = p

-- lists that have the same at a place within both
slice_get-alike : {X : Type 0} (xs ys : List X) (q : ℕ) → ((d : X) → get_or ys q d ≡ get_or xs q d) → q < length xs → q < length ys → slice_get ys q ≡ slice_get xs q
slice_get-alike [] ys q same low high = absurd (omega arith)
slice_get-alike (x ∷ xs) ys q same low high = slice_get-get_or ys q x high ∙ ap Some (same x) ∙ sym (slice_get-get_or (x ∷ xs) q x low)

module _ {A : Type 0} (a b : Inside A) (h : Agrees a)
    (subjects : b.subjects.items ≡ a.subjects.items) (longer : length a.objects.items ≤ length b.objects.items)
    (labels : (k : ℕ) (d : ObjectLabels) → k < length a.objects.items → get_or b.objects.items k d ≡ get_or a.objects.items k d)
    (next : ℕ) (trees : b.tree ≡ record a.tree { next = next }) (permitted : SameCells a.matrix b.matrix) (accessed : SameCells a.accesses b.accesses)
    (security : b.security ≡ a.security) (integrity : b.integrity ≡ a.integrity) where
  -- what is active has its labels as before
  labels-padded : {X : Type 0} (f : ObjectLabels → X) → map.retain_keys (numbered (λ x. Some (f x)) b.objects.items) (is_active b.tree.parent)
      ≡ map.retain_keys (numbered (λ x. Some (f x)) a.objects.items) (is_active a.tree.parent)
  labels-padded {X} f =
      ap (λ (t : Hierarchy). map.retain_keys (numbered (λ x. Some (f x)) b.objects.items) (is_active t.parent)) trees
      ∙ map.same_map nat_cmp_total nat_cmp-IsAntisymmetric _ _ (λ q.
      get-kept (numbered (λ x. Some (f x)) b.objects.items) (is_active a.tree.parent) q
      ∙ from q (is_active a.tree.parent q) refl
      ∙ sym (get-kept (numbered (λ x. Some (f x)) a.objects.items) (is_active a.tree.parent) q)) where
        from : (q : ℕ) (c : Bool) → is_active a.tree.parent q ≡ c
            → cond c (map.get (numbered (λ x. Some (f x)) b.objects.items) q) None ≡ cond c (map.get (numbered (λ x. Some (f x)) a.objects.items) q) None
        from q true is =
            let low : q < length a.objects.items = h.labels q is in
            let high : q < length b.objects.items = omega (arith, low, longer) in
            get-numbered (λ x. Some (f x)) b.objects.items q
            ∙ ap (option_and_then (λ x. Some (f x))) (slice_get-alike a.objects.items b.objects.items q (λ d. labels q d low) low high)
            ∙ sym (get-numbered (λ x. Some (f x)) a.objects.items q)
        from q false is = refl

  pub state-padded : state_of b ≡ record (state_of a) { next = next }
  state-padded i = record {
    accesses = accessed.triples i;
    matrix = permitted.triples i;
    maximum = numbered (λ (s : Subject). Some s.maximum) (subjects i);
    current = numbered (λ (s : Subject). Some s.current) (subjects i);
    subject_integrity = numbered (λ (s : Subject). Some s.integrity) (subjects i);
    trusted = places_of (λ (s : Subject). s.trusted) (subjects i);
    object_label = labels-padded (λ (x : ObjectLabels). x.security) i;
    object_integrity = labels-padded (λ (x : ObjectLabels). x.integrity) i;
    parent = (trees i).parent;
    profile = (trees i).profile;
    next = (trees i).next;
    security = security i;
    integrity = integrity i;
  }

  pub agrees-padded : next ≤ length b.objects.items → length b.objects.items ≤ b.matrix.columns → length b.objects.items ≤ b.accesses.columns
      → HasNext a.tree.profile (is_active a.tree.parent) next → Agrees b
  agrees-padded place matrix_columns access_columns right = record {
    matrix_rows = permitted.rows ∙ h.matrix_rows ∙ ap length (sym subjects);
    access_rows = accessed.rows ∙ h.access_rows ∙ ap length (sym subjects);
    labels = λ o is.
        let old : o < length a.objects.items = h.labels o (ap (λ (t : Hierarchy). is_active t.parent o) (sym trees) ∙ is) in
        omega (arith, old, longer);
    place = rw trees place;
    matrix_columns = matrix_columns;
    access_columns = access_columns;
    tree = subst (λ (t : Hierarchy). IsTree t.parent (is_active t.parent)) (sym trees) h.tree;
    next = subst (λ (t : Hierarchy). HasNext t.profile (is_active t.parent) t.next) (sym trees) right;
    accesses_known = known b.accesses.triples (λ t there. h.accesses_known t (ap (λ ts. finset.contains ts t) (sym accessed.triples) ∙ there));
    matrix_known = known b.matrix.triples (λ t there. h.matrix_known t (ap (λ ts. finset.contains ts t) (sym permitted.triples) ∙ there));
  } where
    known : (ts : TripleSet) → Each ts (is_known (state_of a)) → Each ts (is_known (state_of b))
    known ts all = subst (λ (v : State). Each ts (is_known v)) (sym state-padded) all
