-- States with the same tables, and the first state: what they stand for, and that their tables agree.
use Rattle.std.proofs.Common.{◌≡◌, ℕ, Bool, true, false, cond, List, [], ◌∷◌, length, Option, Some, None, refl, sym, ap, ◌∙◌, arith, ◌&&◌}
use Rattle.std.specs.FinSet as set
use Rattle.std.specs.FinMap as map
use Rattle.mls_tables.specs.Triples.{Triple}
use Rattle.mls_tables.specs.Table.{Table}
use Rattle.mls_tree.specs.Tree as tree
use Rattle.mls_tree.specs.Tree.{Hierarchy}
use Rattle.mls_tree.specs.declared.profile.Profile.{Profile}
use Rattle.mls_tree.proofs.Laws.{root_alone, IsTree-root, HasNext-root}
use Rattle.mls_state.specs.declared.state.State.TheInside.{Inside}
use Rattle.mls_state.specs.declared.subject.Subject.{Subject}
use Rattle.mls_state.specs.declared.subject.ObjectLabels.{ObjectLabels}
use Rattle.mls_state.specs.Properties.{Each, is_known}
use Rattle.mls_state.specs.StateView.{state_of, Agrees}
use Rattle.mls_state.specs.First.{first_state}
use Rattle.std.specs.Ordering.{nat_cmp}
use Rattle.std.specs.Cmp.{nat_cmp_total}
use Rattle.std.specs.FinMap.{nat_cmp-IsAntisymmetric}
use Rattle.mls_facts.specs.Numbered.{numbered, places_of}
use Rattle.mls_facts.proofs.Numbered.{numbered-one}
use Rattle.mls_facts.proofs.Entries.{by_number, elsewhere, get-kept}
use Rattle.mls_state.proofs.EachTriple.{Each-empty}

module _ {A B : Type 0} (a : Inside A) (b : Inside B) (h : Agrees a)
    (subjects : b.subjects.items ≡ a.subjects.items) (objects : b.objects.items ≡ a.objects.items) (trees : b.tree ≡ a.tree)
    (matrices : b.matrix ≡ a.matrix) (accesses : b.accesses ≡ a.accesses) where
  known-same : (t : Triple) → is_known (state_of a) t ≡ is_known (state_of b) t
  known-same t i =
      map.contains_key (numbered (λ (s : Subject). Some s.maximum) (sym subjects i)) t.0
      && map.contains_key (map.retain_keys (numbered (λ (o : ObjectLabels). Some o.security) (sym objects i)) (tree.is_active (sym trees i).parent)) t.1

  -- the same tables agree
  pub agrees-same : Agrees b
  agrees-same = record {
    matrix_rows = ap (λ (m : Table). m.subjects) matrices ∙ h.matrix_rows ∙ ap length (sym subjects);
    access_rows = ap (λ (m : Table). m.subjects) accesses ∙ h.access_rows ∙ ap length (sym subjects);
    labels = rw (trees, objects) h.labels;
    place = rw (trees, objects) h.place;
    matrix_columns = rw (objects, matrices) h.matrix_columns;
    access_columns = rw (objects, accesses) h.access_columns;
    tree = rw trees h.tree;
    next = rw trees h.next;
    accesses_known = λ t there. sym (known-same t) ∙ h.accesses_known t (sym (ap (λ (m : Table). set.contains m.triples t) accesses) ∙ there);
    matrix_known = λ t there. sym (known-same t) ∙ h.matrix_known t (sym (ap (λ (m : Table). set.contains m.triples t) matrices) ∙ there);
  }

-- the tree of the root alone, and its next number
pub first_tree : (t : Hierarchy) (profile : Profile) → t ≡ record { profile = profile; parent = map.empty; next = 1 } → tree.IsTree t.parent (tree.is_active t.parent)
first_tree t profile is = rw is IsTree-root

pub first_next : (t : Hierarchy) (profile : Profile) → t ≡ record { profile = profile; parent = map.empty; next = 1 } → tree.HasNext t.profile (tree.is_active t.parent) t.next
first_next t profile is = rw is (HasNext-root profile)

-- of a list of one item and the tree of the root alone
pub kept-one : {A X : Type 0} (f : A → X) (a : A) → map.retain_keys (numbered (λ x. Some (f x)) (a ∷ [])) (tree.is_active map.empty) ≡ map.insert map.empty 0 (f a)
kept-one f a = map.same_map nat_cmp_total nat_cmp-IsAntisymmetric _ _ (λ q.
    get-kept (numbered (λ x. Some (f x)) (a ∷ [])) (tree.is_active map.empty) q
    ∙ ap (λ m. cond (tree.is_active map.empty q) (map.get m q) None) (numbered-one (λ x. Some (f x)) a (f a) refl)
    ∙ by_number 0 q (λ k. cond (tree.is_active map.empty k) (map.get {R = nat_cmp} (map.insert map.empty 0 (f a)) k) None ≡ map.get {R = nat_cmp} (map.insert map.empty 0 (f a)) k)
    refl
    (λ other. ap (λ e. cond (tree.is_active map.empty q) e None) (elsewhere map.empty 0 (f a) q other ∙ map.get-empty nat_cmp q) ∙ same_none (tree.is_active map.empty q) ∙ sym (elsewhere map.empty 0 (f a) q other ∙ map.get-empty nat_cmp q))) where
      same_none : {X : Type 0} (b : Bool) → cond {A = Option X} b None None ≡ None
      same_none true = refl
      same_none false = refl

module _ {A : Type 0} (b : Inside A) (subjects : List Subject) (root : ObjectLabels) (n : ℕ)
    (rows : b.subjects.items ≡ subjects) (objects : b.objects.items ≡ root ∷ []) (profile : Profile) (trees : b.tree ≡ record { profile = profile; parent = map.empty; next = 1 })
    (matrices : b.matrix ≡ record { subjects = n; columns = 1; triples = set.empty }) (accesses : b.accesses ≡ record { subjects = n; columns = 1; triples = set.empty }) where
  -- the first state is what its parts make
  pub state-first : state_of b ≡ first_state subjects root b.security b.integrity profile
  state-first =
      (λ i. record {
        accesses = (accesses i).triples;
        matrix = (matrices i).triples;
        maximum = numbered (λ (s : Subject). Some s.maximum) (rows i);
        current = numbered (λ (s : Subject). Some s.current) (rows i);
        subject_integrity = numbered (λ (s : Subject). Some s.integrity) (rows i);
        trusted = places_of (λ (s : Subject). s.trusted) (rows i);
        object_label = map.retain_keys (numbered (λ (o : ObjectLabels). Some o.security) (objects i)) (tree.is_active (trees i).parent);
        object_integrity = map.retain_keys (numbered (λ (o : ObjectLabels). Some o.integrity) (objects i)) (tree.is_active (trees i).parent);
        parent = (trees i).parent;
        profile = (trees i).profile;
        next = (trees i).next;
        security = b.security;
        integrity = b.integrity;
      })
      ∙ (λ i. record {
        accesses = set.empty;
        matrix = set.empty;
        maximum = numbered (λ (s : Subject). Some s.maximum) subjects;
        current = numbered (λ (s : Subject). Some s.current) subjects;
        subject_integrity = numbered (λ (s : Subject). Some s.integrity) subjects;
        trusted = places_of (λ (s : Subject). s.trusted) subjects;
        object_label = kept-one (λ (o : ObjectLabels). o.security) root i;
        object_integrity = kept-one (λ (o : ObjectLabels). o.integrity) root i;
        parent = map.empty;
        profile = profile;
        next = 1;
        security = b.security;
        integrity = b.integrity;
      })

  none-accesses : (p : Triple → Bool) → Each b.accesses.triples p
  none-accesses p = rw accesses (Each-empty p)

  none-matrix : (p : Triple → Bool) → Each b.matrix.triples p
  none-matrix p = rw matrices (Each-empty p)

  pub agrees-first : n ≡ length subjects → tree.IsTree b.tree.parent (tree.is_active b.tree.parent) → tree.HasNext b.tree.profile (tree.is_active b.tree.parent) b.tree.next → Agrees b
  agrees-first count is_tree has_next = record {
    matrix_rows = ap (λ (m : Table). m.subjects) matrices ∙ count ∙ ap length (sym rows);
    access_rows = ap (λ (m : Table). m.subjects) accesses ∙ count ∙ ap length (sym rows);
    labels = λ o is. let at : o ≡ 0 = root_alone o (ap (λ (t : Hierarchy). tree.is_active t.parent o) (sym trees) ∙ is) in rw objects (omega (arith, at));
    place = rw (trees, objects) (omega arith);
    matrix_columns = rw (objects, matrices) (omega arith);
    access_columns = rw (objects, accesses) (omega arith);
    tree = is_tree;
    next = has_next;
    accesses_known = none-accesses (is_known (state_of b));
    matrix_known = none-matrix (is_known (state_of b));
  }
