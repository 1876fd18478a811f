-- A state without the inferiors of an object: what it stands for, and that its tables agree.
use Rattle.std.proofs.Common.{◌≡◌, ℕ, ◌<◌, ◌≤◌, Bool, true, length, sym, ap, ◌∙◌, ◌&&◌, not, nat_eq, Some}
use Rattle.std.proofs.lemmas.Bool.{and_parts}
use Rattle.std.specs.List.{list_any}
use Rattle.std.specs.Cmp.{nat_eq_equiv}
use Rattle.std.specs.FinSet as set
use Rattle.std.specs.FinMap as map
use Rattle.mls_tables.specs.Triples.{TripleSet}
use Rattle.mls_tables.proofs.Laws.{same_triples, contains-without_objects}
use Rattle.mls_tables.specs.Table.{Table, without_objects}
use Rattle.mls_tree.specs.Tree as tree
use Rattle.mls_tree.specs.Tree.{Hierarchy, is_inferior, inferiors, next_number, with_parents}
use Rattle.mls_tree.proofs.Laws.{list_any-inferiors, is_active-retain, next_number-same, next_most}
use Rattle.mls_state.specs.declared.state.State.TheInside.{Inside}
use Rattle.mls_state.specs.declared.subject.Subject.{Subject}
use Rattle.mls_state.specs.declared.subject.ObjectLabels.{ObjectLabels}
use Rattle.mls_state.specs.Properties.{HasTree}
use Rattle.mls_state.specs.Changes.{stays, without_group}
use Rattle.mls_state.specs.StateView.{state_of, Agrees}
use Rattle.mls_facts.specs.Numbered.{numbered, places_of}
use Rattle.mls_facts.proofs.Entries.{has-kept, retain_keys-twice}
use Rattle.mls_state.proofs.EachTriple.{contains-retain-triple}
use Rattle.mls_state.proofs.Tables.{active-tree, has_tree}
use Rattle.mls_state.proofs.TreeKept.{delete_tree}

module _ {A : Type 0} (a b : Inside A) (h : Agrees a) (o : ℕ) (other : o ≡ 0 → ⊥)
    (subjects : b.subjects.items ≡ a.subjects.items) (objects : b.objects.items ≡ a.objects.items)
    (trees : b.tree ≡ with_parents a.tree (map.retain_keys a.tree.parent (λ x. not (is_inferior a.tree.parent x o))) a.tree.next)
    (matrices : b.matrix ≡ record a.matrix { triples = without_objects a.matrix.triples (inferiors a.tree.parent o) })
    (accesses : b.accesses ≡ record a.accesses { triples = without_objects a.accesses.triples (inferiors a.tree.parent o) })
    (security : b.security ≡ a.security) (integrity : b.integrity ≡ a.integrity) where
  stay : ℕ → Bool
  stay x = not (is_inferior a.tree.parent x o)

  -- a triple is of the group exactly where its object is an inferior
  of_group : (x : ℕ) → list_any (λ y. nat_eq y x) (inferiors a.tree.parent o) ≡ is_inferior a.tree.parent x o
  of_group x = (λ i. list_any (λ y. nat_eq_equiv.symm y x i) (inferiors a.tree.parent o)) ∙ list_any-inferiors a.tree.parent h.tree x o

  triples-removed : (ts : TripleSet) → without_objects ts (inferiors a.tree.parent o) ≡ set.retain ts (λ t. stays (state_of a) o t.1)
  triples-removed ts = same_triples _ _ (λ t.
      contains-without_objects ts (inferiors a.tree.parent o) t
      ∙ ap (λ b. set.contains ts t && not b) (of_group t.1)
      ∙ sym (contains-retain-triple ts (λ t. stays (state_of a) o t.1) t))

  labels-removed : {X : Type 0} (f : ObjectLabels → X) → map.retain_keys (numbered (λ x. Some (f x)) b.objects.items) (tree.is_active b.tree.parent)
      ≡ map.retain_keys (map.retain_keys (numbered (λ x. Some (f x)) a.objects.items) (tree.is_active a.tree.parent)) (stays (state_of a) o)
  labels-removed f =
      (λ i. map.retain_keys (numbered (λ x. Some (f x)) (objects i)) (tree.is_active (trees i).parent))
      ∙ (λ i. map.retain_keys (numbered (λ x. Some (f x)) a.objects.items) (λ x. is_active-retain a.tree.parent o h.tree other x i))
      ∙ sym (retain_keys-twice (numbered (λ x. Some (f x)) a.objects.items) (tree.is_active a.tree.parent) (stays (state_of a) o))

  -- what stays active in the tree keeps its labels
  active-removed : (x : ℕ) → tree.is_active (map.retain_keys a.tree.parent (λ y. not (is_inferior a.tree.parent y o))) x ≡ map.contains_key (map.retain_keys (state_of a).object_label (stays (state_of a) o)) x
  active-removed x =
      is_active-retain a.tree.parent o h.tree other x ∙ ap (λ c. c && not (is_inferior a.tree.parent x o)) (sym (active-tree a h x))
      ∙ sym (has-kept (state_of a).object_label (stays (state_of a) o) x)

  pub state-removed : state_of b ≡ without_group (state_of a) o
  state-removed i = record {
    accesses = (ap (λ (t : Table). t.triples) accesses ∙ triples-removed a.accesses.triples) i;
    matrix = (ap (λ (t : Table). t.triples) matrices ∙ triples-removed a.matrix.triples) i;
    maximum = numbered (λ (s : Subject). Some s.maximum) (subjects i);
    current = numbered (λ (s : Subject). Some s.current) (subjects i);
    subject_integrity = numbered (λ (s : Subject). Some s.integrity) (subjects i);
    trusted = places_of (λ (s : Subject). s.trusted) (subjects i);
    object_label = labels-removed (λ (x : ObjectLabels). x.security) i;
    object_integrity = labels-removed (λ (x : ObjectLabels). x.integrity) i;
    parent = (trees i).parent;
    profile = (trees i).profile;
    next = (ap (λ (t : Hierarchy). t.next) trees ∙ next_number-same a.tree.profile a.tree.next _ (λ x. map.contains_key (map.retain_keys (state_of a).object_label (stays (state_of a) o)) x) active-removed) i;
    security = security i;
    integrity = integrity i;
  }

  still : HasTree (without_group (state_of a) o)
  still = delete_tree (state_of a) o (has_tree a h) other

  -- the tables agree
  pub agrees-removed : tree.IsTree b.tree.parent (tree.is_active b.tree.parent) → tree.HasNext b.tree.profile (tree.is_active b.tree.parent) b.tree.next → Agrees b
  agrees-removed is_tree has_next = record {
    matrix_rows = ap (λ (t : Table). t.subjects) matrices ∙ h.matrix_rows ∙ ap length (sym subjects);
    access_rows = ap (λ (t : Table). t.subjects) accesses ∙ h.access_rows ∙ ap length (sym subjects);
    labels = labels;
    place = place;
    matrix_columns = rw (objects, matrices) h.matrix_columns;
    access_columns = rw (objects, accesses) h.access_columns;
    tree = is_tree;
    next = has_next;
    accesses_known = (rw (sym state-removed) at still).accesses_known;
    matrix_known = (rw (sym state-removed) at still).matrix_known;
  } where
    labels : (x : ℕ) → tree.is_active b.tree.parent x ≡ true → x < length b.objects.items
    labels x is =
        let kept = sym (is_active-retain a.tree.parent o h.tree other x) ∙ ap (λ (t : Hierarchy). tree.is_active t.parent x) (sym trees) ∙ is in
        rw objects (h.labels x (and_parts (tree.is_active a.tree.parent x) (not (is_inferior a.tree.parent x o)) kept).0)

    place : b.tree.next ≤ length b.objects.items
    place =
        let fits : a.tree.next ≤ length b.objects.items = rw objects h.place in
        let most = next_most a.tree.profile (tree.is_active b.tree.parent) a.tree.next (length b.objects.items) fits labels in
        rw (ap (λ (t : Hierarchy). t.next) trees ∙ ap (λ (t : Hierarchy). next_number a.tree.profile a.tree.next (tree.is_active t.parent)) (sym trees)) most
