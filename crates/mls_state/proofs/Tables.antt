-- What the agreement of a state's tables says of a known subject and an active object.
use Rattle.std.proofs.Common.{◌≡◌, ℕ, ◌<◌, ◌≤◌, Bool, true, false, length, Some, refl, sym, ap, ◌∙◌, subst, arith, get_or}
use Rattle.std.specs.FinMap as map
use Rattle.std.specs.FinSet as set
use Rattle.mls_tables.specs.Triples.{Triple}
use Rattle.mls_tree.specs.Tree as tree
use Rattle.mls_state.specs.declared.state.State.TheInside.{Inside}
use Rattle.mls_state.specs.declared.subject.Subject.{Subject}
use Rattle.mls_state.specs.declared.subject.ObjectLabels.{ObjectLabels}
use Rattle.mls_state.specs.State.{is_subject, is_active}
use Rattle.mls_state.specs.Properties.{is_known, HasTree, HasWholeTables}
use Rattle.mls_state.specs.StateView.{state_of, Agrees}
use Rattle.mls_facts.proofs.Numbered.{within-numbered, is_some-numbered}
use Rattle.mls_facts.specs.Numbered.{holds_of}
use Rattle.mls_facts.proofs.Passing.{contains-passing}
use Rattle.std.proofs.lemmas.Bool.{and_parts}
use Rattle.std.specs.Prelude.{nat_lt, slice_get}
use Rattle.mls_state.proofs.Kept.{contains-kept, get-kept}

module _ {A : Type 0} (a : Inside A) where
  -- a known subject has a row
  pub subject_row : (s : ℕ) → is_subject (state_of a) s ≡ true → s < length a.subjects.items
  subject_row s known = within-numbered (λ (x : Subject). Some x.maximum) a.subjects.items s known

  module _ (h : Agrees a) where
    pub matrix_row : (s : ℕ) → is_subject (state_of a) s ≡ true → s < a.matrix.subjects
    matrix_row s known = rw h.matrix_rows (subject_row s known)

    pub access_row : (s : ℕ) → is_subject (state_of a) s ≡ true → s < a.accesses.subjects
    access_row s known = rw h.access_rows (subject_row s known)

    -- an object that the tree has, has labels
    has_labels : (o : ℕ) → tree.is_active a.tree.parent o ≡ true → o < length a.objects.items
    has_labels o active = h.labels o active

    -- the active objects are those of the tree
    pub active-tree : (o : ℕ) → is_active (state_of a) o ≡ tree.is_active a.tree.parent o
    active-tree o = contains-kept (λ (x : ObjectLabels). x.security) a.objects.items (tree.is_active a.tree.parent) o (has_labels o)

    pub ruleset in_the_tree = (active-tree)

    -- the known subjects are those below the number of rows
    pub known_below : (s : ℕ) → is_subject (state_of a) s ≡ nat_lt s a.matrix.subjects
    known_below s = is_some-numbered (λ (x : Subject). Some x.maximum) (λ _. refl) a.subjects.items s ∙ ap (nat_lt s) (sym h.matrix_rows)

    pub in_tree : (o : ℕ) → is_active (state_of a) o ≡ true → tree.is_active a.tree.parent o ≡ true
    in_tree o active = sym (active-tree o) ∙ active

    pub label_place : (o : ℕ) → is_active (state_of a) o ≡ true → o < length a.objects.items
    label_place o active = has_labels o (in_tree o active)

    pub matrix_column : (o : ℕ) → is_active (state_of a) o ≡ true → o < a.matrix.columns
    matrix_column o active = let below : o < length a.objects.items = label_place o active in let wide : length a.objects.items ≤ a.matrix.columns = h.matrix_columns in omega arith

    pub access_column : (o : ℕ) → is_active (state_of a) o ≡ true → o < a.accesses.columns
    access_column o active = let below : o < length a.objects.items = label_place o active in let wide : length a.objects.items ≤ a.accesses.columns = h.access_columns in omega arith

    -- where a known subject and an active object stand in a table
    pub ruleset matrix_place = (matrix_row, matrix_column)

    pub ruleset access_place = (access_row, access_column)

    pub ruleset both_places = (matrix_row, matrix_column, access_row, access_column)

    -- the labels at the place of an active object
    pub security-at : (o : ℕ) (x : ObjectLabels) → is_active (state_of a) o ≡ true → x ≡ get_or a.objects.items o x → map.get (state_of a).object_label o ≡ Some x.security
    security-at o x active is = get-kept (λ (y : ObjectLabels). y.security) a.objects.items (tree.is_active a.tree.parent) o x (in_tree o active) (label_place o active) is

    pub integrity-at : (o : ℕ) (x : ObjectLabels) → is_active (state_of a) o ≡ true → x ≡ get_or a.objects.items o x → map.get (state_of a).object_integrity o ≡ Some x.integrity
    integrity-at o x active is = get-kept (λ (y : ObjectLabels). y.integrity) a.objects.items (tree.is_active a.tree.parent) o x (in_tree o active) (label_place o active) is

    -- a triple of an unknown subject or of an object that isn't active is no access
    pub no_access : (t : Triple) → is_known (state_of a) t ≡ false → set.contains a.accesses.triples t ≡ false
    no_access t unknown = from (set.contains a.accesses.triples t) refl where
      from : (b : Bool) → set.contains a.accesses.triples t ≡ b → set.contains a.accesses.triples t ≡ false
      from true there = let known : is_known (state_of a) t ≡ true = h.accesses_known t there in cc
      from false there = there

    -- the objects are a tree, and triples name what is there
    pub has_tree : HasTree (state_of a)
    has_tree = record {
      objects = subst (tree.IsTree a.tree.parent) (λ i o. sym (active-tree o) i) h.tree;
      next = subst (λ active. tree.HasNext a.tree.profile active a.tree.next) (λ i o. sym (active-tree o) i) h.next;
      accesses_known = h.accesses_known;
      matrix_known = h.matrix_known;
    }

    -- each table has just the known subjects or the active objects
    pub has_whole_tables : HasWholeTables (state_of a)
    has_whole_tables = record {
      current = λ s. is_some-numbered (λ (x : Subject). Some x.current) (λ _. refl) a.subjects.items s ∙ sym (is_some-numbered (λ (x : Subject). Some x.maximum) (λ _. refl) a.subjects.items s);
      subject_integrity = λ s. is_some-numbered (λ (x : Subject). Some x.integrity) (λ _. refl) a.subjects.items s ∙ sym (is_some-numbered (λ (x : Subject). Some x.maximum) (λ _. refl) a.subjects.items s);
      trusted = λ s there. is_some-numbered (λ (x : Subject). Some x.maximum) (λ _. refl) a.subjects.items s ∙ (and_parts (nat_lt s (length a.subjects.items)) (holds_of (λ (x : Subject). x.trusted) (slice_get a.subjects.items s)) (sym (contains-passing (λ k. holds_of (λ (x : Subject). x.trusted) (slice_get a.subjects.items k)) (length a.subjects.items) s) ∙ there)).0;
      object_integrity = λ o. contains-kept (λ (x : ObjectLabels). x.integrity) a.objects.items (tree.is_active a.tree.parent) o (has_labels o) ∙ sym (active-tree o);
    }
