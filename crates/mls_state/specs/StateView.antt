-- How the fields of a state stand for it, and what keeps them in agreement.
use Rattle.std.specs.Prelude.{◌≡◌, ℕ, ◌<◌, ◌≤◌, IsTrue, Some, length}
use Rattle.std.specs.FinMap as map
use Rattle.mls_tree.specs.Tree as tree
use Rattle.mls_state.specs.State.{State}
use Rattle.mls_state.specs.Properties.{Each, is_known}
use Rattle.mls_facts.specs.Numbered.{numbered, places_of}
use Rattle.mls_state.specs.declared.state.State.TheInside.{Inside}

-- The state that the fields stand for: subjects by their places, and of the objects those that the tree has. (own)
abbrev pub state_of : {A : Type 0} → Inside A → State
state_of a = record {
  accesses = a.accesses.triples;
  matrix = a.matrix.triples;
  maximum = numbered (λ s. Some s.maximum) a.subjects.items;
  current = numbered (λ s. Some s.current) a.subjects.items;
  subject_integrity = numbered (λ s. Some s.integrity) a.subjects.items;
  trusted = places_of (λ s. s.trusted) a.subjects.items;
  object_label = map.retain_keys (numbered (λ o. Some o.security) a.objects.items) (tree.is_active a.tree.parent);
  object_integrity = map.retain_keys (numbered (λ o. Some o.integrity) a.objects.items) (tree.is_active a.tree.parent);
  parent = a.tree.parent;
  profile = a.tree.profile;
  next = a.tree.next;
  security = a.security;
  integrity = a.integrity;
}

-- The tables agree: both have a row for each subject and a column for each place of labels, each active object has a
-- place there, and the next one has, or is behind all; the objects are a tree, the next number is that of the profile,
-- and triples name known subjects and active objects. A creation for which an allocation failed may leave a column
-- over. (own)
pub record Agrees {A : Type 0} (a : Inside A) : Type 0 where
  pub matrix_rows : a.matrix.subjects ≡ length a.subjects.items
  pub access_rows : a.accesses.subjects ≡ length a.subjects.items
  pub labels : (o : ℕ) → IsTrue (tree.is_active a.tree.parent o) → o < length a.objects.items
  pub place : a.tree.next ≤ length a.objects.items
  pub matrix_columns : length a.objects.items ≤ a.matrix.columns
  pub access_columns : length a.objects.items ≤ a.accesses.columns
  pub next : tree.HasNext a.tree.profile (tree.is_active a.tree.parent) a.tree.next
  pub tree : tree.IsTree a.tree.parent (tree.is_active a.tree.parent)
  pub accesses_known : Each a.accesses.triples (is_known (state_of a))
  pub matrix_known : Each a.matrix.triples (is_known (state_of a))
