-- How the fields of a tree stand for it.
use Rattle.std.specs.Prelude.{◌≡◌, ℕ, ◌<◌, ◌≤◌, ◌==◌, ◌&&◌, Bool, not, IsTrue, List, [], ◌∷◌, Option, None, length}
use Rattle.std.specs.Prelude.{slice_index_or}
use Rattle.std.specs.List.{list_any}
use Rattle.std.specs.Ordering.{nat_cmp}
use Rattle.std.specs.FinMap.{FinMap}
use Rattle.std.specs.FinSet as set
use Rattle.std.specs.FinSet.{FinSet}
use Rattle.mls_tables.specs.declared.limits.TheConstants.{MAX_OBJECTS}
use Rattle.mls_tables.specs.Rows.{IsRows}
use Rattle.mls_facts.specs.Numbered.{numbered, holds_of}
use Rattle.mls_tree.specs.Tree.{Hierarchy, IsTree, is_active, is_child, next_number}
use Rattle.mls_tree.specs.declared.profile.Profile.{Profile}

-- The map from each place of a list to the parent that stands there, if one does. (own)
abbrev pub parents_of : List (Option ℕ) → FinMap nat_cmp ℕ
parents_of parents = numbered (λ parent. parent) parents

-- The hierarchy of a profile whose parents stand in a list, each at the number of its child. The list has a place for
-- each number that was ever used. (own)
abbrev pub hierarchy_of : Profile → List (Option ℕ) → Hierarchy
hierarchy_of profile parents = record {
  profile = profile;
  parent = parents_of parents;
  next = next_number profile (length parents) (is_active (parents_of parents));
}

-- The parents make a tree, each active number has a place among them and is in the set, and at the number of each
-- object stands the list of its children. There may be more lists, which are empty. (own)
pub record IsKept (parents : List (Option ℕ)) (lists : List (List ℕ)) (numbers : FinSet nat_cmp) : Type 0 where
  pub tree : IsTree (parents_of parents) (is_active (parents_of parents))
  pub few : length parents ≤ MAX_OBJECTS
  pub below : (o : ℕ) → IsTrue (is_active (parents_of parents) o) → o < length parents
  pub as_many : length parents ≤ length lists
  pub rows : IsRows (λ o c. is_child (parents_of parents) c o) MAX_OBJECTS lists
  pub active : (o : ℕ) → set.contains numbers o ≡ is_active (parents_of parents) o

-- A set of numbers without some, one after the other. (own)
abbrev pub without_numbers : FinSet nat_cmp → List ℕ → FinSet nat_cmp
without_numbers s [] = s
without_numbers s (n ∷ group) = without_numbers (set.remove s n) group

-- Whether an object stays in a list of children, where those of a group are taken out of the lists of their parents.
-- (own)
abbrev pub stays_listed : List (Option ℕ) → List ℕ → ℕ → ℕ → Bool
stays_listed parents group o c =
    not (list_any (λ x. c == x) group && holds_of (λ p. p == o) (slice_index_or parents c None))
