-- The tree of objects: which object is below which.
use Rattle.std.specs.Prelude.{◌≡◌, ℕ, zero, suc, ◌<◌, ◌≤◌, ◌==◌, ◌&&◌, ◌||◌, Bool, IsTrue, List, Some, None, refl}
use Rattle.std.specs.Ordering.{nat_cmp}
use Rattle.std.specs.Coded.{Coded, code_by, coded×, coded_ℕ}
use Rattle.std.specs.FinMap as map
use Rattle.std.specs.FinMap.{FinMap}
use Rattle.mls_tables.specs.declared.limits.TheConstants.{MAX_OBJECTS}
use Rattle.mls_tables.specs.Rows.{listed}
use Rattle.mls_facts.specs.Least.{least_failing}
use Rattle.mls_facts.specs.Numbered.{holds_of}
use Rattle.mls_tree.specs.declared.profile.Profile.{Profile}
use Rattle.mls_tree.specs.declared.profile.Profile.TheVariants.{One, Two}
use Rattle.mls_tree.specs.contracts.profile.Profile as profiles

-- The hierarchy of objects: its profile, a map from each object that has a parent to the parent (MTR-2997, hierarchy),
-- and the number that the next object will have. (own)
pub record Hierarchy : Type 0 where
  pub profile : Profile
  pub parent : FinMap nat_cmp ℕ
  pub next : ℕ

-- A hierarchy is stored as the tuple of its parts. (own)
abbrev pub hierarchy_code : Coded Hierarchy
hierarchy_code =
    code_by (Profile × (FinMap nat_cmp ℕ × ℕ))
    (coded× profiles.the_row.coded (coded× (map.code coded_ℕ coded_ℕ) coded_ℕ))
    (λ h. (h.profile, (h.parent, h.next)))
    (λ p. record { profile = p.0; parent = p.1.0; next = p.1.1 })
    (λ _. refl)

-- Whether an object is active: it is object 0, the root, or has a parent. (own)
abbrev pub is_active : FinMap nat_cmp ℕ → ℕ → Bool
is_active parent o = o == 0 || map.contains_key parent o

-- An object reaches another by zero or more parent steps. (MTR-2997, hierarchy)
pub data Reaches (parent : FinMap nat_cmp ℕ) : ℕ → ℕ → Type 0 where
  here : {o : ℕ} → Reaches parent o o
  up : {o p q : ℕ} → map.get parent o ≡ Some p → Reaches parent p q → Reaches parent o q

-- The active objects form a tree under object 0 by their parents (MTR-2997, hierarchy), and have numbers below 4,096.
-- (own)
pub record IsTree (parent : FinMap nat_cmp ℕ) (active : ℕ → Bool) : Type 0 where
  pub root_active : IsTrue (active 0)
  pub root_has_no_parent : map.get parent 0 ≡ None
  pub reaches_root : (o : ℕ) → IsTrue (active o) → Reaches parent o 0
  pub children_active : (o p : ℕ) → map.get parent o ≡ Some p → IsTrue (active o) × IsTrue (active p)
  pub below : (o : ℕ) → IsTrue (active o) → o < MAX_OBJECTS

-- The next number, after a change that would give this one: in profile 1 that one, in profile 2 the least that isn't
-- active, 4,096 where all are. (own)
abbrev pub next_number : Profile → ℕ → (ℕ → Bool) → ℕ
next_number One given active = given
next_number Two given active = least_failing active MAX_OBJECTS 0

-- A next number is that of a profile: in profile 1 it is above all active numbers, in profile 2 it is the least that
-- isn't active, 4,096 where all are. (own)
abbrev pub IsNextOf : Profile → (ℕ → Bool) → ℕ → Type 0
IsNextOf One active next = (o : ℕ) → IsTrue (active o) → o < next
IsNextOf Two active next = next ≡ least_failing active MAX_OBJECTS 0

-- A next number is that of a profile, and at most 4,096. (own)
pub record HasNext (profile : Profile) (active : ℕ → Bool) (next : ℕ) : Type 0 where
  pub few : next ≤ MAX_OBJECTS
  pub right : IsNextOf profile active next

-- The hierarchy with other parents, after a change that would give this next number. (own)
abbrev pub with_parents : Hierarchy → FinMap nat_cmp ℕ → ℕ → Hierarchy
with_parents h parent given = record {
  profile = h.profile;
  parent = parent;
  next = next_number h.profile given (is_active parent);
}

-- Whether the second object is the parent of the first. (MTR-2997, hierarchy)
abbrev pub is_child : FinMap nat_cmp ℕ → ℕ → ℕ → Bool
is_child parent c o = holds_of (λ p. p == o) (map.get parent c)

-- Whether the second object is met on the way up from the first within so many parent steps. (own)
unfoldable pub reaches_within : FinMap nat_cmp ℕ → ℕ → ℕ → ℕ → Bool
reaches_within parent zero o a = o == a
reaches_within parent (suc n) o a = o == a || holds_of (λ p. reaches_within parent n p a) (map.get parent o)

-- Whether the first object is an inferior of the second: it is active, and is the second or below it
-- (MTR-2997, hierarchy). In a tree no way up has more steps than there are object numbers. (own)
unfoldable pub is_inferior : FinMap nat_cmp ℕ → ℕ → ℕ → Bool
is_inferior parent o a = is_active parent o && reaches_within parent MAX_OBJECTS o a

-- The children of an object, ascending. (own)
abbrev pub children : FinMap nat_cmp ℕ → ℕ → List ℕ
children parent o = listed (λ c. is_child parent c o) MAX_OBJECTS

-- The inferiors of an object, ascending: itself and all objects below it. (own)
abbrev pub inferiors : FinMap nat_cmp ℕ → ℕ → List ℕ
inferiors parent o = listed (λ x. is_inferior parent x o) MAX_OBJECTS
