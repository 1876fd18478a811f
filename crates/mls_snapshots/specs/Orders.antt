-- The order in which the active objects of a state are numbered anew.
use Rattle.std.specs.Prelude.{◌≡◌, ℕ, ◌<◌, ◌==◌, IsTrue, IsSome, List, Option, Some, None, position, slice_get}
use Rattle.std.specs.FinMap as map
use Rattle.mls_state.specs.State.{State, is_active}

-- The place of an object in an order, which is its new number. (own)
abbrev pub place_in : List ℕ → ℕ → Option ℕ
place_in order o = position (λ x. x == o) order

-- The place of a parent, where there is one. (own)
abbrev pub new_parent : List ℕ → Option ℕ → Option ℕ
new_parent order None = None
new_parent order (Some p) = place_in order p

-- There is a place, and it is less than another. (own)
abbrev pub IsBefore : Option ℕ → ℕ → Type 0
IsBefore None k = ⊥
IsBefore (Some j) k = j < k

-- A place is past another, where there is that. (own)
abbrev pub IsPast : Option ℕ → ℕ → Type 0
IsPast None j = Unit {0}
IsPast (Some i) j = i < j

-- What stands at a place of an order is active and stands nowhere else. Its parent, where it has one, stands before it,
-- and behind the parent there are only lesser numbers before it. (own)
pub record IsPlaced (v : State) (order : List ℕ) (k o : ℕ) : Type 0 where
  pub active : IsTrue (is_active v o)
  pub once : place_in order o ≡ Some k
  pub parent : (p : ℕ) → map.get v.parent o ≡ Some p → IsBefore (place_in order p) k
  pub least : (j q : ℕ) → IsPast (new_parent order (map.get v.parent o)) j → j < k → slice_get order j ≡ Some q → q < o

-- An order has just the active objects of a state, each once: first the root, and then always the one of the least
-- number of those whose parents stand before. (own)
pub record IsOrder (v : State) (order : List ℕ) : Type 0 where
  pub listed : (o : ℕ) → IsTrue (is_active v o) → IsSome (place_in order o)
  pub placed : (k o : ℕ) → slice_get order k ≡ Some o → IsPlaced v order k o
