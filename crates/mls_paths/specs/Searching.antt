-- A search for the places that content could reach.
use Rattle.std.specs.Prelude.{◌≡◌, ◌+◌, ◌<◌, ◌≤◌, ℕ, suc, Bool, true, false, List, [], ◌∷◌, length, Some}
use Rattle.std.specs.Prelude.{slice_get}
use Rattle.mls_flows.specs.declared.place.Place.{Place}
use Rattle.mls_paths.specs.declared.numbering.TheConstants.{PLACES}
use Rattle.mls_paths.specs.declared.reached.Hand.{Hand}
use Rattle.mls_paths.specs.declared.reached.Reached.{Reached}
use Rattle.mls_paths.specs.Found.{AreWays, IsListed, IsOrdered, IsThere, at_first}
use Rattle.mls_paths.specs.Numbering.{place_of}

-- How many marks aren't set. (own)
abbrev pub unmarked : List Bool → ℕ
unmarked [] = 0
unmarked (true ∷ marks) = unmarked marks
unmarked (false ∷ marks) = suc (unmarked marks)

-- Places that were found so far: each has how content comes to it, with as many steps as its index at most, none with
-- more steps than a later one; and as many are marked, each of which is in the list. (own)
pub record IsNewSearch (R : Place → Hand → Place → Type 0) (xs : List Reached) (marks : List Bool) : Type 0 where
  pub ways : AreWays R xs
  pub many : length marks ≡ PLACES
  pub few : length xs + unmarked marks ≡ PLACES
  pub marked : (n : ℕ) → slice_get marks n ≡ Some true → IsThere xs (place_of n)
  pub below : (i : ℕ) (r : Reached) → slice_get xs i ≡ Some r → r.steps ≤ i
  pub ordered : IsOrdered xs

-- The search has come to the place at an index: none has been found with two steps more. (own)
pub record IsSearch (R : Place → Hand → Place → Type 0) (xs : List Reached) (marks : List Bool) (at : ℕ)
    (from : Reached) : Type 0 where
  pub search : IsNewSearch R xs marks
  pub here : slice_get xs at ≡ Some from
  pub near : (i : ℕ) (r : Reached) → slice_get xs i ≡ Some r → r.steps ≤ from.steps + 1

-- What is at an index of a list is at the same one of another list. (own)
abbrev pub Extends : List Reached → List Reached → Type 0
Extends xs ys = (i : ℕ) (r : Reached) → slice_get xs i ≡ Some r → slice_get ys i ≡ Some r

-- The place of a number is in the list, if content comes to it by one hand. (own)
abbrev pub IsPassed : (Place → Hand → Place → Type 0) → List Reached → Reached → ℕ → Type 0
IsPassed R xs from n = (h : Hand) → R from.place h (place_of n) → IsListed xs (from.steps + 1) (place_of n)

-- The list has been extended by the place of a number, if content comes to it by one hand. (own)
pub record Visits (R : Place → Hand → Place → Type 0) (old new : List Reached) (marks : List Bool) (at : ℕ)
    (from : Reached) (n : ℕ) : Type 0 where
  pub search : IsSearch R new marks at from
  pub extends : Extends old new
  pub passed : IsPassed R new from n

-- The list has been extended by the places of so many numbers to which content comes by one hand. (own)
pub record Expands (R : Place → Hand → Place → Type 0) (old new : List Reached) (marks : List Bool) (at : ℕ)
    (from : Reached) (count : ℕ) : Type 0 where
  pub search : IsSearch R new marks at from
  pub extends : Extends old new
  pub passed : (n : ℕ) → n < count → IsPassed R new from n

-- From each place of the list up to an index, the places have been found to which content comes by one hand. (own)
abbrev pub IsDone : (Place → Hand → Place → Type 0) → List Reached → ℕ → Type 0
IsDone R xs at = (i : ℕ) (a : Reached) → i < at → slice_get xs i ≡ Some a
    → (n : ℕ) → n < PLACES → IsPassed R xs a n

-- The search has come to an index: this is the first place, none has been found with two steps more than what is at the
-- index, and all before it is done. (own)
pub record IsUnderWay (R : Place → Hand → Place → Type 0) (p : Place) (xs : List Reached) (marks : List Bool) (at : ℕ)
    : Type 0 where
  pub search : IsNewSearch R xs marks
  pub first : slice_get xs 0 ≡ Some (at_first p)
  pub near : (a : Reached) → slice_get xs at ≡ Some a → (j : ℕ) (b : Reached) → slice_get xs j ≡ Some b
      → b.steps ≤ a.steps + 1
  pub done : IsDone R xs at
  pub inside : at ≤ length xs
