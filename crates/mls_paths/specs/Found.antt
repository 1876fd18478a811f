-- Places that content could reach, each with a shortest way.
use Rattle.std.specs.Prelude.{◌≡◌, ◌+◌, ◌<◌, ◌≤◌, ℕ, suc, List, Option, Some, None, slice_get}
use Rattle.mls_flows.specs.declared.place.Place.{Place}
use Rattle.mls_paths.specs.declared.reached.Came.{Came}
use Rattle.mls_paths.specs.declared.reached.Hand.{Hand}
use Rattle.mls_paths.specs.declared.reached.Reached.{Reached}

-- How content comes to a place, by a relation of places with a hand between them: from an earlier place of the list,
-- by one hand, which is one step more. (own)
pub record IsCome (R : Place → Hand → Place → Type 0) (xs : List Reached) (i : ℕ) (r : Reached) (c : Came)
    : Type 0 where
  pub earlier : c.before < i
  pub from : Reached
  pub at : slice_get xs c.before ≡ Some from
  pub hand : R from.place c.hand r.place
  pub steps : r.steps ≡ from.steps + 1

-- How content comes to the place at an index; to the first one it comes from nowhere. (own)
abbrev pub IsComeBy : (Place → Hand → Place → Type 0) → List Reached → ℕ → Reached → Option Came
    → Type 0
IsComeBy R xs i r None = (i ≡ 0) × (r.steps ≡ 0)
IsComeBy R xs i r (Some c) = IsCome R xs i r c

-- Each place of the list has how content comes to it. (own)
abbrev pub AreWays : (Place → Hand → Place → Type 0) → List Reached → Type 0
AreWays R xs = (i : ℕ) (r : Reached) → slice_get xs i ≡ Some r → IsComeBy R xs i r r.came

-- No place of a list has more steps than a later one. (own)
abbrev pub IsOrdered : List Reached → Type 0
IsOrdered xs = (i j : ℕ) (a b : Reached) → i ≤ j → slice_get xs i ≡ Some a → slice_get xs j ≡ Some b
    → a.steps ≤ b.steps

-- Content comes from a place to another one by so many hands. (own)
pub data ComesIn (R : Place → Hand → Place → Type 0) (from : Place) : ℕ → Place → Type 0 where
  here : ComesIn R from 0 from
  on : (n : ℕ) (q p : Place) (h : Hand) → R q h p → ComesIn R from n q → ComesIn R from (suc n) p

-- A place is in the list. (own)
pub record IsThere (xs : List Reached) (p : Place) : Type 0 where
  pub index : ℕ
  pub item : Reached
  pub at : slice_get xs index ≡ Some item
  pub is : item.place ≡ p

-- A place is in the list, with at most so many steps. (own)
pub record IsListed (xs : List Reached) (most : ℕ) (p : Place) : Type 0 where
  pub index : ℕ
  pub item : Reached
  pub at : slice_get xs index ≡ Some item
  pub is : item.place ≡ p
  pub soon : item.steps ≤ most

-- The first place of a list, which has the content from the beginning. (own)
abbrev pub at_first : Place → Reached
at_first from = record { place = from; steps = 0; came = None }

-- A list has just the places to which content comes from one: this is the first, each has how content comes to it from
-- an earlier one, none has more steps than a later one, and to none it comes by fewer hands. (own)
pub record IsFlow (R : Place → Hand → Place → Type 0) (from : Place) (xs : List Reached) : Type 0 where
  pub first : slice_get xs 0 ≡ Some (at_first from)
  pub ways : AreWays R xs
  pub ordered : IsOrdered xs
  pub all : (n : ℕ) (p : Place) → ComesIn R from n p → IsListed xs n p
