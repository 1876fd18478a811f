-- Ways on which content comes to a place.
use Rattle.std.specs.Prelude.{◌≡◌, ◌<◌, ◌≤◌, ℕ, Bool, List, [], ◌∷◌, ◌++◌, length, Some, slice_get}
use Rattle.mls_state.specs.State.{State}
use Rattle.mls_flows.specs.declared.place.Place.{Place}
use Rattle.mls_paths.specs.declared.reached.Hand.{Hand}
use Rattle.mls_paths.specs.declared.reached.Hop.{Hop}
use Rattle.mls_paths.specs.declared.reached.Reached.{Reached}
use Rattle.mls_paths.specs.Found.{ComesIn, IsFlow}
use Rattle.mls_paths.specs.Hands.{IsHand}

-- Hops lead from one place to another one, each by a hand from the place before. (own)
abbrev pub LeadsOn : (Place → Hand → Place → Type 0) → Place → List Hop → Place → Type 0
LeadsOn R q [] p = q ≡ p
LeadsOn R q (hop ∷ hops) p = R q hop.hand hop.place × LeadsOn R hop.place hops p

-- Hops are a shortest way from one place to another one. (own)
pub record IsShortest (R : Place → Hand → Place → Type 0) (q : Place) (hops : List Hop) (p : Place) : Type 0 where
  pub leads : LeadsOn R q hops p
  pub least : (n : ℕ) → ComesIn R q n p → length hops ≤ n

-- The first places of a list, up to an index, are others. (own)
abbrev pub AreOthers : List Reached → ℕ → Place → Type 0
AreOthers xs at p = (i : ℕ) (r : Reached) → i < at → slice_get xs i ≡ Some r → r.place ≡ p → ⊥

-- A place is at an index of a list, and at none before it. (own)
pub record IsAt (xs : List Reached) (n : ℕ) (p : Place) : Type 0 where
  pub item : Reached
  pub at : slice_get xs n ≡ Some item
  pub is : item.place ≡ p
  pub first : AreOthers xs n p

-- Hops that were added to others lead from the first place of what was found to the one at an index, by as many hands
-- as that has steps. (own)
pub record AddsWay (xs : List Reached) (old new : List Hop) (at : ℕ) : Type 0 where
  pub hops : List Hop
  pub added : new ≡ old ++ hops
  pub leads : (v : State) (acts : ℕ → Bool) (room : Bool) (q : Place) (r : Reached) → IsFlow (IsHand v acts room) q xs
      → slice_get xs at ≡ Some r → LeadsOn (IsHand v acts room) q hops r.place × (length hops ≡ r.steps)

-- Hops are a shortest way to a place from the one from which these were found. (own)
abbrev pub IsWayTo : List Reached → Place → List Hop → Type 0
IsWayTo xs p hops = (v : State) (acts : ℕ → Bool) (room : Bool) (q : Place) → IsFlow (IsHand v acts room) q xs
    → IsShortest (IsHand v acts room) q hops p
