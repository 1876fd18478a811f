-- How content comes from one place to another one by one hand.
use Rattle.std.specs.Prelude.{◌≡◌, ◌⊎◌, ◌↔◌, ◌<◌, ℕ, Bool, IsTrue, List, Option, Some, None}
use Rattle.std.specs.Prelude.{MatchOption, length, nat_lt, slice_get}
use Rattle.std.specs.FinMap as map
use Rattle.mls_tables.specs.Mode.{observes, alters}
use Rattle.mls_tables.specs.declared.limits.TheConstants.{MAX_OBJECTS}
use Rattle.mls_tables.specs.declared.mode.Mode.TheVariants.{Write}
use Rattle.mls_state.specs.State.{State, is_subject, is_above}
use Rattle.mls_futures.specs.Closure.{acts_in, HasTrusted, CouldGet, IsGivable}
use Rattle.mls_flows.specs.declared.place.Place.{Place}
use Rattle.mls_flows.specs.declared.place.Place.TheVariants.{Subject, Object}
use Rattle.mls_paths.specs.declared.ground.Ground.{Ground}
use Rattle.mls_paths.specs.declared.reached.Hand.{Hand}
use Rattle.mls_paths.specs.declared.reached.Hand.TheVariants.{By, Made}

-- Whether a number is free for an object that is made. (own)
abbrev pub has_room : State → Bool
has_room v = nat_lt v.next MAX_OBJECTS

-- An actor could get content through an object that an actor makes for it below another one: that one could get write
-- of this, whose integrity dominates the first one's, and whose label the first one's maximum dominates, or an actor is
-- trusted. (own)
pub record CouldTake (v : State) (acts : ℕ → Bool) (t maker parent : ℕ) : Type 0 where
  pub takes : IsTrue (acts t)
  pub makes : CouldGet v acts maker parent Write
  pub fits : IsTrue (is_above (map.get v.object_integrity parent) (map.get v.subject_integrity t))
  pub cleared : IsTrue (is_above (map.get v.maximum t) (map.get v.object_label parent)) ⊎ HasTrusted v acts

-- An actor could hand content to another one through such an object, which has the other's integrity: its own dominates
-- that. (own)
pub record CouldMake (v : State) (acts : ℕ → Bool) (room : Bool) (s t maker parent : ℕ) : Type 0 where
  pub free : IsTrue room
  pub hands : IsTrue (acts s)
  pub lower : IsTrue (is_above (map.get v.subject_integrity s) (map.get v.subject_integrity t))
  pub takes : CouldTake v acts t maker parent

-- Content comes from one place to another one by one hand: an actor sees what is in an object, or alters one, by an
-- access that it could get, or hands it on through an object that is made. (own)
abbrev pub IsHand : State → (ℕ → Bool) → Bool → Place → Hand → Place → Type 0
IsHand v acts room (Object o) (By x) (Subject s) = IsTrue (observes x) × CouldGet v acts s o x
IsHand v acts room (Subject s) (By x) (Object o) = IsTrue (alters x) × CouldGet v acts s o x
IsHand v acts room (Subject s) (Made maker parent) (Subject t) = CouldMake v acts room s t maker parent
IsHand v acts room (Subject s) (By x) (Subject t) = ⊥
IsHand v acts room (Object o) (Made maker parent) p = ⊥
IsHand v acts room (Object o) (By x) (Object p) = ⊥
IsHand v acts room (Subject s) (Made maker parent) (Object o) = ⊥

-- Who acts. (own)
abbrev pub acts_of : Ground → ℕ → Bool
acts_of ground s = acts_in ground.actors.now s

-- Content comes from one place to another one by one hand, where those act. (own)
abbrev pub Hands : State → Ground → Place → Hand → Place → Type 0
Hands v ground q h p = IsHand v (acts_of ground) (has_room v) q h p

-- What is known is so: whether an actor is trusted, and of which objects an actor could give permissions. (own)
pub record IsGround (v : State) (ground : Ground) : Type 0 where
  pub trusted : IsTrue ground.trusted ↔ HasTrusted v (acts_of ground)
  pub many : length ground.gives.now ≡ MAX_OBJECTS
  pub gives : IsGivable v (acts_of ground) ground.gives.now

-- What a table has at a place, where it has something there. (own)
abbrev pub entry_of : {X : Type 0} → Option (Option X) → Option X
entry_of None = None
entry_of (Some entry) = entry

-- A subject could get content through an object that is made for it, as an entry says. (own)
abbrev pub TakesBy : State → (ℕ → Bool) → ℕ → Option (ℕ × ℕ) → Type 0
TakesBy v acts t entry =
    MatchOption entry ((maker parent : ℕ) → CouldTake v acts t maker parent → ⊥) (λ e. CouldTake v acts t e.0 e.1)

-- A subject could get content through an object that is made for it below another one, as an entry says by whom. (own)
abbrev pub TakesBelow : State → (ℕ → Bool) → ℕ → ℕ → Option ℕ → Type 0
TakesBelow v acts t parent entry =
    MatchOption entry ((maker : ℕ) → CouldTake v acts t maker parent → ⊥) (λ maker. CouldTake v acts t maker parent)

-- An actor could get write of an object, as an entry says who. (own)
abbrev pub WritesBy : State → (ℕ → Bool) → ℕ → Option ℕ → Type 0
WritesBy v acts o entry =
    MatchOption entry ((s : ℕ) → CouldGet v acts s o Write → ⊥) (λ s. CouldGet v acts s o Write)

-- A table says of each object of the first numbers who could get write of it. (own)
pub record AreWriters (v : State) (acts : ℕ → Bool) (writers : List (Option ℕ)) (count : ℕ) : Type 0 where
  pub each : (o : ℕ) (e : Option ℕ) → slice_get writers o ≡ Some e → WritesBy v acts o e
  pub many : length writers ≡ count

-- A subject acts, and an object that is made below another one fits it. (own)
pub record IsFit (v : State) (acts : ℕ → Bool) (t parent : ℕ) : Type 0 where
  pub takes : IsTrue (acts t)
  pub fits : IsTrue (is_above (map.get v.object_integrity parent) (map.get v.subject_integrity t))
  pub cleared : IsTrue (is_above (map.get v.maximum t) (map.get v.object_label parent)) ⊎ HasTrusted v acts

-- A table says of each subject of the first numbers who could make an object for it, and below which. (own)
pub record AreTaken (v : State) (acts : ℕ → Bool) (takers : List (Option (ℕ × ℕ))) (count : ℕ) : Type 0 where
  pub each : (t : ℕ) (e : Option (ℕ × ℕ)) → slice_get takers t ≡ Some e → TakesBy v acts t e
  pub many : length takers ≡ count

-- A table says of each known subject who could make an object for it, and below which. (own)
pub record AreTakers (v : State) (acts : ℕ → Bool) (takers : List (Option (ℕ × ℕ))) : Type 0 where
  pub each : (t : ℕ) (e : Option (ℕ × ℕ)) → slice_get takers t ≡ Some e → TakesBy v acts t e
  pub many : (t : ℕ) → IsTrue (is_subject v t) → t < length takers

-- A number is free, and a subject acts whose integrity dominates another one's. (own)
pub record IsGiver (v : State) (acts : ℕ → Bool) (s t : ℕ) : Type 0 where
  pub room : IsTrue (has_room v)
  pub hands : IsTrue (acts s)
  pub lower : IsTrue (is_above (map.get v.subject_integrity s) (map.get v.subject_integrity t))

-- Content comes from one place to another one by one hand, as is said how. (own)
abbrev pub ComesBy : State → Ground → Place → Place → Option Hand → Type 0
ComesBy v ground q p hand = MatchOption hand ((h : Hand) → Hands v ground q h p → ⊥) (λ h. Hands v ground q h p)
