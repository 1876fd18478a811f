-- Where content could flow, whatever some subjects do: a closure over the permissions of one state.
use Rattle.std.specs.Prelude.{◌≡◌, ◌⊎◌, ◌<◌, ◌≤◌, ℕ, Bool, true, false, IsTrue}
use Rattle.std.specs.FinMap as map
use Rattle.mls_tables.specs.Mode.{observes, alters}
use Rattle.mls_tables.specs.declared.limits.TheConstants.{MAX_OBJECTS}
use Rattle.mls_tables.specs.declared.mode.Mode.{Mode}
use Rattle.mls_tables.specs.declared.mode.Mode.TheVariants.{Write}
use Rattle.mls_tree.specs.declared.profile.Profile.TheVariants.{One}
use Rattle.mls_state.specs.State.{State, is_above}
use Rattle.mls_futures.specs.Closure.{HasTrusted, CouldGet}
use Rattle.mls_flows.specs.declared.place.Place.{Place}
use Rattle.mls_flows.specs.declared.place.Place.TheVariants.{Subject, Object}

-- An actor could hand content to another actor through an object that is made for it: some actor could get write of an
-- object, below which it can be made and permitted to both. It has the other's integrity label, which the first one's
-- and the parent's dominate; the other's maximum dominates the parent's label, or an actor is trusted, who could lower
-- it as far as need be. (own)
pub record CouldHand (v : State) (acts : ℕ → Bool) (s t : ℕ) : Type 0 where
  pub hands : IsTrue (acts s)
  pub takes : IsTrue (acts t)
  pub maker : ℕ
  pub parent : ℕ
  pub makes : CouldGet v acts maker parent Write
  pub lower : IsTrue (is_above (map.get v.subject_integrity s) (map.get v.subject_integrity t))
  pub fits : IsTrue (is_above (map.get v.object_integrity parent) (map.get v.subject_integrity t))
  pub cleared : IsTrue (is_above (map.get v.maximum t) (map.get v.object_label parent)) ⊎ HasTrusted v acts

-- The content of a place could reach another one: an actor that could observe an object sees what is there; what an
-- actor has could reach the objects that it could alter; and, where objects can be made, the actors to which it could
-- hand it through one. (own)
pub data CouldReach (v : State) (acts : ℕ → Bool) (room : Bool) (from : Place) : Place → Type 0 where
  here : CouldReach v acts room from from
  seen : (s o : ℕ) (x : Mode) → IsTrue (observes x) → CouldGet v acts s o x → CouldReach v acts room from (Object o)
      → CouldReach v acts room from (Subject s)
  altered : (s o : ℕ) (x : Mode) → IsTrue (alters x) → CouldGet v acts s o x → CouldReach v acts room from (Subject s)
      → CouldReach v acts room from (Object o)
  handed : (s t : ℕ) → IsTrue room → CouldHand v acts s t → CouldReach v acts room from (Subject s)
      → CouldReach v acts room from (Subject t)

-- No object can ever be made: all numbers were given, and none is used again. (own)
pub record IsFull (v : State) : Type 0 where
  pub profile : v.profile ≡ One
  pub none : MAX_OBJECTS ≤ v.next

-- It is so whether objects can be made: a number is free, or none ever will be. (own)
abbrev pub HasRoom : State → Bool → Type 0
HasRoom v true = v.next < MAX_OBJECTS
HasRoom v false = IsFull v
