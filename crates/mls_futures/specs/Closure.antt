-- What some subjects could get, by a closure over the permissions of one state.
use Rattle.std.specs.Prelude.{◌≡◌, ◌⊎◌, ◌↔◌, ℕ, Bool, IsTrue, List, Some, slice_get}
use Rattle.std.specs.FinMap as map
use Rattle.std.specs.FinSet as set
use Rattle.mls_facts.specs.Numbered.{holds_of}
use Rattle.mls_tables.specs.declared.mode.Mode.{Mode}
use Rattle.mls_tables.specs.declared.mode.Mode.TheVariants.{Write}
use Rattle.mls_state.specs.State.{State, is_active}
use Rattle.mls_state.specs.Properties.{is_known, simple_holds, integrity_holds}

-- Whether a subject is an actor, one of those that make requests, by a list that has true at the actors' numbers. (own)
abbrev pub acts_in : List Bool → ℕ → Bool
acts_in actors s = holds_of (λ acts. acts) (slice_get actors s)

-- The actors are the subjects that pass a test. One of them is trusted. (own)
pub record HasTrusted (v : State) (acts : ℕ → Bool) : Type 0 where
  pub subject : ℕ
  pub actor : IsTrue (acts subject)
  pub trusted : IsTrue (set.contains v.trusted subject)

-- Nothing but a permission keeps a subject from an access, whatever the actors do: it is an actor, subject and object
-- are there, strict integrity holds, and so does simple security, unless an actor is trusted, who could lower the
-- object's label as far as need be. (own)
pub record Qualifies (v : State) (acts : ℕ → Bool) (s o : ℕ) (x : Mode) : Type 0 where
  pub actor : IsTrue (acts s)
  pub known : IsTrue (is_known v (s, o, x))
  pub integrity : IsTrue (integrity_holds v (s, o, x))
  pub simple : IsTrue (simple_holds v (s, o, x)) ⊎ HasTrusted v acts

-- An actor could get an access: nothing but a permission keeps it from that, and it has the permission, or an actor
-- could give it: a trusted one at the root, elsewhere one that could get write of the parent. (own)
pub data CouldGet (v : State) (acts : ℕ → Bool) : ℕ → ℕ → Mode → Type 0 where
  permitted : {s o : ℕ} {x : Mode} → IsTrue (set.contains v.matrix (s, o, x)) → Qualifies v acts s o x
      → CouldGet v acts s o x
  given_at_root : {s : ℕ} {x : Mode} → HasTrusted v acts → Qualifies v acts s 0 x → CouldGet v acts s 0 x
  given_below : {s o : ℕ} {x : Mode} (giver p : ℕ) → map.get v.parent o ≡ Some p → CouldGet v acts giver p Write
      → Qualifies v acts s o x → CouldGet v acts s o x

-- An actor could give permissions of an object. (own)
pub data CouldGive (v : State) (acts : ℕ → Bool) (o : ℕ) : Type 0 where
  by_trust : o ≡ 0 → HasTrusted v acts → CouldGive v acts o
  by_writing : (giver p : ℕ) → map.get v.parent o ≡ Some p → CouldGet v acts giver p Write → CouldGive v acts o

-- A list tells of the objects of the first numbers whether an actor could give permissions of them. (own)
abbrev pub IsGivable : State → (ℕ → Bool) → List Bool → Type 0
IsGivable v acts flags = (o : ℕ) (gives : Bool) → slice_get flags o ≡ Some gives → IsTrue (is_active v o)
    → (IsTrue gives ↔ CouldGive v acts o)
