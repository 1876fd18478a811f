-- What is known of the futures of a state beforehand.
use Rattle.std.specs.Prelude.{◌≡◌, ◌↔◌, ℕ, Bool, IsTrue, length}
use Rattle.mls_tables.specs.Triples.{Triple}
use Rattle.mls_tables.specs.declared.limits.TheConstants.{MAX_OBJECTS}
use Rattle.mls_state.specs.State.{State}
use Rattle.mls_futures.specs.Closure.{acts_in, HasTrusted, CouldGet, IsGivable}
use Rattle.mls_could.specs.declared.outset.Outset.{Outset}

-- Who acts. (own)
abbrev pub acts_of : Outset → ℕ → Bool
acts_of outset s = acts_in outset.actors.items s

-- What is known is so: whether an actor is trusted, and of which objects an actor could give permissions. (own)
pub record IsOutset (v : State) (outset : Outset) : Type 0 where
  pub trusted : IsTrue outset.trusted ↔ HasTrusted v (acts_of outset)
  pub many : length outset.gives.items ≡ MAX_OBJECTS
  pub gives : IsGivable v (acts_of outset) outset.gives.items

-- A test tells of each access whether actors could get it. (own)
abbrev pub Decides : (Triple → Bool) → State → (ℕ → Bool) → Type 0
Decides test v acts = (t : Triple) → IsTrue (test t) ↔ CouldGet v acts t.0 t.1 t.2
