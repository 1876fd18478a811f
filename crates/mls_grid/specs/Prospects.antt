-- What is to be expected of an access, by the closure.
use Rattle.std.specs.Prelude.{◌≡◌, ℕ, Bool, false, IsTrue}
use Rattle.std.specs.FinSet as set
use Rattle.mls_tables.specs.Triples.{Triple}
use Rattle.mls_state.specs.State.{State}
use Rattle.mls_futures.specs.Closure.{CouldGet}
use Rattle.mls_grid.specs.declared.prospect.Prospect.{Prospect}
use Rattle.mls_grid.specs.declared.prospect.Prospect.TheVariants.{Held, Permitted, Brought, Never}

-- What is said of an access is so: it is held; or it isn't, is permitted, and actors could get it; or it is neither
-- held nor permitted, and actors could get it; or it isn't held, and they couldn't. (own)
abbrev pub IsProspect : State → (ℕ → Bool) → Triple → Prospect → Type 0
IsProspect v acts t Held = IsTrue (set.contains v.accesses t)
IsProspect v acts t Permitted =
    (set.contains v.accesses t ≡ false) × IsTrue (set.contains v.matrix t) × CouldGet v acts t.0 t.1 t.2
IsProspect v acts t Brought =
    (set.contains v.accesses t ≡ false) × (set.contains v.matrix t ≡ false) × CouldGet v acts t.0 t.1 t.2
IsProspect v acts t Never = (set.contains v.accesses t ≡ false) × (CouldGet v acts t.0 t.1 t.2 → ⊥)
