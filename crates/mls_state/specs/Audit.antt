-- The audit: what is looked at of each current access, each object and each subject to tell whether a state is secure.
use Rattle.std.specs.Prelude.{ℕ, Bool, true, ◌&&◌, ◌<◌, IsTrue, Option, Some, None}
use Rattle.std.specs.FinMap as map
use Rattle.mls_tables.specs.Triples.{Triple}
use Rattle.mls_state.specs.State.{State, is_subject, is_active, is_above}
use Rattle.mls_state.specs.Properties.{discretionary_holds, simple_holds, star_holds, integrity_holds, compatible_holds}

-- Whether an access meets all four properties that speak of accesses. (own)
abbrev pub access_holds : State → Triple → Bool
access_holds v t = discretionary_holds v t && (simple_holds v t && (star_holds v t && integrity_holds v t))

-- Whether an object is compatible with this parent, if there is one. (own)
abbrev pub fits_below : State → ℕ → Option ℕ → Bool
fits_below v o None = true
fits_below v o (Some p) = compatible_holds v o p

-- Whether an object is compatible with its parent; what has none is. (own)
abbrev pub fits_parent : State → ℕ → Bool
fits_parent v o = fits_below v o (map.get v.parent o)

-- Whether a subject's maximum label dominates its current label. (MTR-2997, the two components of a subject's level)
abbrev pub ceiling_holds : State → ℕ → Bool
ceiling_holds v s = is_above (map.get v.maximum s) (map.get v.current s)

-- Each number below a bound passes the test. (own)
abbrev pub EachBelow : ℕ → (ℕ → Bool) → Type 0
EachBelow n passes = (k : ℕ) → k < n → IsTrue (passes k)

-- Each active object passes the test. (own)
abbrev pub EachObject : State → (ℕ → Bool) → Type 0
EachObject v passes = (o : ℕ) → IsTrue (is_active v o) → IsTrue (passes o)

-- Each known subject passes the test. (own)
abbrev pub EachSubject : State → (ℕ → Bool) → Type 0
EachSubject v passes = (s : ℕ) → IsTrue (is_subject v s) → IsTrue (passes s)
