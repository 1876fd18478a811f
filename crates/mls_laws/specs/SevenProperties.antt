-- The seven properties of a secure state, one by one.
use Rattle.std.specs.Prelude.{◌≡◌, ℕ, IsTrue, Some}
use Rattle.std.specs.FinMap as map
use Rattle.mls_state.specs.State.{State, is_subject, is_above}
use Rattle.mls_state.specs.Properties.{Each, simple_holds, star_holds, discretionary_holds, compatible_holds}
use Rattle.mls_state.specs.Properties.{integrity_holds, HasTree}

-- The names of the seven properties. (MTR-2997; strict integrity MTR-3153)
pub data Property : Type 0 where
  simple_security : Property
  star_property : Property
  discretionary_security : Property
  compatibility : Property
  tree : Property
  strict_integrity : Property
  ceiling : Property

-- What each property says of a state. (MTR-2997; strict integrity MTR-3153)
abbrev pub Has : Property → State → Type 0
Has simple_security v = Each v.accesses (simple_holds v)
Has star_property v = Each v.accesses (star_holds v)
Has discretionary_security v = Each v.accesses (discretionary_holds v)
Has compatibility v = (child parent : ℕ) → map.get v.parent child ≡ Some parent
    → IsTrue (compatible_holds v child parent)
Has tree v = HasTree v
Has strict_integrity v = Each v.accesses (integrity_holds v)
Has ceiling v = (s : ℕ) → IsTrue (is_subject v s) → IsTrue (is_above (map.get v.maximum s) (map.get v.current s))
