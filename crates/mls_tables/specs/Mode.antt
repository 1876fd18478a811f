-- What a mode of access lets its holder do, and sets of modes.
use Rattle.std.specs.Prelude.{ℕ, Bool, true, false, List, [], ◌∷◌}
use Rattle.std.specs.Ordering.{nat_cmp}
use Rattle.std.specs.declared.cmp.Ordering.{Ordering}
use Rattle.std.specs.FinSet.{FinSet}
use Rattle.std.specs.FinSet as set
use Rattle.std.specs.Coded.{Coded}
use Rattle.mls_tables.specs.declared.mode.Mode.{Mode}
use Rattle.mls_tables.specs.declared.mode.Mode.TheVariants.{Execute, Read, Append, Write}
use Rattle.mls_tables.specs.contracts.mode.Mode as mode

-- A mode observes where its holder can see the object. (MTR-2997, access attributes)
abbrev pub observes : Mode → Bool
observes Execute = false
observes Read = true
observes Append = false
observes Write = true

-- A mode alters where its holder can change the object. (MTR-2997, access attributes)
abbrev pub alters : Mode → Bool
alters Execute = false
alters Read = false
alters Append = true
alters Write = true

-- A mode uses where it takes something from the object, which for integrity counts as observing it. (own: MTR-3153 has
-- observe, modify and invoke)
abbrev pub uses : Mode → Bool
uses Execute = true
uses Read = true
uses Append = false
uses Write = true

-- The place of a mode in the order of modes. (own)
abbrev pub mode_number : Mode → ℕ
mode_number Execute = 0
mode_number Read = 1
mode_number Append = 2
mode_number Write = 3

-- The modes, the last in their order first. (MTR-2997, access attributes; the order is own)
abbrev pub all_modes : List Mode
all_modes = Write ∷ Append ∷ Read ∷ Execute ∷ []

-- Modes in order. (own)
abbrev pub mode_cmp : Mode → Mode → Ordering
mode_cmp x y = nat_cmp (mode_number x) (mode_number y)

-- A finite set of modes. (own)
abbrev pub ModeSet : Type 0
ModeSet = FinSet mode_cmp

-- A set of modes is stored as the list of its modes. (own)
abbrev pub mode_set_code : Coded ModeSet
mode_set_code = set.code mode.the_row.coded
