-- What copying out a start file of an open monitor's state tells.
use Rattle.std.specs.Prelude.{◌≡◌, ◌⊎◌, ◌<◌, ℕ, ℤ, ◌++◌, List, length, drop, map, unwrap_or, Option, Some, None}
use Rattle.std.specs.Prelude.{IsSomeAnd}
use Rattle.std.specs.List.{range_with_len}
use Rattle.mls_tables.specs.declared.limits.TheConstants.{MAX_OBJECTS}
use Rattle.mls_snapshots.specs.Orders.{place_in}
use Rattle.mls_snapshots.specs.Starts.{IsStartBy}
use Rattle.mls_c.specs.Opened.{Opened, state_of}
use Rattle.mls_c.specs.declared.status.TheConstants.{OK, ECLOSED, ENOMEM, ESTART, ERANGE}

-- The number that an object gets in a start whose objects stand in this order: its place, or 4,096 where it has none.
-- (own)
abbrev pub new_number : List ℕ → ℕ → ℕ
new_number order o = unwrap_or (place_in order o) MAX_OBJECTS

-- The new numbers of so many objects. (own)
abbrev pub new_numbers : List ℕ → ℕ → List ℕ
new_numbers order count = map (new_number order) (range_with_len 0 count)

-- A text is a start file of an open monitor's state, with its objects in this order. (own)
abbrev pub IsStateStart : Opened → List ℕ → List ℕ → Type 0
IsStateStart v order text = IsStartBy v.names (state_of v) order text

-- A start file of the state lies at the front of a buffer, and its length and the new numbers of objects are told.
-- (own)
pub record CopiesStart (v : Opened) (old new : List ℕ) (len : ℕ) (old_numbers numbers : List ℕ) : Type 0 where
  pub order : List ℕ
  pub text : List ℕ
  pub is : IsStateStart v order text
  pub lies : new ≡ text ++ drop (length text) old
  pub many : len ≡ length text
  pub told : numbers ≡ new_numbers order (length old_numbers)

-- The same of a handle's monitor. (own)
abbrev pub CopiesStartOf : Option Opened → List ℕ → List ℕ → ℕ → List ℕ → List ℕ → Type 0
CopiesStartOf handle old new len old_numbers numbers =
    IsSomeAnd handle (λ v. CopiesStart v old new len old_numbers numbers)

-- A start file of the state has this length, for which there is no room. (own)
pub record HasLongStart (v : Opened) (room len : ℕ) : Type 0 where
  pub order : List ℕ
  pub text : List ℕ
  pub is : IsStateStart v order text
  pub many : len ≡ length text
  pub long : room < len

-- The same of a handle's monitor. (own)
abbrev pub HasLongStartOf : Option Opened → ℕ → ℕ → Type 0
HasLongStartOf handle room len = IsSomeAnd handle (λ v. HasLongStart v room len)

-- What copying out a start returns: that no monitor is open; or that the start is there, that the buffer is too short,
-- that there is no memory, or that what was written isn't a start of the state, which is only said. (own)
abbrev pub StateStartStatus : Option Opened → ℤ → Type 0
StateStartStatus None status = status ≡ ECLOSED
StateStartStatus (Some v) status = (status ≡ OK) ⊎ (status ≡ ERANGE) ⊎ (status ≡ ENOMEM) ⊎ (status ≡ ESTART)
