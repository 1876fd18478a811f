-- Why a start or a journal is refused, in numbers.
use Rattle.std.specs.Prelude.{◌≡◌, ℕ, ℤ, ◌⊎◌, List, [], Option, Some, None}
use Rattle.mls_labels.specs.declared.scheme_fault.SchemeFault.{SchemeFault}
use Rattle.mls_labels.specs.declared.scheme_fault.SchemeFault.TheVariants as scheme
use Rattle.mls_state.specs.declared.start_fault.StartFault.{StartFault}
use Rattle.mls_state.specs.declared.start_fault.StartFault.TheVariants as rows
use Rattle.mls_start_text.specs.declared.load_fault.LoadFault.{LoadFault}
use Rattle.mls_start_text.specs.declared.load_fault.LoadFault.TheVariants.{Json, Members, Scheme, Name, Label, Unknown}
use Rattle.mls_start_text.specs.declared.load_fault.LoadFault.TheVariants.{Start, Memory}
use Rattle.mls_start_file.specs.Says.{SaysStart, RefusesStart}
use Rattle.mls_start_file.specs.Ties.{Loaded}
use Rattle.mls_c.specs.Opened.{Opened, opened_with}
use Rattle.mls_c.specs.declared.fault.FaultNumbers.{FaultNumbers}
use Rattle.mls_c.specs.declared.status.TheConstants.{OK, EOPEN, ENOMEM, ESTART}

-- The number of a scheme's fault, in the order of the faults. (own)
abbrev pub number_of_scheme_fault : SchemeFault → ℕ
number_of_scheme_fault scheme.NoLevels = 1
number_of_scheme_fault scheme.TooManyLevels = 2
number_of_scheme_fault scheme.TooManyCategories = 3
number_of_scheme_fault scheme.BadName = 4
number_of_scheme_fault scheme.RepeatedName = 5
number_of_scheme_fault scheme.Memory = 6

-- The number of a fault of a start's rows, in the order of the faults. (own)
abbrev pub number_of_start_fault : StartFault → ℕ
number_of_start_fault rows.NoSubjects = 1
number_of_start_fault rows.TooManySubjects = 2
number_of_start_fault rows.TooManyObjects = 3
number_of_start_fault rows.BadLabel = 4
number_of_start_fault rows.BadParent = 5
number_of_start_fault rows.CurrentAboveMaximum = 6
number_of_start_fault rows.NotCompatible = 7
number_of_start_fault rows.IntegrityAboveParent = 8
number_of_start_fault rows.NoSuchCell = 9
number_of_start_fault rows.NotSecure = 10

-- The fault of a start file: its kind, and the number of its cause where it has one. (own)
abbrev pub start_fault_numbers : LoadFault → FaultNumbers
start_fault_numbers Json = record { kind = 1; number = 0; place = 0 }
start_fault_numbers Members = record { kind = 2; number = 0; place = 0 }
start_fault_numbers (Scheme cause) = record { kind = 3; number = number_of_scheme_fault cause; place = 0 }
start_fault_numbers Name = record { kind = 4; number = 0; place = 0 }
start_fault_numbers Label = record { kind = 5; number = 0; place = 0 }
start_fault_numbers Unknown = record { kind = 6; number = 0; place = 0 }
start_fault_numbers (Start cause) = record { kind = 7; number = number_of_start_fault cause; place = 0 }
start_fault_numbers Memory = record { kind = 8; number = 0; place = 0 }

-- The bytes are refused as a start file for a fault of these numbers. (own)
abbrev pub HasStartFault : List ℕ → FaultNumbers → Type 0
HasStartFault bytes numbers = (cause : LoadFault) × RefusesStart bytes cause × (numbers ≡ start_fault_numbers cause)

-- The handle holds the monitor that the bytes of a start file say, with an empty journal. (own)
pub record Opens (bytes : List ℕ) (new : Option Opened) : Type 0 where
  pub loaded : Loaded
  pub says : SaysStart bytes loaded
  pub holds : new ≡ Some (opened_with loaded [])

-- What opening returns: that the handle is open already; else a monitor was opened, or the start is refused, or there
-- is no memory. (own)
abbrev pub OpenStatus : Option Opened → ℤ → Type 0
OpenStatus (Some v) status = status ≡ EOPEN
OpenStatus None status = (status ≡ OK) ⊎ (status ≡ ESTART) ⊎ (status ≡ ENOMEM)
