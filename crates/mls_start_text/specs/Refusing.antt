-- What the refusal of a scheme is as a fault of a start file.
use Rattle.std.specs.Prelude.{◌≡◌, ◌⊎◌}
use Rattle.mls_labels.specs.declared.scheme_fault.SchemeFault.{SchemeFault}
use Rattle.mls_labels.specs.declared.scheme_fault.SchemeFault.TheVariants as refused
use Rattle.mls_start_text.specs.declared.load_fault.LoadFault.{LoadFault}
use Rattle.mls_start_text.specs.declared.load_fault.LoadFault.TheVariants.{Json, Scheme, Memory}

-- The fault of a start whose scheme is refused: out of memory is that, whatever met it. (own)
abbrev pub load_fault : SchemeFault → LoadFault
load_fault refused.NoLevels = Scheme refused.NoLevels
load_fault refused.TooManyLevels = Scheme refused.TooManyLevels
load_fault refused.TooManyCategories = Scheme refused.TooManyCategories
load_fault refused.BadName = Scheme refused.BadName
load_fault refused.RepeatedName = Scheme refused.RepeatedName
load_fault refused.Memory = Memory

-- One of the faults that reading a tree may have. (own)
abbrev pub IsJsonOrMemory : LoadFault → Type 0
IsJsonOrMemory fault = (fault ≡ Json) ⊎ (fault ≡ Memory)
