-- Why so many rows make no start.
use Rattle.std.specs.Prelude.{ℕ, ◌+◌, ◌==◌, Option, Some, None, nat_lt, if◌then◌else◌}
use Rattle.mls_tables.specs.declared.limits.TheConstants.{MAX_SUBJECTS, MAX_OBJECTS}
use Rattle.mls_state.specs.declared.start_fault.StartFault.{StartFault}
use Rattle.mls_state.specs.declared.start_fault.StartFault.TheVariants.{NoSubjects, TooManySubjects, TooManyObjects}

-- The fault of so many subjects and so many objects below the root, where there are none or too many of them. (own)
abbrev pub count_fault : ℕ → ℕ → Option StartFault
count_fault subjects children =
    if subjects == 0 then Some NoSubjects
    else if nat_lt MAX_SUBJECTS subjects then Some TooManySubjects
    else if nat_lt MAX_OBJECTS (1 + children) then Some TooManyObjects
    else None
