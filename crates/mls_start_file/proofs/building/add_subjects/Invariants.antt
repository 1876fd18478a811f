use Rattle.std.proofs.Common.{◌≡◌, ◌++◌, take}
use Rattle.mls_start_file.proofs.building.add_subjects.Given as goal

-- the builder has the subjects so far
abbrev pub invariant-loop-subject : goal.invariant-loop-subject
invariant-loop-subject l = l.builder ≡ record l.fn.builder { subjects = l.fn.builder.subjects ++ take l.subject-index l.subjects }
