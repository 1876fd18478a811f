use Rattle.std.proofs.Common.{◌≡◌, filter, take}
use Rattle.mls_differences.specs.Counting.{is_by}
use Rattle.mls_differences.proofs.counting.by_subject.Given as goal

-- those so far that are the subject's
abbrev pub invariant-loop-case : goal.invariant-loop-case
invariant-loop-case l = l.mine.items ≡ filter (is_by l.s) (take l.case-index l.cases)
