use Rattle.std.proofs.Common.{◌≡◌, drop, None}
use Rattle.mls_about.specs.Counting.{last_of}
use Rattle.mls_about.proofs.asked.last_asked.Given as goal

-- it depends on the last so far and on what is left
abbrev pub invariant-loop-entry : goal.invariant-loop-entry
invariant-loop-entry l = last_of l.s None l.entries ≡ last_of l.s l.last (drop l.entry-index l.entries)
