use Rattle.std.proofs.Common.{◌≡◌, take}
use Rattle.mls_overview.specs.Denials.{keys_denied}
use Rattle.mls_overview.proofs.denial.denied.Given as goal

-- the numbers of the entries so far
abbrev pub invariant-loop-entry : goal.invariant-loop-entry
invariant-loop-entry l = l.keys.items ≡ keys_denied (take l.entry-index l.entries)
