use Rattle.std.proofs.Common.{length}
use Rattle.mls_spans.proofs.Walked.{TrustedSoFar}
use Rattle.mls_spans.specs.UsageListings.{entries_between}
use Rattle.mls_spans.proofs.granted.trusted_walked.Given as goal

-- the state is that before the next entry, and those among the entries so far are found
abbrev pub invariant-loop-entry : goal.invariant-loop-entry
invariant-loop-entry l = TrustedSoFar (entries_between l.fn.states l.replay.entries) l.rest l.initial.state l.state l.found.items

abbrev pub decreases-loop-entry : goal.decreases-loop-entry
decreases-loop-entry l = length l.rest
