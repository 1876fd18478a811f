use Rattle.std.proofs.Common.{◌≡◌, filter, take, None}
use Rattle.mls_spans.specs.Trust.{is_asked_by, last_entry}
use Rattle.mls_spans.proofs.trusting.last_of.Given as goal

-- the last of the entries so far that the subject asked
abbrev pub invariant-loop-entry : goal.invariant-loop-entry
invariant-loop-entry l = l.last ≡ last_entry None (filter (is_asked_by l.s) (take l.entry-index l.entries))
