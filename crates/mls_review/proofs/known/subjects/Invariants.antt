use Rattle.std.proofs.Common.{◌≡◌}
use Rattle.mls_tables.specs.Rows.{listed}
use Rattle.mls_state.specs.State.{is_subject}
use Rattle.mls_review.proofs.known.subjects.Given as goal

-- the subjects below are found
abbrev pub invariant-loop-n : goal.invariant-loop-n
invariant-loop-n g l = l.found.items ≡ listed (is_subject l.state) l.n
