use Rattle.std.proofs.Common.{◌≡◌}
use Rattle.mls_tables.specs.Rows.{listed}
use Rattle.mls_state.specs.State.{is_active}
use Rattle.mls_review.proofs.known.objects.Given as goal

-- the objects below are found
abbrev pub invariant-loop-n : goal.invariant-loop-n
invariant-loop-n g l = l.found.items ≡ listed (is_active l.state) l.n
