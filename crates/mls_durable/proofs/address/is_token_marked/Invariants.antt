use Rattle.std.proofs.Common.{◌≡◌, true, length}
use Rattle.mls_durable.specs.Sessions.{has_variable}
use Rattle.mls_durable.proofs.address.is_token_marked.Given as goal

abbrev pub invariant-loop-rest : goal.invariant-loop-rest
invariant-loop-rest l = has_variable l.is_start l.rest ≡ has_variable true l.fn.line

abbrev pub decreases-loop-rest : goal.decreases-loop-rest
decreases-loop-rest l = length l.rest
