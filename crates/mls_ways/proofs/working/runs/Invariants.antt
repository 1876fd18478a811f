use Rattle.std.specs.Prelude.{◌≡◌, drop}
use Rattle.mls_ways.specs.Lean.{brings}
use Rattle.mls_ways.proofs.working.runs.Given as goal

-- it depends on the requests that are left, from the state that was come to
abbrev pub invariant-loop-request : goal.invariant-loop-request
invariant-loop-request l = brings l.fn.state l.access l.requests ≡ brings l.state l.access (drop l.request-index l.requests)
