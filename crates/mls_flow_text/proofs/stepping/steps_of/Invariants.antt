use Rattle.std.proofs.Common.{◌≡◌, ◌++◌, drop}
use Rattle.mls_flow_text.specs.Steps.{steps_of}
use Rattle.mls_flow_text.proofs.stepping.steps_of.Given as goal

-- the hops so far are told, and the others follow by the object before
abbrev pub invariant-loop-hop : goal.invariant-loop-hop
invariant-loop-hop l = steps_of l.state l.fn.from l.hops ≡ l.steps.items ++ steps_of l.state l.before (drop l.hop-index l.hops)
