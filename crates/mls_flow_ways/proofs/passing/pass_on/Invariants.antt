use Rattle.std.proofs.Common.{drop}
use Rattle.mls_futures.specs.Closure.{acts_in}
use Rattle.mls_flow_ways.proofs.Growing.{IsOnWay}
use Rattle.mls_flow_ways.proofs.passing.pass_on.Given as goal

-- content has come to a place, and the hands that are left lead on from there
abbrev pub invariant-loop-hop : goal.invariant-loop-hop
invariant-loop-hop l = IsOnWay (acts_in l.actors) l.fn.state l.state l.fn.script.items l.script.items l.fn.from l.place l.fn._to (drop l.hop-index l.hops)
