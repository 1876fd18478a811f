use Rattle.std.specs.Prelude.{◌≡◌, true, length}
use Rattle.mls_futures.specs.Closure.{acts_in}
use Rattle.mls_futures.specs.Scripts.{AreOfActors}
use Rattle.mls_ways.specs.Lean.{brings}
use Rattle.mls_ways.proofs.leaning.lean.Given as goal

-- what is left brings the access about still
abbrev pub invariant-loop-requests : goal.invariant-loop-requests
invariant-loop-requests l = record {
  does : brings l.first l.access l.requests.items ≡ true;
  of_actors : AreOfActors (acts_in l.actors) l.requests.items;
}

abbrev pub decreases-loop-requests : goal.decreases-loop-requests
decreases-loop-requests l = length l.requests.items
