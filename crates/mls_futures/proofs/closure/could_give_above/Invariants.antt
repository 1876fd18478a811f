use Rattle.mls_futures.specs.Closure.{acts_in}
use Rattle.mls_futures.proofs.Walking.{IsOnWay}
use Rattle.mls_futures.proofs.closure.could_give_above.Given as goal

-- the way has come to an object of which the same could be given
abbrev pub invariant-loop-step : goal.invariant-loop-step
invariant-loop-step g l = IsOnWay l.state (acts_in l.actors) l.fn.o l.at l.step
