use Rattle.mls_futures.proofs.NeverHeld.{never_comes, never_held}
use Rattle.mls_futures.proofs.never.no_future_has_what_the_closure_has_not.Goals as goal

pub returns : goal.returns
returns c = record {
  released = never_comes;
  held = never_held;
}
