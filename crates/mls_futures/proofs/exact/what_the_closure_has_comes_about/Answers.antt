use Rattle.mls_futures.proofs.NeverHeld.{never_comes}
use Rattle.mls_futures.proofs.BothWays.{could_come}
use Rattle.mls_futures.proofs.exact.what_the_closure_has_comes_about.Goals as goal

pub returns : goal.returns
returns c = λ v acts s o x h whole within. (λ could. could_come v acts s o x h whole within could, λ come. never_comes v acts s o x h come)
