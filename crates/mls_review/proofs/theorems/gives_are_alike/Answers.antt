use Rattle.mls_review.proofs.PowersAlike.{gives_alike}
use Rattle.mls_review.proofs.theorems.gives_are_alike.Goals as goal

pub returns : goal.returns
returns c = gives_alike
