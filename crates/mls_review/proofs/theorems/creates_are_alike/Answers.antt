use Rattle.mls_review.proofs.PowersAlike.{creates_alike}
use Rattle.mls_review.proofs.theorems.creates_are_alike.Goals as goal

pub returns : goal.returns
returns c = creates_alike
