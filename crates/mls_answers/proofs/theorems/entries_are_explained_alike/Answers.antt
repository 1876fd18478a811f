use Rattle.mls_answers.proofs.Explaining.{alike}
use Rattle.mls_answers.proofs.theorems.entries_are_explained_alike.Goals as goal

pub returns : goal.returns
returns c = alike
