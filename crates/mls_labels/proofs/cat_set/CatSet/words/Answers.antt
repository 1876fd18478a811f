use Rattle.mls_labels.proofs.CategoryWords.{words_back}
use Rattle.mls_labels.proofs.cat_set.CatSet.words.Goals as goal

pub returns : goal.returns
returns c = rw (← c.self.view_is) (words_back c.self.inside.words c.self.invariant)
