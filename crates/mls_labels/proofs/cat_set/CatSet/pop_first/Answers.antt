use Rattle.std.proofs.Common.{sym, ◌∙◌}
use Rattle.mls_labels.proofs.CategoryWords.{none_words}
use Rattle.mls_labels.proofs.Numbers.{ascending-first}
use Rattle.mls_labels.proofs.cat_set.CatSet.pop_first.Goals as goal

pub returns-in_default-clause-none : goal.returns-in_default-clause-none
returns-in_default-clause-none c = sym c.self.view_is ∙ none_words c.self.inside.words c.in_default.ensures.none

pub returns-in_default-clause-empty : goal.returns-in_default-clause-empty
returns-in_default-clause-empty c = sym c.self.view_is ∙ none_words c.self.inside.words c.in_default.ensures.none

pub returns-clause-first : goal.returns-clause-first
returns-clause-first c =
    rw (c.put-self-inside.ensures, c.word-word.ensures, ← c.self.view_is) (ascending-first c.self.inside.words c.in-Some.place c.in-Some.ensures.first c.self.invariant)
