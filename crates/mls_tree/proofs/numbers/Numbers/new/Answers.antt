use Rattle.std.proofs.Common.{ap, ◌∙◌}
use Rattle.mls_tree.specs.Words.{numbers_of}
use Rattle.mls_tree.proofs.Words.{numbers_of-zeros, IsWords-zeros}
use Rattle.mls_tree.proofs.numbers.Numbers.new.Goals as goal

pub invariant_of-result : goal.invariant_of-result
invariant_of-result g c = IsWords-zeros c.in_ok-words.words.items (c.in_ok-words.ensures.items_if_clones_equal (λ y is. is))

pub returns : goal.returns
returns g c = ap numbers_of (c.in_ok-words.ensures.items_if_clones_equal (λ y is. is)) ∙ numbers_of-zeros
