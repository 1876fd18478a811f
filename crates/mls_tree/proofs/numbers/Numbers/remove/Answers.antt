use Rattle.std.proofs.Common.{◌/◌, ap, ◌∙◌, arith}
use Rattle.std.proofs.lemmas.List.{get_or_default}
use Rattle.std.specs.FinSet as set
use Rattle.mls_tree.proofs.Words.{numbers_of-clear, IsWords-clear}
use Rattle.mls_tree.proofs.numbers.Numbers.remove.Goals as goal

pub returns : goal.returns
returns g c =
    let words = c.self.inside.words.items in
    let word = c.index_mut.ensures.value ∙ get_or_default words (c.args.n / 64) c.index_mut.result.now 0 (omega (arith, c.self.invariant.many, c.requires)) in
    rw word (numbers_of-clear words c.args.n c.self.invariant.many c.requires) ∙ ap (λ s. set.remove s c.args.n) c.self.view_is

pub invariant_of-self : goal.invariant_of-self
invariant_of-self g c =
    let words = c.self.inside.words.items in
    let word = c.index_mut.ensures.value ∙ get_or_default words (c.args.n / 64) c.index_mut.result.now 0 (omega (arith, c.self.invariant.many, c.requires)) in
    rw (word, c.earlier_open-self-inside.ensures) (IsWords-clear words c.args.n c.self.invariant.many c.requires c.self.inside.place c.self.invariant.first)
