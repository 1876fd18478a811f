use Rattle.std.proofs.Common.{◌/◌, ap, ◌∙◌, arith}
use Rattle.std.proofs.lemmas.List.{get_or_default}
use Rattle.std.specs.FinSet as set
use Rattle.mls_tree.proofs.Words.{numbers_of-set, before-set}
use Rattle.mls_tree.proofs.numbers.Numbers.insert.Goals as goal

pub first_open-self-inside-requires-clause-before : goal.first_open-self-inside-requires-clause-before
first_open-self-inside-requires-clause-before g c =
    let words = c.self.inside.words.items in
    let word = c.index_mut.ensures.value ∙ get_or_default words (c.args.n / 64) c.index_mut.result.now 0 (omega (arith, c.self.invariant.many, c.requires)) in
    rw (c.deref.ensures.value, word) (before-set words c.args.n c.self.invariant.many c.requires c.self.inside.place c.self.invariant.first)

pub returns : goal.returns
returns g c =
    let words = c.self.inside.words.items in
    let word = c.index_mut.ensures.value ∙ get_or_default words (c.args.n / 64) c.index_mut.result.now 0 (omega (arith, c.self.invariant.many, c.requires)) in
    rw word (numbers_of-set words c.args.n c.self.invariant.many c.requires) ∙ ap (λ s. set.insert s c.args.n) c.self.view_is
