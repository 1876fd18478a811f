use Rattle.std.proofs.Common.{◌≡◌, ◌<◌, length, get_or, sym, ap, ◌∙◌, arith}
use Rattle.std.proofs.lemmas.List.{get_or_default}
use Rattle.std.specs.FinSet as set
use Rattle.mls_tables.specs.declared.limits.TheConstants.{MAX_OBJECTS}
use Rattle.mls_facts.specs.Least.{least_failing}
use Rattle.mls_tree.proofs.Words.{least_open, least_none}
use Rattle.mls_tree.proofs.numbers.Numbers.least_free.Goals as goal

pub lowest_zero-requires : goal.lowest_zero-requires
lowest_zero-requires g c full =
    let words = c.self.inside.words.items in
    let place = c.self.inside.place in
    let here : place < length words = omega arith in
    c.self.invariant.first.room here (sym (c.index.ensures ∙ get_or_default words place c.index.result.now 0 here) ∙ full)

pub returns-then-place-len : goal.returns-then-place-len
returns-then-place-len g c =
    least_none c.self.inside.words.items c.self.inside.place c.self.invariant (omega arith) ∙ ap (λ s. least_failing (set.contains s) MAX_OBJECTS 0) c.self.view_is

pub returns : goal.returns
returns g c =
    let words = c.self.inside.words.items in
    let place = c.self.inside.place in
    let here : place < length words = omega arith in
    let word : c.index.result.now ≡ get_or words place 0 = c.index.ensures ∙ get_or_default words place c.index.result.now 0 here in
    let lowest = rw word at c.lowest_zero.ensures in
    least_open words place c.self.invariant c.lowest_zero.result here lowest.within lowest.zero_bit lowest.ones ∙ ap (λ s. least_failing (set.contains s) MAX_OBJECTS 0) c.self.view_is
