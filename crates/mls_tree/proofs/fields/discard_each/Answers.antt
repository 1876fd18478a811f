use Rattle.std.proofs.Common.{◌≡◌, ◌<◌, ◌&&◌, [], None, eqb, length, not, filter, get_or, refl, sym, ap, ◌∙◌, arith}
use Rattle.std.specs.List.Sorted.{IsStrictlyIncreasing}
use Rattle.std.proofs.lemmas.List.{get_or_default}
use Rattle.std.proofs.lemmas.List.Kept.{IsStrictlyIncreasing-filter}
use Rattle.mls_facts.specs.Numbered.{holds_of}
use Rattle.mls_facts.proofs.Filters.{filter_all}
use Rattle.mls_tree.proofs.Kept.{of_some, stays_listed_more, parent_within, discarded_one}
use Rattle.mls_tree.proofs.fields.discard_each.Goals as goal

pub loop-o-init : goal.loop-o-init
loop-o-init g c = record { many = refl; left = λ q. sym (filter_all _ _ (λ x. refl)) }

pub discard_one-requires-clause-list : goal.discard_one-requires-clause-list
discard_one-requires-clause-list g c =
    let here : c.loop-o.o-index < length c.args.group.now = omega arith in
    let low : get_or c.args.group.now c.loop-o.o-index c.o-item.result < length c.args.parents.now = c.requires.numbers c.loop-o.o-index c.o-item.result here in
    let within : c.number.result < length c.args.parents.now = omega (arith, c.number.ensures, c.o-item.is) in
    parent_within c.args.parents.now c.args.lists.now.lists c.loop-o.lists.lists c.number.result c.index-parents-number.result c.requires.listed c.loop-o.invariant.many within c.index-parents-number.is

pub discard_one-requires-clause-ascends : goal.discard_one-requires-clause-ascends
discard_one-requires-clause-ascends g c =
    of_some (λ p. IsStrictlyIncreasing (get_or c.loop-o.lists.lists p [])) (λ p. rw (c.loop-o.invariant.left p) (IsStrictlyIncreasing-filter _ (get_or c.args.lists.now.lists p []) (c.requires.ascend p))) c.index-parents-number.result

pub loop-o-preserved : goal.loop-o-preserved
loop-o-preserved g c =
    let here : c.loop-o.o-index < length c.args.group.now = omega arith in
    let low : get_or c.args.group.now c.loop-o.o-index c.o-item.result < length c.args.parents.now = c.requires.numbers c.loop-o.o-index c.o-item.result here in
    let within : c.number.result < length c.args.parents.now = omega (arith, c.number.ensures, c.o-item.is) in
    let item : c.o-item.result ≡ get_or c.args.group.now c.loop-o.o-index 0 = c.o-item.is ∙ get_or_default c.args.group.now c.loop-o.o-index c.o-item.result 0 here in
    let parent : c.index-parents-number.result ≡ get_or c.args.parents.now c.o-item.result None =
    c.index-parents-number.is ∙ get_or_default c.args.parents.now c.number.result c.index-parents-number.result None within ∙ ap (λ n. get_or c.args.parents.now n None) c.number.ensures in
    let there = parent_within c.args.parents.now c.args.lists.now.lists c.loop-o.lists.lists c.number.result c.index-parents-number.result c.requires.listed c.loop-o.invariant.many within c.index-parents-number.is in
    let one = discarded_one c.loop-o.lists.lists c.discard_one.new.lists.lists c.index-parents-number.result c.o-item.result there c.discard_one.ensures.listed c.discard_one.ensures.root in
    record {
      many = one.0 ∙ c.loop-o.invariant.many;
      left = λ q.
          one.1 q
          ∙ (λ i. filter (λ x. not (eqb x c.o-item.result && holds_of (λ p. eqb p q) (parent i))) (c.loop-o.invariant.left q i))
          ∙ stays_listed_more c.args.parents.now c.args.group.now c.loop-o.o-index c.o-item.result q (get_or c.args.lists.now.lists q []) here item;
    }
