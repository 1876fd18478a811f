use Rattle.std.proofs.Common.{◌≡◌, ◌+◌, ◌<◌, ◌++◌, ◌∷◌, [], length, true, false, Some, refl, ap, subst, ◌∙◌, arith}
use Rattle.std.specs.Prelude.{slice_get}
use Rattle.std.proofs.lemmas.Option.{slice_get_read, slice_get_within}
use Rattle.mls_paths.specs.Hands.{Hands}
use Rattle.mls_paths.proofs.Breadth.{visits_marked, visits_new}
use Rattle.mls_paths.proofs.searching.visit.Goals as goal

pub returns-then-index : goal.returns-then-index
returns-then-index c =
    let marks = c.args.marked.now.items in
    let many = c.requires.search.search.many in
    let number = c.requires.number in
    let inside : c.args.n < length marks = omega (arith, number, many) in
    let there : slice_get marks c.args.n ≡ Some true =
    slice_get_read marks (length marks) c.args.n c.index.result.now refl inside c.index.ensures ∙ ap Some c.if-index.true in
    visits_marked (Hands c.args.state.now c.args.ground) c.args.found.now.items marks c.args.at c.args.n c.args.from.now c.requires.search there

pub overflow_add-steps : goal.overflow_add-steps
overflow_add-steps c =
    let low = c.requires.search.search.below c.args.at c.args.from.now c.requires.search.here in
    let inside = slice_get_within c.args.found.now.items c.args.at c.args.from.now c.requires.search.here in
    let few = c.requires.search.search.few in
    omega (arith, low, inside, few)

pub returns-in_ok-push : goal.returns-in_ok-push
returns-in_ok-push c =
    let marks = c.args.marked.now.items in
    let many = c.requires.search.search.many in
    let number = c.requires.number in
    let inside : c.args.n < length marks = omega (arith, number, many) in
    let free : slice_get marks c.args.n ≡ Some false =
    slice_get_read marks (length marks) c.args.n c.index.result.now refl inside c.index.ensures ∙ ap Some c.if-index.false in
    visits_new (Hands c.args.state.now c.args.ground) c.args.found.now.items c.push.new.self.items marks _ c.args.at c.args.n c.args.from.now c.in-Some.hand c.requires.search free
    (subst (λ p. Hands c.args.state.now c.args.ground c.args.from.now.place c.in-Some.hand p) c.place_of-place.ensures c.in-Some.ensures)
    (c.in_ok-push.ensures.items
    ∙ ap (λ p. c.args.found.now.items ++ record { place = p; steps = c.args.from.now.steps + 1; came = Some (record { before = c.args.at; hand = c.in-Some.hand }) } ∷ []) c.place_of-place.ensures)
    refl
