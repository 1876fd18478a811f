use Rattle.std.proofs.Common.{◌≡◌, ◌+◌, ◌<◌, ◌≤◌, ◌++◌, ◌∷◌, [], false, true, set, replicate, length, Some, refl, ap, ◌∙◌, arith}
use Rattle.std.specs.Prelude.{slice_get}
use Rattle.std.proofs.lemmas.Option.{slice_get_read}
use Rattle.mls_tables.specs.declared.limits.TheConstants.{MAX_SUBJECTS}
use Rattle.mls_flows.specs.declared.place.Place.TheVariants.{Object}
use Rattle.mls_paths.specs.Found.{at_first}
use Rattle.mls_paths.specs.declared.numbering.TheConstants.{PLACES}
use Rattle.mls_paths.specs.Hands.{acts_of, has_room, Hands}
use Rattle.mls_paths.proofs.Breadth.{at_head, begins, few_places, goes_on, is_flow}
use Rattle.mls_paths.proofs.Hands.{hand_number, object_number}
use Rattle.mls_paths.proofs.searching.search.Goals as goal

pub loop-at-init : goal.loop-at-init
loop-at-init c =
    let below = c.agrees.ensures.tree.objects.below c.args.from c.requires.object in
    let low : MAX_SUBJECTS + c.args.from < PLACES = omega (arith, below) in
    begins (Hands c.args.state.now c.args.ground) (MAX_SUBJECTS + c.args.from) (Object c.args.from) c.push.new.self.items c.in_ok-marked.marked.items low
    (object_number c.args.from)
    (c.in_ok-push.ensures.items ∙ ap (λ xs. xs ++ at_first (Object c.args.from) ∷ []) c.new-found.ensures.items)
    (c.in_ok-marked.ensures ∙ ap (λ k. set (replicate PLACES false) (MAX_SUBJECTS + k) true) c.number.ensures)

pub expand-requires-clause-search : goal.expand-requires-clause-search
expand-requires-clause-search c =
    let found = c.loop-at.found.items in
    let test = c.loop-at-test.true in
    let len = c.len.ensures in
    let same = c.loop-at.found.ok.0 in
    let inside : c.loop-at.at < length found = omega (arith, test, len, same) in
    at_head (Hands c.args.state.now c.args.ground) (Object c.args.from) found c.loop-at.marked.items c.loop-at.at c.index.result.now c.loop-at.invariant
    (slice_get_read found (length found) c.loop-at.at c.index.result.now refl inside c.index.ensures)

pub loop-at-smaller : goal.loop-at-smaller
loop-at-smaller c =
    let found = c.loop-at.found.items in
    let test = c.loop-at-test.true in
    let len = c.len.ensures in
    let same = c.loop-at.found.ok.0 in
    let few : length found ≤ PLACES =
    few_places (Hands c.args.state.now c.args.ground) (Object c.args.from) found c.loop-at.marked.items c.loop-at.at c.loop-at.invariant in
    omega (arith, test, len, same, few)

pub loop-at-preserved : goal.loop-at-preserved
loop-at-preserved c =
    let found = c.loop-at.found.items in
    let test = c.loop-at-test.true in
    let len = c.len.ensures in
    let same = c.loop-at.found.ok.0 in
    let inside : c.loop-at.at < length found = omega (arith, test, len, same) in
    goes_on (Hands c.args.state.now c.args.ground) (Object c.args.from) found c.expand.new.found.items c.loop-at.marked.items c.expand.new.marked.items c.loop-at.at
    c.index.result.now c.loop-at.invariant (slice_get_read found (length found) c.loop-at.at c.index.result.now refl inside c.index.ensures) c.in_ok-expand.ensures

pub returns : goal.returns
returns c =
    let found = c.loop-at.found.items in
    let test = c.loop-at-test.false in
    let len = c.len.ensures in
    let same = c.loop-at.found.ok.0 in
    let past : length found ≤ c.loop-at.at = omega (arith, test, len, same) in
    is_flow (Hands c.args.state.now c.args.ground) (Object c.args.from) found c.loop-at.marked.items c.loop-at.at
    (λ q r h by. hand_number c.args.state.now (acts_of c.args.ground) (has_room c.args.state.now) c.subject_count.result c.agrees.ensures.tree c.agrees.ensures.whole
    c.subject_count.ensures.count c.subject_count.ensures.most q r h by) c.loop-at.invariant past
