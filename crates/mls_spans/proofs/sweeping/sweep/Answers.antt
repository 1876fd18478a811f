use Rattle.std.proofs.Common.{◌≡◌, ◌+◌, ◌∷◌, [], drop, get_or, subst}
use Rattle.std.proofs.lemmas.List.{drop_more, drop_all}
use Rattle.mls_spans.specs.Sweeping.{Sweeps}
use Rattle.mls_spans.proofs.Swept.{swept_done, swept_places}
use Rattle.mls_spans.proofs.sweeping.sweep.Goals as goal

pub loop-at-preserved : goal.loop-at-preserved
loop-at-preserved c =
    let n = c.loop-at.at-index in
    let places = c.args.places.now in
    let more : drop n places ≡ get_or places n 0 ∷ drop (n + 1) places = drop_more places n 0 c.loop-at-test.true in
    c.in_ok-settle.ensures c.args.spans.now.items (drop (n + 1) places)
    (subst (λ l. Sweeps c.args.state.now c.args.ending c.args.spans.now.items c.loop-at.spans.items l c.loop-at.kept.items) more c.loop-at.invariant)

pub returns-clause-spans : goal.returns-clause-spans
returns-clause-spans c =
    let none : drop c.loop-at.at-index c.args.places.now ≡ [] = drop_all c.loop-at.at-index c.args.places.now c.loop-at-test.false in
    swept_done c.args.state.now c.args.ending c.args.spans.now.items c.loop-at.spans.items (drop c.loop-at.at-index c.args.places.now)
    c.loop-at.kept.items none c.loop-at.invariant

pub returns-clause-places : goal.returns-clause-places
returns-clause-places c =
    let none : drop c.loop-at.at-index c.args.places.now ≡ [] = drop_all c.loop-at.at-index c.args.places.now c.loop-at-test.false in
    swept_places c.args.state.now c.args.ending c.args.spans.now.items c.loop-at.spans.items (drop c.loop-at.at-index c.args.places.now)
    c.loop-at.kept.items none c.loop-at.invariant
