use Rattle.std.proofs.Common.{◌≡◌, ◌+◌, ◌∷◌, drop, sym, ap, subst, ◌∙◌}
use Rattle.std.proofs.lemmas.List.{drop_more}
use Rattle.mls_futures.specs.Closure.{acts_in}
use Rattle.mls_flow_ways.proofs.Growing.{IsOnWay, way_first, way_hand, way_next}
use Rattle.mls_flow_ways.proofs.passing.pass_on.Goals as goal

pub loop-hop-init : goal.loop-hop-init
loop-hop-init c =
    way_first (acts_in c.args.actors.now) c.args.state.now c.args.script.now.items c.args.from c.args._to c.args.hops.now c.requires.secure c.requires.within c.requires.nothing
    c.requires.leads c.requires.once

pub pass-requires-clause-hand : goal.pass-requires-clause-hand
pass-requires-clause-hand c =
    let acts = acts_in c.args.actors.now in
    let v = c.args.state.now in
    let w = c.loop-hop.state in
    let i = c.loop-hop.hop-index in
    let hop = c.hop-item.result in
    let rest = drop (i + 1) c.args.hops.now in
    let begins : drop i c.args.hops.now ≡ hop ∷ rest = drop_more c.args.hops.now i hop c.loop-hop-test.true ∙ ap (λ x. x ∷ rest) (sym c.hop-item.is) in
    way_hand acts v w c.args.script.now.items c.loop-hop.script.items c.args.from c.loop-hop.place c.args._to hop rest
    (subst (λ xs. IsOnWay acts v w c.args.script.now.items c.loop-hop.script.items c.args.from c.loop-hop.place c.args._to xs) begins c.loop-hop.invariant)

pub loop-hop-preserved : goal.loop-hop-preserved
loop-hop-preserved c =
    let acts = acts_in c.args.actors.now in
    let v = c.args.state.now in
    let w = c.loop-hop.state in
    let i = c.loop-hop.hop-index in
    let hop = c.hop-item.result in
    let rest = drop (i + 1) c.args.hops.now in
    let begins : drop i c.args.hops.now ≡ hop ∷ rest = drop_more c.args.hops.now i hop c.loop-hop-test.true ∙ ap (λ x. x ∷ rest) (sym c.hop-item.is) in
    way_next acts v w c.pass.new.state c.args.script.now.items c.loop-hop.script.items c.pass.new.script.items c.args.from c.loop-hop.place c.args._to hop rest
    (subst (λ xs. IsOnWay acts v w c.args.script.now.items c.loop-hop.script.items c.args.from c.loop-hop.place c.args._to xs) begins c.loop-hop.invariant) c.in_ok-pass.ensures
