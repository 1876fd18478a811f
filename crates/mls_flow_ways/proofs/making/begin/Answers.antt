use Rattle.mls_futures.specs.Closure.{acts_in}
use Rattle.mls_ways.proofs.Laws.{near_all}
use Rattle.mls_flow_ways.proofs.Begun.{parent_active, carries_begun}
use Rattle.mls_flow_ways.proofs.making.begin.Goals as goal

pub bring-requires-clause-near : goal.bring-requires-clause-near
bring-requires-clause-near c =
    let acts = acts_in c.args.actors.now in
    near_all c.args.state.now acts c.requires.secure.tree c.args.parent
    (parent_active acts c.args.state.now c.requires.secure c.agrees.ensures.whole c.requires.bound c.args.s c.args.t c.args.maker c.args.parent c.requires.could)

pub returns : goal.returns
returns c =
    carries_begun (acts_in c.args.actors.now) c.args.state.now c.requires.secure c.agrees.ensures.whole c.requires.bound c.args.s c.args.t c.args.maker c.args.parent
    c.requires.could c.bring.new.state c.add.new.state c.args.script.now.items c.bring.new.script.items c.add.new.script.items c.object_label-label.result
    c.subject_integrity-integrity.result c.in_ok-bring.ensures c.object_label-label.ensures c.subject_integrity-integrity.ensures c.in_ok-add.ensures.state
    c.in_ok-add.ensures.script
