use Rattle.mls_futures.specs.Closure.{acts_in}
use Rattle.mls_flow_ways.proofs.Begun.{carries_permitted}
use Rattle.mls_flow_ways.proofs.making.permit.Goals as goal

pub returns : goal.returns
returns c =
    carries_permitted (acts_in c.args.actors.now) c.args.s c.args.t c.args.maker c.args.parent c.args.child c.requires.giver.0 c.requires.taker.0 c.requires.maker.0 c.args.state.now
    c.add.new.state c.add-2.new.state c.add-3.new.state c.args.script.now.items c.add.new.script.items c.add-2.new.script.items c.add-3.new.script.items
    (record {
      secure = c.requires.secure;
      within = c.requires.within;
      trusted = c.agrees.ensures.whole.trusted;
      giver = c.requires.giver.1;
      taker = c.requires.taker.1;
      making = c.requires.maker.1;
      between = c.requires.begun.1;
    }) c.requires.begun.0 c.requires.parent c.in_ok-add.ensures.state c.in_ok-add.ensures.script c.in_ok-add-2.ensures.state c.in_ok-add-2.ensures.script
    c.in_ok-add-3.ensures.state c.in_ok-add-3.ensures.script
