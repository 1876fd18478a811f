use Rattle.mls_futures.specs.Closure.{acts_in}
use Rattle.mls_ways.proofs.Making.{giver_permitted, giver_found}
use Rattle.mls_ways.proofs.giver.giver_of.Goals as goal

pub returns-in-Some : goal.returns-in-Some
returns-in-Some c = giver_permitted c.args.state.now (acts_in c.args.actors.now) c.in-Some.s c.args.p c.in-Some.ensures.0 c.in-Some.ensures.1

pub returns-in-None : goal.returns-in-None
returns-in-None c =
    giver_found c.args.state.now (acts_in c.args.actors.now) c.agrees.ensures.tree c.args.o c.args.p c.requires.parent c.requires.gives c.in-None.ensures c.any_writer.result
    c.any_writer.ensures
