use Rattle.std.proofs.Common.{sym, ◌∙◌}
use Rattle.mls_futures.specs.Closure.{acts_in}
use Rattle.mls_ways.specs.Ways.{IsCleared}
use Rattle.mls_ways.proofs.Leading.{leads_nowhere, leads_cleared}
use Rattle.mls_ways.proofs.Making.{near_all, trusted_where}
use Rattle.mls_ways.proofs.obtaining.clear.Goals as goal

pub returns-then-simple_holds : goal.returns-then-simple_holds
returns-then-simple_holds c =
    leads_nowhere (acts_in c.args.actors.now) c.args.state.now c.args.script.now.items (IsCleared c.args.s c.args.o c.args.x) c.requires.secure c.requires.within
    (c.requires.nothing, sym c.simple_holds.ensures ∙ c.if-simple_holds.true)

pub lower_path-requires-clause-trusted : goal.lower_path-requires-clause-trusted
lower_path-requires-clause-trusted c =
    trusted_where c.args.state.now (acts_in c.args.actors.now) c.args.s c.args.o c.args.x c.requires.qualifies (sym c.simple_holds.ensures ∙ c.if-simple_holds.false)

pub lower_path-requires-clause-near : goal.lower_path-requires-clause-near
lower_path-requires-clause-near c = near_all c.args.state.now (acts_in c.args.actors.now) c.agrees.ensures.tree c.args.o c.requires.object

pub returns : goal.returns
returns c =
    leads_cleared (acts_in c.args.actors.now) c.args.state.now c.lower_path.new.state c.args.script.now.items c.lower_path.new.script.items c.args.s c.args.o c.args.x
    c.requires.subject c.in_ok-lower_path.ensures
