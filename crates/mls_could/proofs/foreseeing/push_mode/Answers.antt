use Rattle.std.proofs.Common.{All, sym, subst}
use Rattle.std.proofs.lemmas.List.Elements.{All-push}
use Rattle.mls_futures.specs.Closure.{acts_in}
use Rattle.mls_could.specs.Foreseeing.{IsForeseen}
use Rattle.mls_could.proofs.foreseeing.push_mode.Goals as goal

pub returns-clause-each : goal.returns-clause-each
returns-clause-each c =
    subst (All (IsForeseen c.args.state.now (acts_in c.args.actors.now) c.args.o)) (sym c.in_ok-push.ensures.items)
    (All-push (IsForeseen c.args.state.now (acts_in c.args.actors.now) c.args.o) c.args.found.now.items
    (record { subject = c.args.s; mode = c.args.x; future = c.future_of-future.result }) c.requires.each c.future_of-future.ensures)
