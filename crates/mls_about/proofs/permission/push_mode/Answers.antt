use Rattle.std.proofs.Common.{All, sym, subst}
use Rattle.std.proofs.lemmas.List.Elements.{All-push}
use Rattle.mls_about.specs.Permissions.{IsTold}
use Rattle.mls_about.proofs.permission.push_mode.Goals as goal

pub returns-in_ok-push-clause-each : goal.returns-in_ok-push-clause-each
returns-in_ok-push-clause-each c =
    subst (All (IsTold c.args.state.now)) (sym c.in_ok-push.ensures.items)
    (All-push (IsTold c.args.state.now) c.args.found.now.items
    (record { object = c.args.o; prospect = c.prospect_of.result }) c.requires c.prospect_of.ensures.is)
