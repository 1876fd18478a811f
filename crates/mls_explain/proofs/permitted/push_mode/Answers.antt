use Rattle.std.proofs.Common.{All, sym, subst}
use Rattle.std.proofs.lemmas.List.Elements.{All-push}
use Rattle.mls_explain.specs.Prospects.{IsProspect}
use Rattle.mls_explain.proofs.permitted.push_mode.Goals as goal

pub returns-in_ok-push-clause-each : goal.returns-in_ok-push-clause-each
returns-in_ok-push-clause-each g c =
    subst (All (IsProspect c.args.state.now c.args.o)) (sym c.in_ok-push.ensures.items)
    (All-push (IsProspect c.args.state.now c.args.o) c.args.found.now.items c.prospect_of.result c.requires.each c.prospect_of.ensures.is)
