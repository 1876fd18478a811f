use Rattle.std.proofs.Common.{subst}
use Rattle.mls_spans.specs.Turning.{Pairs}
use Rattle.mls_spans.proofs.Pairing.{pairs_last, pairs_none}
use Rattle.mls_spans.proofs.windows.push_last.Goals as goal

pub returns-in_ok-push_where-in-Some : goal.returns-in_ok-push_where-in-Some
returns-in_ok-push_where-in-Some c = λ places so_far.
    pairs_last c.args.states.now places c.args.found.now.items c.push_where.new.found.items c.in-Some.first c.in_ok-push_where-in-Some.ensures
    (subst (λ opened. Pairs c.args.states.now places c.args.found.now.items opened) c.in-Some.is so_far)

pub returns-in-None : goal.returns-in-None
returns-in-None c = λ places so_far.
    pairs_none c.args.states.now places c.args.found.now.items
    (subst (λ opened. Pairs c.args.states.now places c.args.found.now.items opened) c.in-None.is so_far)
