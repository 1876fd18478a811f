use Rattle.std.proofs.Common.{rules, ◌≡◌, ◌++◌, true, false, sym, subst}
use Rattle.std.specs.Prelude.{IfOk}
use Rattle.mls_spans.specs.Turning.{Pairs, is_turn_of}
use Rattle.mls_spans.proofs.Pairing.{one_turn, pairs_same}
use Rattle.mls_spans.proofs.windows.push_turn_where.Goals as goal

pub returns-then-not-is_of : goal.returns-then-not-is_of
returns-then-not-is_of c = λ places so_far.
    let other : is_turn_of c.args.access.now c.args.turn.now ≡ false = search rules in
    pairs_same c.args.states.now places c.args.turn.now c.args.access.now c.args.found.now.items c.args.opened other so_far

pub returns : goal.returns
returns c = λ places so_far.
    let own : is_turn_of c.args.access.now c.args.turn.now ≡ true = search rules in
    subst (λ l. IfOk c.push_turn.result (λ next. Pairs c.args.states.now (places ++ l) c.push_turn.new.found.items next))
    (sym (one_turn c.args.turn.now c.args.access.now own)) (c.push_turn.ensures places so_far)
