use Rattle.std.proofs.Common.{ap, take, ◌∙◌}
use Rattle.std.proofs.lemmas.List.{take_all}
use Rattle.mls_spans.specs.Turning.{found_seen, turns_of}
use Rattle.mls_spans.proofs.Pairing.{pairs_more}
use Rattle.mls_spans.proofs.windows.windows_of.Goals as goal

pub loop-turn-preserved : goal.loop-turn-preserved
loop-turn-preserved c =
    pairs_more c.args.states.now c.args.turns.now c.loop-turn.turn-index c.turn-item.result c.args.access.now c.push_turn_where.new.found.items
    c.in_ok-next.next c.loop-turn-test.true c.turn-item.is
    (c.in_ok-next.ensures (turns_of (take c.loop-turn.turn-index c.args.turns.now) c.args.access.now) c.loop-turn.invariant)

pub returns : goal.returns
returns c =
    c.in_ok-push_last.ensures (turns_of (take c.loop-turn.turn-index c.args.turns.now) c.args.access.now) c.loop-turn.invariant
    ∙ ap (λ l. found_seen l c.args.states.now c.args.access.now) (take_all c.loop-turn.turn-index c.args.turns.now c.loop-turn-test.false)
