use Rattle.std.proofs.Common.{rules, ◌≡◌, []}
use Rattle.mls_spans.proofs.TurnSteps.{none_kept}
use Rattle.mls_spans.proofs.turning.Turns.new.Goals as goal

pub returns-clause-each : goal.returns-clause-each
returns-clause-each c = λ t small.
    let none : c.new-turns.result.items ≡ [] = search rules in
    none_kept c.in_ok-modes.modes.items c.new-turns.result.items t (c.in_ok-modes.ensures.none t.0) none
