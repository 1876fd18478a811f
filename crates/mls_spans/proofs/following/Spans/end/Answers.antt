use Rattle.std.proofs.Common.{rules, ◌≡◌, false}
use Rattle.mls_spans.specs.Spans.{ending_of}
use Rattle.mls_spans.specs.Sweeping.{may_take, is_granted}
use Rattle.mls_spans.proofs.Standing.{end_by_kind, end_denied}
use Rattle.mls_spans.proofs.following.Spans.end.Goals as goal

pub returns-then-not-may_take-clause-spans : goal.returns-then-not-may_take-clause-spans
returns-then-not-may_take-clause-spans c = λ v stand is answered.
    let none : may_take c.args.entry.now.request.action ≡ false = search rules in
    end_by_kind v c.args.state.now c.args.entry.now.request (ending_of c.args.entry.now) c.args.self.now.spans.items none is stand

pub returns-then-not-is_granted-clause-spans : goal.returns-then-not-is_granted-clause-spans
returns-then-not-is_granted-clause-spans c = λ v stand is answered.
    let none : is_granted c.args.answer ≡ false = search rules in
    end_denied v c.args.state.now c.args.entry.now.request c.args.answer (ending_of c.args.entry.now) c.args.self.now.spans.items none is answered stand
