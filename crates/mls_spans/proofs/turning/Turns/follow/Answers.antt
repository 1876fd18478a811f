use Rattle.std.proofs.Common.{rules, ◌≡◌, Some}
use Rattle.mls_rules.specs.Rules.{reply, after}
use Rattle.mls_state.specs.State.{is_active}
use Rattle.mls_spans.specs.Turning.{differ, kept, reach}
use Rattle.mls_spans.specs.Windows.{would_grant}
use Rattle.mls_spans.proofs.TurnSteps.{reached_settled}
use Rattle.mls_spans.proofs.turning.Turns.follow.Goals as goal

pub returns-clause-each : goal.returns-clause-each
returns-clause-each c = λ t at small.
    let v = c.args.state.now in
    let r = c.args.entry.now.request in
    let o = c.args.self.now.object in
    let told : c.in_ok-answer.answer ≡ reply v r = search rules in
    let next : c.apply.new.state ≡ after v r = search rules in
    let whom : c.of-reach.result ≡ reach c.in_ok-answer.answer c.differ-has_changed.result o r.subject r.action = search rules in
    let changed : c.differ-has_changed.result ≡ differ (is_active v o) (is_active c.apply.new.state o) = search rules in
    let granted : (kept c.args.self.now t).0 ≡ would_grant v t = search rules in
    reached_settled v c.apply.new.state r o c.in_ok-answer.answer c.of-reach.result c.differ-has_changed.result (Some c.args.entry.now.number) t
    c.args.self.now c.settle_reached.new.self told next whom changed at granted (c.in_ok-settle_reached.ensures.each t at small)
