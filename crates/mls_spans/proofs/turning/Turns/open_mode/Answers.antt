use Rattle.std.proofs.Common.{rules, ◌≡◌, ◌<◌, length, get_or, true, false}
use Rattle.std.specs.FinSet as set
use Rattle.mls_spans.specs.Turning.{kept}
use Rattle.mls_spans.specs.Windows.{would_grant}
use Rattle.mls_spans.proofs.TurnSteps.{opened}
use Rattle.mls_spans.proofs.turning.Turns.open_mode.Goals as goal

pub returns-clause-each : goal.returns-clause-each
returns-clause-each c =
    let old = c.args.self.now in
    let within : c.args.s < length old.modes.items = search rules in
    let granted : c.with-granted.result ≡ set.insert (get_or old.modes.items c.args.s set.empty) c.args.x = search rules in
    let was : (kept old (c.args.s, old.object, c.args.x)).0 ≡ false = search rules in
    let now : would_grant c.args.state.now (c.args.s, old.object, c.args.x) ≡ true = search rules in
    opened c.args.state.now c.args.s old.object c.args.x c.args.number old c.push.new.self within c.with-granted.result
    c.in_ok-push.ensures.modes c.in_ok-push.ensures.turns granted was now
