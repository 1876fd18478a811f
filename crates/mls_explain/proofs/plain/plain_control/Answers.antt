use Rattle.std.proofs.Common.{sym, ◌∙◌}
use Rattle.mls_requests.specs.declared.reason.Reason.TheVariants.{Authority}
use Rattle.mls_explain.proofs.Untrusted.{control_alone, control_ground_alone}
use Rattle.mls_explain.proofs.plain.plain_control.Goals as goal

pub returns-then-number-eq0 : goal.returns-then-number-eq0
returns-then-number-eq0 g c =
    let v = c.args.state.now in
    let root = sym c.number.ensures ∙ c.if-number-eq0.true in
    let holds = sym (control_alone v c.args.s c.args.o root) in
    let basis = sym (control_ground_alone v c.args.s c.args.o root) in
    c.new.ensures ∙ (λ i. record { reason = Authority; holds = holds i; basis = basis i })
