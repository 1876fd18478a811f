use Rattle.std.proofs.Common.{sym, ◌∙◌}
use Rattle.mls_requests.specs.declared.reason.Reason.TheVariants.{Star}
use Rattle.mls_state.specs.Properties.{star_between}
use Rattle.mls_explain.specs.Grounds.{star_between_ground}
use Rattle.mls_explain.proofs.Untrusted.{ground_alone, star_alone}
use Rattle.mls_explain.proofs.plain.plain_star.Goals as goal

pub returns : goal.returns
returns g c =
    let v = c.args.state.now in
    let holds =
    c.star_between-holds.ensures
    ∙ (λ i. star_between (sym c.current.ensures i) (sym c.object_label.ensures i) c.args.x)
    ∙ sym (star_alone v c.args.s c.args.o c.args.x) in
    let basis =
    c.star_between_ground-basis.ensures
    ∙ (λ i. star_between_ground (c.current_of.ensures i) (c.security_of.ensures i) c.args.x)
    ∙ sym (ground_alone v c.args.s c.args.o c.args.x) in
    c.new.ensures ∙ (λ i. record { reason = Star; holds = holds i; basis = basis i })
