use Rattle.std.proofs.Common.{sym, ◌∙◌}
use Rattle.mls_explain.proofs.Untrusted.{others_at_label}
use Rattle.mls_explain.proofs.plain_demand.PlainStarAtLabelLevelDemand.is_met.Goals as goal

pub returns-else-eq : goal.returns-else-eq
returns-else-eq g c =
    c.is_met.ensures
    ∙ sym (others_at_label c.args.state.now c.args.self.subject c.args.self.object c.args.self.label c.args.s c.args.o c.args.x
    (sym c.eq.ensures ∙ c.if-eq.false))
