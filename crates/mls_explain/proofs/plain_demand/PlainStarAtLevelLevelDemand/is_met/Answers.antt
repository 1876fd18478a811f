use Rattle.std.proofs.Common.{sym, ◌∙◌}
use Rattle.mls_explain.proofs.Untrusted.{others_at_level}
use Rattle.mls_explain.proofs.plain_demand.PlainStarAtLevelLevelDemand.is_met.Goals as goal

pub returns-else-eq : goal.returns-else-eq
returns-else-eq g c =
    c.is_met.ensures
    ∙ sym (others_at_level c.args.state.now c.args.self.subject c.args.self.level c.args.s c.args.o c.args.x (sym c.eq.ensures ∙ c.if-eq.false))
