use Rattle.std.proofs.Common.{sym, ◌∙◌}
use Rattle.mls_explain.proofs.Freed.{never_unknown}
use Rattle.mls_explain.proofs.releasing.way_without_level.Goals as goal

pub returns-else-is_known : goal.returns-else-is_known
returns-else-is_known g c = never_unknown c.args.state.now c.args.s c.args.o c.args.x (sym c.is_known.ensures ∙ c.if-is_known.false)
