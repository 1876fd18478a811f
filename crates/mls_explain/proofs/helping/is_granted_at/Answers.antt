use Rattle.std.proofs.Common.{sym, ◌∙◌}
use Rattle.mls_explain.proofs.LowerLevels.{passes_granted, granted_passes}
use Rattle.mls_explain.proofs.helping.is_granted_at.Goals as goal

pub returns-clause-yes : goal.returns-clause-yes
returns-clause-yes g c = λ passes. passes_granted c.args.state.now c.args.s c.args.o c.args.x c.args.level c.requires.subject c.requires.object (sym c.passes_at.ensures ∙ passes)

pub returns-clause-all : goal.returns-clause-all
returns-clause-all g c = λ granted. c.passes_at.ensures ∙ granted_passes c.args.state.now c.args.s c.args.o c.args.x c.args.level granted
