use Rattle.std.proofs.Common.{ap}
use Rattle.mls_scripts.specs.Lines.{lines_of}
use Rattle.mls_scripts.proofs.HalfSteps.{at_ask, at_fault, at_none}
use Rattle.mls_scripts.proofs.looking.look.Goals as goal

pub returns-in-Ok-Ask-clause-next : goal.returns-in-Ok-Ask-clause-next
returns-in-Ok-Ask-clause-next c =
    at_ask c.args.names.now c.args.vars.now.bound _ _ _ _ _ _ c.loop-line.invariant.next c.in-Some.ensures.line (rw c.in-Ok-Ask.field-0-is at c.in-Ok-Ask.ensures)

pub returns-in-Err-clause-next : goal.returns-in-Err-clause-next
returns-in-Err-clause-next c = at_fault c.args.names.now c.args.vars.now.bound _ _ _ _ _ c.loop-line.invariant.next c.in-Some.ensures.line c.in-Err.ensures

pub returns-clause-next : goal.returns-clause-next
returns-clause-next c = at_none c.args.names.now c.args.vars.now.bound _ _ c.loop-line.invariant.next (ap lines_of c.in_default.ensures.line)
