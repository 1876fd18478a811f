use Rattle.mls_scripts.proofs.HalfSteps.{at_end, by_halves}
use Rattle.mls_scripts.proofs.theorems.scripts_are_served_by_halves.Goals as goal

pub returns-clause-ends : goal.returns-clause-ends
returns-clause-ends c = λ names session s lines none. at_end names session s lines none

pub returns-clause-asks : goal.returns-clause-asks
returns-clause-asks c = λ names session s lines q some. by_halves names session s lines q some
