use Rattle.std.proofs.Common.{◌-◌}
use Rattle.mls_tables.specs.declared.limits.TheConstants.{MAX_OBJECTS}
use Rattle.mls_tree.proofs.Found.{Finds}
use Rattle.mls_tree.proofs.tree.Tree.list_inferiors.Given as goal

abbrev pub invariant-loop-at : goal.invariant-loop-at
invariant-loop-at g l = Finds l.self.parent l.fn.o l.group.items l.at

abbrev pub decreases-loop-at : goal.decreases-loop-at
decreases-loop-at g l = MAX_OBJECTS - l.at
