use Rattle.mls_tree.specs.Tree.{is_active}
use Rattle.mls_tree.proofs.Inferiors.{is_inferior-Reaches}
use Rattle.mls_tree.proofs.reach.inferiors_reach.Goals as goal

pub returns : goal.returns
returns c parent tree o a = is_inferior-Reaches parent (is_active parent) tree o a
