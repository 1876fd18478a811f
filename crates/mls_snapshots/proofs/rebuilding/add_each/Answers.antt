use Rattle.std.proofs.Common.{◌<◌, arith}
use Rattle.mls_tables.specs.declared.limits.TheConstants.{MAX_OBJECTS}
use Rattle.mls_snapshots.proofs.rebuilding.add_each.Goals as goal

pub returns-clause-there : goal.returns-clause-there
returns-clause-there c v said o p at active =
    let small : o < MAX_OBJECTS = said.tree.objects.below o (said.tree.objects.children_active o p at).0 in
    c.loop-n.invariant.so_far v said o p (omega (arith, small)) at active
