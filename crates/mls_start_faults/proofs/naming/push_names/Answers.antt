use Rattle.std.proofs.Common.{arith}
use Rattle.mls_start_faults.proofs.Each.{one_more}
use Rattle.mls_start_faults.specs.Naming.{name_place}
use Rattle.mls_start_faults.proofs.naming.push_names.Goals as goal

pub loop-n-preserved : goal.loop-n-preserved
loop-n-preserved c =
    one_more (name_place c.args.list.now) 0 c.deref-fault-items.result.now c.loop-n.n _ c.loop-n.n _ _ _ c.loop-n-test.true (omega arith) c.loop-n.invariant c.in_ok-push_name.ensures
