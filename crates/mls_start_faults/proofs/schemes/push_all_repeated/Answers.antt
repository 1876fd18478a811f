use Rattle.std.proofs.Common.{arith}
use Rattle.mls_start_faults.proofs.Each.{one_more}
use Rattle.mls_start_faults.specs.Naming.{repeated_place}
use Rattle.mls_start_faults.proofs.schemes.push_all_repeated.Goals as goal

pub loop-k-preserved : goal.loop-k-preserved
loop-k-preserved c =
    one_more (repeated_place c.args.scheme.now c.args.list.now) 0 c.deref-fault-items.result.now c.loop-k.k _ c.loop-k.k _ _ _ c.loop-k-test.true (omega arith) c.loop-k.invariant c.in_ok-push_repeated.ensures
