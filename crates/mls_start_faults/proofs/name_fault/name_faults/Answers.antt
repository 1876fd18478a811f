use Rattle.std.proofs.Common.{map, take}
use Rattle.mls_start_faults.proofs.NameLists.{seen_before, seen_taken, faults_more}
use Rattle.mls_start_faults.proofs.name_fault.name_faults.Goals as goal

pub loop-name-preserved : goal.loop-name-preserved
loop-name-preserved c =
    let names = c.args.names.now in
    let k = c.loop-name.name-index in
    let front = map (λ name. name.now) (take k names) in (
      faults_more names k _ c.loop-name.faults.items c.push.new.self.items c.fault_of.result c.loop-name-test.true c.loop-name.invariant.0 c.in_ok-push.ensures.items
          (c.fault_of.ensures front (seen_before c.loop-name.seen front _ c.in_ok-is_new.is_new c.loop-name.invariant.1 c.in_ok-is_new.ensures.added)),
      seen_taken names k _ c.loop-name.seen c.insert.new.self c.in_ok-is_new.is_new c.loop-name-test.true c.loop-name.invariant.1 c.in_ok-is_new.ensures.added c.in_ok-is_new.ensures.kept,
    )
