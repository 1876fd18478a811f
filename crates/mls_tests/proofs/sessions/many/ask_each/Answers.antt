use Rattle.std.proofs.Common.{rules}
use Rattle.mls_tests.proofs.Lists.{ascending_read}
use Rattle.mls_tests.proofs.sessions.many.ask_each.Goals as goal

pub submit-requires : goal.submit-requires
submit-requires g c = ascending_read c.args.office.now 0 c.loop-k.sessions.items c.loop-k.k c.index_mut.result.now c.loop-k.invariant.0 (search rules) (search rules)
