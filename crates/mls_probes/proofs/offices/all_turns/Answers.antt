use Rattle.std.proofs.Common.{rules}
use Rattle.mls_probes.proofs.Lists.{ascending_read}
use Rattle.mls_probes.proofs.offices.all_turns.Goals as goal

pub turns-requires : goal.turns-requires
turns-requires g c = ascending_read c.args.office.now 0 c.loop-k.sessions.items c.loop-k.k c.index_mut.result.now c.loop-k.invariant.0 (search rules) (search rules)
