use Rattle.std.proofs.Common.{rules, arith}
use Rattle.mls_sessions.proofs.CellsKeep.{reads_me, noted_me, read_tells}
use Rattle.mls_sessions.proofs.holding.read.Goals as goal

pub load-requires : goal.load-requires
load-requires c = let wide = c.requires.office.1 in let small = c.requires.place in (search rules, omega arith, reads_me c.args.gate.now.key _ _ _ _ _ _ _ c.requires.holds c.requires.place)

pub returns-clause-noted : goal.returns-clause-noted
returns-clause-noted c = noted_me c.args.gate.now.key c.args.gate.now.table_id.slots c.args.seat.now.id c.args.at _ _ _ _ c.requires.holds _ _ c.load.ensures.2.0

pub returns-clause-agrees : goal.returns-clause-agrees
returns-clause-agrees c = (read_tells c.args.gate.now.key c.args.gate.now.table_id.slots c.args.seat.now.id c.args.at _ _ _ _ c.requires.holds _ _ c.load.ensures.2).1

pub returns-clause-tells : goal.returns-clause-tells
returns-clause-tells c = (read_tells c.args.gate.now.key c.args.gate.now.table_id.slots c.args.seat.now.id c.args.at _ _ _ _ c.requires.holds _ _ c.load.ensures.2).0
