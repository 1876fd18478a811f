use Rattle.std.proofs.Common.{rules, arith}
use Rattle.mls_sessions.proofs.CellsKeep.{blanks_me, noted_me}
use Rattle.mls_sessions.proofs.holding.blank.Goals as goal

pub store-requires : goal.store-requires
store-requires c = let wide = c.requires.office.1 in let small = c.requires.place in (search rules, omega arith, blanks_me c.args.gate.now.key _ _ _ _ _ _ _ c.requires.holds c.requires.place)

pub returns-clause-noted : goal.returns-clause-noted
returns-clause-noted c = noted_me c.args.gate.now.key c.args.gate.now.table_id.slots c.args.seat.now.id c.args.at _ _ _ _ c.requires.holds _ _ c.store.ensures.2
