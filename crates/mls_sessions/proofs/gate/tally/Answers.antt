use Rattle.std.proofs.Common.{rules, arith}
use Rattle.mls_sessions.proofs.CellsKeep.{tallies_at, tallied_session, tallied_sees, tallied_changes, tallied_counts}
use Rattle.mls_sessions.proofs.gate.tally.Goals as goal

pub load-requires : goal.load-requires
load-requires c = let wide = c.requires.office.1 in (search rules, omega arith, tallies_at c.args.gate.now.key _ _ _ c.requires.session)

pub returns-clause-session : goal.returns-clause-session
returns-clause-session c = tallied_session c.args.gate.now.key c.args.gate.now.table_id.slots _ _ _ c.requires.session c.load.ensures.2

pub returns-clause-seen : goal.returns-clause-seen
returns-clause-seen c = tallied_sees c.args.gate.now.key c.args.gate.now.table_id.slots _ _ _ c.requires.session c.load.ensures.2

pub returns-clause-changes : goal.returns-clause-changes
returns-clause-changes c = tallied_changes c.args.gate.now.key c.args.gate.now.table_id.slots _ _ _ c.requires.session c.load.ensures.2

pub returns-clause-counts : goal.returns-clause-counts
returns-clause-counts c = tallied_counts c.args.gate.now.key c.args.gate.now.table_id.slots _ _ _ c.requires.session c.load.ensures.2
