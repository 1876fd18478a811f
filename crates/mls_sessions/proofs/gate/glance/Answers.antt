use Rattle.std.proofs.Common.{rules, arith}
use Rattle.mls_sessions.proofs.CellsKeep.{glances_at, glanced_session, glanced_blank, glanced_sees, glanced_tells, glanced_counts}
use Rattle.mls_sessions.proofs.gate.glance.Goals as goal

pub load-requires : goal.load-requires
load-requires c = let wide = c.requires.office.1 in let small = c.requires.place in (search rules, omega arith, glances_at c.args.gate.now.key _ _ _ _ c.requires.session c.requires.place)

pub returns-clause-session : goal.returns-clause-session
returns-clause-session c = glanced_session c.args.gate.now.key c.args.gate.now.table_id.slots _ _ _ _ c.requires.session c.load.ensures.2

pub returns-clause-blank : goal.returns-clause-blank
returns-clause-blank c = glanced_blank c.args.gate.now.key c.args.gate.now.table_id.slots _ _ _ _ c.requires.session c.load.ensures.2

pub returns-clause-seen : goal.returns-clause-seen
returns-clause-seen c = glanced_sees c.args.gate.now.key c.args.gate.now.table_id.slots _ _ _ _ c.requires.session c.load.ensures.2

pub returns-clause-tells : goal.returns-clause-tells
returns-clause-tells c = glanced_tells c.args.gate.now.key c.args.gate.now.table_id.slots _ _ _ _ c.requires.session c.load.ensures.2

pub returns-clause-counts : goal.returns-clause-counts
returns-clause-counts c = glanced_counts c.args.gate.now.key c.args.gate.now.table_id.slots _ _ _ _ c.requires.session c.load.ensures.2
