use Rattle.std.proofs.Common.{◌+◌, ◌-◌, arith}
use Rattle.mls_tables.proofs.Shifts.{list_at-before, list_at-behind}
use Rattle.mls_tables.proofs.span.shorten.Goals as goal

pub returns-clause-before : goal.returns-clause-before
returns-clause-before g c t h = list_at-before c.args.store.now c.take_out.new.items c.args.span.start (c.args.span.start + c.args.span.len - c.args.span.start) (omega arith) t h

pub returns-clause-behind : goal.returns-clause-behind
returns-clause-behind g c t h = list_at-behind c.args.store.now c.take_out.new.items c.args.span.start (c.args.span.start + c.args.span.len - c.args.span.start) (omega arith) t c.take_out.auto.items (omega arith)
