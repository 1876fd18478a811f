use Rattle.std.proofs.Common.{◌-◌, length, take, ap, ◌∙◌, arith}
use Rattle.mls_tables.proofs.Shifts.{moved_down, turned_left}
use Rattle.mls_tables.proofs.span.take_out.Goals as goal

pub returns-then-count-eq1 : goal.returns-then-count-eq1
returns-then-count-eq1 g c =
    let items = c.args.items.now in
    rw c.if-count-eq1.true (turned_left items c.args.k (length items - c.args.k) c.rotate_left.new.self (omega arith) (omega arith) c.rotate_left.ensures.after)

pub returns : goal.returns
returns g c =
    let items = c.args.items.now in
    ap (take (length items - c.args.count)) c.copy_within.ensures.after ∙ moved_down items c.args.k c.args.count c.requires
