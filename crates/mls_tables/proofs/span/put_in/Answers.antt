use Rattle.std.proofs.Common.{◌-◌, length, take, set, arith, length-take}
use Rattle.mls_tables.proofs.Shifts.{written_last, turned_right}
use Rattle.mls_tables.proofs.span.put_in.Goals as goal

pub returns : goal.returns
returns g c =
    let items = c.args.items.now in
    let last = length items - 1 in
    let now = set items last c.args.x in
    turned_right (take last items) c.args.x c.args.k (length now - c.args.k) now c.rotate_right.new.self
    (omega (arith, length-take last items)) (omega arith) (written_last items c.args.x (omega arith)) c.rotate_right.ensures.after
