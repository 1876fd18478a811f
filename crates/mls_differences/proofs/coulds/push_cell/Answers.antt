use Rattle.mls_differences.proofs.LoneRows.{on_ok, four_coulds}
use Rattle.mls_differences.proofs.coulds.push_cell.Goals as goal

pub returns : goal.returns
returns c =
    on_ok c.push_could-4.result
    (λ last here there first second.
    four_coulds here there c.args.s c.args.o c.args.rows.now.items c.push_could.new.rows.items c.push_could-2.new.rows.items c.push_could-3.new.rows.items
    c.push_could-4.new.rows.items (c.in_ok-push_could.ensures here there first second) (c.in_ok-push_could-2.ensures here there first second)
    (c.in_ok-push_could-3.ensures here there first second) (last here there first second)) c.push_could-4.ensures
