use Rattle.mls_start_faults.proofs.Looked.{seen_before}
use Rattle.mls_start_faults.proofs.permissions.look_at.Goals as goal

pub returns-else-branch : goal.returns-else-branch
returns-else-branch c =
    seen_before c.push_place.result c.args.row c.args.k c.args.text.now _ _ _ _ c.in_ok-insert.field-0 _ c.item-place.ensures
    c.in_ok-insert.ensures.added c.if-branch.false c.in_ok-insert.ensures.kept c.push_place.ensures
