use Rattle.std.proofs.Common.{sym}
use Rattle.mls_start.specs.Rows.{all_labels}
use Rattle.mls_start.proofs.Secured.{not_permitted}
use Rattle.mls_start.proofs.start_builder.secure.are_secure.Goals as goal

pub returns-then-not-do_rows_permit : goal.returns-then-not-do_rows_permit
returns-then-not-do_rows_permit c =
    sym (not_permitted c.args.cells.now c.args.subjects.now (all_labels c.args.root.now c.args.objects.now) c.args.accesses.now
    c.loop-access.access-index c.access-item.result c.loop-access-test.true c.access-item.is (sym c.if-not-do_rows_permit.ensures))
