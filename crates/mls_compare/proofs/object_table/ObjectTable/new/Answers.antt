use Rattle.std.proofs.Common.{refl}
use Rattle.mls_tables.specs.declared.limits.TheConstants.{MAX_OBJECTS}
use Rattle.mls_differences.specs.Counterparts.{counterparts}
use Rattle.mls_compare.proofs.Tables.{begins}
use Rattle.mls_compare.proofs.object_table.ObjectTable.new.Goals as goal

pub returns : goal.returns
returns c =
    begins 65536 (counterparts c.args.first.now.objects c.args.second.now.objects MAX_OBJECTS)
    (record { objects = c.in_ok-objects.objects; ceased = c.in_ok-ceased.ceased }) c.in_ok-objects.ensures
    (c.in_ok-ceased.ensures.items_if_clones_equal (λ y is. is)) refl
