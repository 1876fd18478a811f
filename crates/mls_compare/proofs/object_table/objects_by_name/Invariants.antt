use Rattle.std.proofs.Common.{◌≡◌, map}
use Rattle.mls_compare.specs.Carriers.{from_the_beginning}
use Rattle.mls_differences.specs.Counterparts.{counterparts}
use Rattle.mls_compare.proofs.object_table.objects_by_name.Given as goal

-- the counterparts of the objects below are found
abbrev pub invariant-loop-n : goal.invariant-loop-n
invariant-loop-n l = l.objects.items ≡ map from_the_beginning (counterparts l.first.objects l.second.objects l.n)
