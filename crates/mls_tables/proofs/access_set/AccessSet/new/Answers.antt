use Rattle.mls_tables.proofs.IndexedTable.{IsIndexed-none}
use Rattle.mls_tables.proofs.access_set.AccessSet.new.Goals as goal

pub invariant_of-result : goal.invariant_of-result
invariant_of-result g c = rw (c.new-matrix.ensures, c.in_ok-new.ensures.objects, c.in_ok-new.ensures.subjects) (IsIndexed-none c.args.subjects c.requires.most)
