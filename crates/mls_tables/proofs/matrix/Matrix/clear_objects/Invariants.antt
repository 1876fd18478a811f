use Rattle.std.proofs.Common.{◌≡◌, drop}
use Rattle.mls_tables.specs.Table.{without_objects}
use Rattle.mls_tables.proofs.matrix.Matrix.clear_objects.Given as goal

-- rows and columns are as they were, and to remove the rest of the group is to remove all of it
abbrev pub invariant-loop-o : goal.invariant-loop-o
invariant-loop-o g l = record {
  rows : l.self.subjects ≡ l.fn.self.subjects;
  columns : l.self.columns ≡ l.fn.self.columns;
  triples : without_objects l.self.triples (drop l.o-index l.group) ≡ without_objects l.fn.self.triples l.group;
}
