use Rattle.std.proofs.Common.{◌≡◌, ◌-◌, ◌≤◌, length, take}
use Rattle.mls_tables.specs.Table.{without_objects}
use Rattle.mls_tables.proofs.access_set.AccessSet.drop_objects.Given as goal

-- the triples of so many of the group are removed
abbrev pub invariant-loop-at : goal.invariant-loop-at
invariant-loop-at g l = record {
  few : l.at ≤ length l.group;
  rows : l.self.subjects ≡ l.fn.self.subjects;
  columns : l.self.columns ≡ l.fn.self.columns;
  triples : l.self.triples ≡ without_objects l.fn.self.triples (take l.at l.group);
}

abbrev pub decreases-loop-at : goal.decreases-loop-at
decreases-loop-at g l = length l.group - l.at
