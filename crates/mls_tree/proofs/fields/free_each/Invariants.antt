use Rattle.std.proofs.Common.{◌≡◌, drop}
use Rattle.mls_tree.specs.Kept.{without_numbers}
use Rattle.mls_tree.proofs.fields.free_each.Given as goal

-- the set without the objects that are left is the set without all
abbrev pub invariant-loop-o : goal.invariant-loop-o
invariant-loop-o g l = without_numbers l.numbers (drop l.o-index l.group) ≡ without_numbers l.initial.numbers l.group
