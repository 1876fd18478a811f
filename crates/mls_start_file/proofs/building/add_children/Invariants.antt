use Rattle.std.proofs.Common.{◌≡◌, ◌++◌, take, option_map, Some}
use Rattle.mls_start_text.specs.Each.{each_of}
use Rattle.mls_start_file.specs.Placing.{placed_child}
use Rattle.mls_start_file.proofs.building.add_children.Given as goal

-- the builder has the objects so far, and else what it had
abbrev pub invariant-loop-child : goal.invariant-loop-child
invariant-loop-child l = record {
  same : l.builder ≡ record l.fn.builder { objects = l.builder.objects };
  objects : option_map (λ rows. l.fn.builder.objects ++ rows) (each_of placed_child (take l.child-index l.children)) ≡ Some l.builder.objects;
}
