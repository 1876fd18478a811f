use Rattle.std.proofs.Common.{◌≡◌, true, take, is_some}
use Rattle.mls_start_text.specs.Each.{each_of}
use Rattle.mls_start_file.specs.Placing.{placed_child}
use Rattle.mls_start_file.proofs.building.are_placed.Given as goal

-- the parents so far are known
abbrev pub invariant-loop-child : goal.invariant-loop-child
invariant-loop-child l = is_some (each_of placed_child (take l.child-index l.children)) ≡ true
