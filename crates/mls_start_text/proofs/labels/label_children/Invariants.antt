use Rattle.std.proofs.Common.{◌≡◌, map, take, Some}
use Rattle.mls_start_text.specs.Each.{each_of}
use Rattle.mls_start_text.specs.Labelling.{labelled_child}
use Rattle.mls_start_text.specs.Views.{child_view}
use Rattle.mls_start_text.proofs.labels.label_children.Given as goal

-- the rows are those of the objects so far
abbrev pub invariant-loop-child : goal.invariant-loop-child
invariant-loop-child l = each_of (labelled_child l.schemes.security l.schemes.integrity l.objects) (map child_view (take l.child-index l.children)) ≡ Some l.rows.items
