use Rattle.std.proofs.Common.{◌≡◌, ◌++◌, take, map}
use Rattle.mls_start_faults.specs.Each.{at_each}
use Rattle.mls_start_faults.specs.Starts.{object_labels, security_place}
use Rattle.mls_start_text.specs.LabelViews.{labels_view}
use Rattle.mls_start_faults.specs.Places.{located_view}
use Rattle.mls_start_faults.proofs.starts.push_security.Given as goal

-- the lines of what was looked at are written
abbrev pub invariant-loop-n : goal.invariant-loop-n
invariant-loop-n l =
    map located_view l.found.items ≡ map located_view l.fn.found.items ++ at_each (security_place (object_labels (labels_view l.labels))) 1 (take l.n l.child-items)
