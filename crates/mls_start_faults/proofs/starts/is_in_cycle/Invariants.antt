use Rattle.std.proofs.Common.{◌≡◌}
use Rattle.mls_start_text.specs.LabelViews.{labels_view}
use Rattle.mls_start_faults.specs.Starts.{is_in_cycle, leads_to}
use Rattle.mls_start_faults.proofs.starts.is_in_cycle.Given as goal

-- it depends on the steps that are left
abbrev pub invariant-loop-left : goal.invariant-loop-left
invariant-loop-left l =
    is_in_cycle (labels_view l.labels).children l.n ≡ leads_to (labels_view l.labels).children l.n l.left l.next

abbrev pub decreases-loop-left : goal.decreases-loop-left
decreases-loop-left l = l.left
