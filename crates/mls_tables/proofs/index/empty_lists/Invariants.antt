use Rattle.std.proofs.Common.{◌≡◌, ◌≤◌, ◌-◌, [], replicate}
use Rattle.mls_tables.proofs.index.empty_lists.Given as goal

-- the lists that were added
abbrev pub invariant-loop-made : goal.invariant-loop-made
invariant-loop-made g l = record { few : l.made ≤ l.count; lists : l.lists.lists ≡ replicate l.made [] }

abbrev pub decreases-loop-made : goal.decreases-loop-made
decreases-loop-made g l = l.count - l.made
