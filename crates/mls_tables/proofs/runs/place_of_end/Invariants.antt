use Rattle.std.proofs.Common.{ℕ, ◌-◌, ◌<◌, ◌≤◌, length, get_or}
use Rattle.mls_tables.proofs.runs.place_of_end.Given as goal

-- the numbers that were looked at are less
abbrev pub invariant-loop-at : goal.invariant-loop-at
invariant-loop-at l = record {
  least : l.from ≤ l.at;
  most : l.at ≤ length l.list;
  less : (j : ℕ) → l.from ≤ j → j < l.at → get_or l.list j 0 < l.end;
}

abbrev pub decreases-loop-at : goal.decreases-loop-at
decreases-loop-at l = length l.list - l.at
