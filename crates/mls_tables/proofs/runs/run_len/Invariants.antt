use Rattle.std.proofs.Common.{◌≡◌, ℕ, ◌+◌, ◌-◌, ◌<◌, ◌≤◌, length, get_or}
use Rattle.mls_tables.proofs.runs.run_len.Given as goal

-- so many numbers follow one another
abbrev pub invariant-loop-len : goal.invariant-loop-len
invariant-loop-len l = record {
  least : 1 ≤ l.len;
  most : l.len ≤ length l.group;
  run : (k : ℕ) → k < l.len → get_or l.group k 0 ≡ get_or l.group 0 0 + k;
  below : get_or l.group 0 0 + l.len ≤ l.bound;
}

abbrev pub decreases-loop-len : goal.decreases-loop-len
decreases-loop-len l = length l.group - l.len
