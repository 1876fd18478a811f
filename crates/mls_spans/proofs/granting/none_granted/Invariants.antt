use Rattle.std.proofs.Common.{◌≡◌, ℕ, get_or, length}
use Rattle.std.specs.FinSet as set
use Rattle.mls_spans.proofs.granting.none_granted.Given as goal

-- there are no modes of the subjects so far
abbrev pub invariant-loop-s : goal.invariant-loop-s
invariant-loop-s l = record {
  subjects : length l.modes.items ≡ l._s;
  none : (k : ℕ) → get_or l.modes.items k set.empty ≡ set.empty;
}
