use Rattle.std.proofs.Common.{◌≡◌, ℕ, ◌-◌, ◌<◌, ◌≤◌, length, get_or}
use Rattle.mls_tree.specs.Words.{full_word}
use Rattle.mls_tree.proofs.numbers.first_open.Given as goal

abbrev pub invariant-loop-at : goal.invariant-loop-at
invariant-loop-at l = record {
  within : l.at ≤ length l.words;
  before : (i : ℕ) → i < l.at → get_or l.words i 0 ≡ full_word;
}

abbrev pub decreases-loop-at : goal.decreases-loop-at
decreases-loop-at l = length l.words - l.at
