-- Things in order by their weights.
use Rattle.std.specs.Prelude.{ℕ, ◌≤◌, ◌<◌, List, length, get_or}
use Rattle.std.specs.List.{range_with_len}
use Rattle.std.specs.List.Sorted.{IsPermutation}

-- The weight of the thing at a place. (own)
abbrev pub weight_at : List ℕ → ℕ → ℕ
weight_at weights place = get_or weights place 0

-- Places of things are in order by their weights: each place stands once, and none before a heavier one. So the first
-- of them, as many as they are, are the heaviest. (own)
pub record IsByWeight (weights places : List ℕ) : Type 0 where
  pub all : IsPermutation (range_with_len 0 (length weights)) places
  pub heaviest : (i j : ℕ) → i ≤ j → j < length places
      → weight_at weights (get_or places j 0) ≤ weight_at weights (get_or places i 0)
