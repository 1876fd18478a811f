-- The categories of a set in the order of their numbers.
use Rattle.std.specs.Prelude.{ℕ, zero, suc, Bool, if◌then◌else◌, List, [], ◌∷◌}
use Rattle.std.specs.Ordering.{nat_cmp}
use Rattle.std.specs.FinSet as set
use Rattle.mls_labels.specs.declared.limits.TheConstants.{MAX_CATEGORIES}

-- The numbers that pass a test, ascending: of so many numbers, from one on. (own)
unfoldable pub numbers : (ℕ → Bool) → ℕ → ℕ → List ℕ
numbers p zero from = []
numbers p (suc count) from = if p from then from ∷ numbers p count (suc from) else numbers p count (suc from)

-- The categories of a set, ascending. (own)
abbrev pub ascending : set.FinSet nat_cmp → List ℕ
ascending s = numbers (set.contains s) MAX_CATEGORIES 0
