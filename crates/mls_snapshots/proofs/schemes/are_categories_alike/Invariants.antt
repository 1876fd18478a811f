use Rattle.std.proofs.Common.{ℕ, ◌<◌}
use Rattle.mls_snapshots.specs.Schemes.{lowest_with, IsWrittenAlike}
use Rattle.mls_snapshots.proofs.schemes.are_categories_alike.Given as goal

-- the labels so far are written alike
abbrev pub invariant-loop-n : goal.invariant-loop-n
invariant-loop-n l = (n : ℕ) → n < l.n → IsWrittenAlike l.a l.b (lowest_with n)
