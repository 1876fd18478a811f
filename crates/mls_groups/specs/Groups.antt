-- Things in groups, by their keys.
use Rattle.std.specs.Prelude.{◌≡◌, ℕ, ◌+◌, ◌==◌, List, [], ◌∷◌, cond, length}
use Rattle.std.specs.List.{All, count_by, sum_by}
use Rattle.mls_groups.specs.declared.grouping.Group.{Group}

-- How often a key stands among keys. (own)
abbrev pub times : ℕ → List ℕ → ℕ
times k keys = count_by (λ j. j == k) keys

-- The runs of keys, of which the first goes on with n of k: each key, and how many of it stand together. (own)
abbrev pub runs_from : ℕ → ℕ → List ℕ → List (ℕ × ℕ)
runs_from k n [] = (k, n) ∷ []
runs_from k n (j ∷ rest) = cond (j == k) (runs_from k (n + 1) rest) ((k, n) ∷ runs_from j 1 rest)

-- The runs of keys. (own)
abbrev pub runs : List ℕ → List (ℕ × ℕ)
runs [] = []
runs (k ∷ rest) = runs_from k 1 rest

-- A group as the run that it is. (own)
abbrev pub run_of : Group → ℕ × ℕ
run_of g = (g.key, g.count)

-- How many things some groups have, together. (own)
abbrev pub total : List Group → ℕ
total groups = sum_by (λ g. g.count) groups

-- Groups count keys: each has as many as stand there of its key, and together they have them all. (own)
pub record Counts (keys : List ℕ) (groups : List Group) : Type 0 where
  pub each : All (λ g. g.count ≡ times g.key keys) groups
  pub whole : total groups ≡ length keys
