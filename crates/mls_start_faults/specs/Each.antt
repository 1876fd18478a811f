-- What is found of each item of a list.
use Rattle.std.specs.Prelude.{ℕ, suc, List, [], ◌∷◌, ◌++◌}
use Rattle.mls_start_faults.specs.Places.{Located}

-- What f finds of each item, in their order, by its number, which is counted from n. (own)
abbrev pub at_each : {A : Type 0} → (ℕ → A → List Located) → ℕ → List A → List Located
at_each f n [] = []
at_each f n (a ∷ items) = f n a ++ at_each f (suc n) items
