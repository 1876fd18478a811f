-- Lists of items at places.
use Rattle.std.specs.Prelude.{ℕ, ◌==◌, List, [], ◌∷◌, ◌++◌, length, slice_set, if◌then◌else◌}

-- A list with an item at a place: in place of what stands there, or behind all. (own)
abbrev pub placed : {X : Type 0} → List X → ℕ → X → List X
placed xs n x = if n == length xs then xs ++ x ∷ [] else slice_set xs n x
