-- Which names two starts share, and which numbers these names have in each.
use Rattle.std.specs.Prelude.{ℕ, Bool, Option, Some, None, List, [], ◌∷◌, map, slice_get, is_some}
use Rattle.std.specs.List.{flat_map, range_with_len}
use Rattle.mls_labels.specs.Reading.{place_of}
use Rattle.mls_differences.specs.declared.shared.Shared.{Shared}

-- The place of a name among others, where there is a name. (own)
abbrev pub place_where : List (List ℕ) → Option (List ℕ) → Option ℕ
place_where others None = None
place_where others (Some name) = place_of others name

-- The counterpart of a number: the number that its name has among others. (own)
abbrev pub counterpart : List (List ℕ) → List (List ℕ) → ℕ → Option ℕ
counterpart names others n = place_where others (slice_get names n)

-- The counterparts of the numbers below a count, by number. (own)
unfoldable pub counterparts : List (List ℕ) → List (List ℕ) → ℕ → List (Option ℕ)
counterparts names others count = map (counterpart names others) (range_with_len 0 count)

-- Whether a name is one of others. (own)
abbrev pub is_among : List (List ℕ) → List ℕ → Bool
is_among others name = is_some (place_of others name)

-- A number and its counterpart, where it has one. (own)
abbrev pub shared_as : ℕ → Option ℕ → List Shared
shared_as n None = []
shared_as n (Some m) = record { first = n; second = m } ∷ []

-- The numbers below a count that have a counterpart, each with it. (own)
unfoldable pub shared : List (List ℕ) → List (List ℕ) → ℕ → List Shared
shared names others count = flat_map (λ n. shared_as n (counterpart names others n)) (range_with_len 0 count)
