-- Which labels of a list cover which others.
use Rattle.std.specs.Prelude.{ℕ, ◌<◌, Bool, ◌&&◌, not, List, [], ◌∷◌, length, slice_index_or, if◌then◌else◌}
use Rattle.std.specs.FinSet as set
use Rattle.std.specs.List.{list_any, flat_map, range_with_len}
use Rattle.mls_labels.specs.Label.{Label, dominates}
use Rattle.mls_review.specs.declared.cover.Cover.{Cover}

-- A label is over another where it dominates it and differs from it, so that the other doesn't dominate it. (MTR-2997,
-- dominance)
abbrev pub is_over : Label → Label → Bool
is_over b a = dominates b a && not (dominates a b)

-- A label covers another among these where it is over it, and none of them stands between: over the one, below the
-- other. (own)
abbrev pub covers : List Label → Label → Label → Bool
covers labels b a = is_over b a && not (list_any (λ c. is_over c a && is_over b c) labels)

-- The label in a place of a list. (own)
abbrev pub label_at : List Label → ℕ → Label
label_at labels i = slice_index_or labels i (record { level = 0; categories = set.empty })

-- The pair of two places, where the label in the second covers that in the first. (own)
abbrev pub cover_at : List Label → ℕ → ℕ → List Cover
cover_at labels lower upper =
    if covers labels (label_at labels upper) (label_at labels lower)
    then record { lower = lower; upper = upper } ∷ [] else []

-- The pairs of the label in a place and those that cover it, by the places of these. (own)
abbrev pub covers_of : List Label → ℕ → List Cover
covers_of labels lower = flat_map (cover_at labels lower) (range_with_len 0 (length labels))

-- The covering pairs of a list of labels: by the place of the lower label, then by that of the upper. (own)
abbrev pub covering : List Label → List Cover
covering labels = flat_map (covers_of labels) (range_with_len 0 (length labels))

-- Both places of a pair are below a number. (own)
abbrev pub IsWithin : ℕ → Cover → Type 0
IsWithin n c = (c.lower < n) × (c.upper < n)
