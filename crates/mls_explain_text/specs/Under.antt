-- The lines of a text behind its first, as they stand under a line.
use Rattle.std.specs.Prelude.{ℕ, List, [], ◌∷◌, ◌++◌, ◌==◌, codes, filter, length, nat_lt}
use Rattle.std.specs.List.{flat_map, slice_split}

-- The lines of a text, without their newlines; of an empty one nothing is told. (own)
abbrev pub told_lines : List ℕ → List (List ℕ)
told_lines text = filter (λ line. nat_lt 0 (length line)) (slice_split (λ b. b == 10) text)

-- The lines of one that has no newline: itself, or none where it is empty. (own)
abbrev pub filled : List ℕ → List (List ℕ)
filled line = filter (λ line. nat_lt 0 (length line)) (line ∷ [])

-- All but the first of some lines. (own)
abbrev pub behind_first : List (List ℕ) → List (List ℕ)
behind_first [] = []
behind_first (line ∷ lines) = lines

-- A line behind two spaces. (own)
abbrev pub indented : List ℕ → List ℕ
indented line = codes "  " ++ line ++ 10 ∷ []

-- The lines of a text behind its first, each behind two spaces. (own)
abbrev pub under_text : List ℕ → List ℕ
under_text text = flat_map indented (behind_first (told_lines text))
