-- Which objects of a new start were which of an old one: the text of a map.
use Rattle.std.specs.Prelude.{ℕ, ◌+◌, List, [], ◌∷◌, ◌++◌, map}
use Rattle.std.specs.Fmt.{decimal}
use Rattle.mls_lines.specs.Names.{Names}
use Rattle.mls_wording.specs.Wording.{object_text}

-- The line of an object: its new number, its old one, and what it was called. (own)
abbrev pub line_text : ℕ → ℕ → List ℕ → List ℕ
line_text new old name = decimal new ++ 32 ∷ decimal old ++ 32 ∷ name ++ 10 ∷ []

-- The lines of objects that have these old numbers and names, and new numbers from one on. (own)
abbrev pub lines_text : ℕ → List (ℕ × List ℕ) → List ℕ
lines_text new [] = []
lines_text new (row ∷ rows) = line_text new row.0 row.1 ++ lines_text (new + 1) rows

-- The old number and the name of an object, by the names of the old start. (own)
abbrev pub row_of : Names → ℕ → ℕ × List ℕ
row_of names old = (old, object_text names old)

-- The map of an order of objects, whose places are their new numbers. (own)
abbrev pub map_text : Names → List ℕ → List ℕ
map_text names order = lines_text 0 (map (row_of names) order)
