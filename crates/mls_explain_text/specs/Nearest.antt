-- The name that is nearest to a word, and what is written of it.
use Rattle.std.specs.Prelude.{ℕ, List, [], ◌∷◌, ◌++◌, ◌==◌, codes, length, nat_eq, nat_lt, Option, Some, None}
use Rattle.std.specs.Prelude.{if◌then◌else◌}
use Rattle.std.specs.Option.{option_or}
use Rattle.std.specs.Str.{chars}
use Rattle.strsim.specs.Edits.{levenshtein_row}
use Rattle.mls_explain_text.specs.declared.nearest.TheConstants.{LONGEST}

-- How many characters are put in, taken out or changed from a word to a name: Levenshtein's distance. (own)
abbrev pub distance : List ℕ → List ℕ → ℕ
distance word name = levenshtein_row nat_eq (chars word) (chars name) (length (chars name))

-- The first of the names at this distance from a word. (own)
abbrev pub first_at : ℕ → List ℕ → List (List ℕ) → Option (List ℕ)
first_at far word [] = None
first_at far word (name ∷ names) = if distance word name == far then Some name else first_at far word names

-- The same, where the distance is below the word's length. (own)
abbrev pub near_at : ℕ → List ℕ → List (List ℕ) → Option (List ℕ)
near_at far word names = if nat_lt far (length word) then first_at far word names else None

-- The nearest of the names to a word that is none of them, where one is near: the first at distance 1, or else the
-- first at distance 2. No word of more than 34 bytes is near to a name, which has 32 at most. (own)
abbrev pub nearest : List ℕ → List (List ℕ) → Option (List ℕ)
nearest word names = if nat_lt LONGEST (length word) then None
    else option_or (near_at 1 word names) (near_at 2 word names)

-- What is written of a name that may have been meant, nothing where there is none. (own)
abbrev pub meant_text : Option (List ℕ) → List ℕ
meant_text None = []
meant_text (Some name) = codes " (" ++ name ++ codes "?)"

-- A word, and the nearest of the names behind it. (own)
abbrev pub word_text : List ℕ → List (List ℕ) → List ℕ
word_text word names = word ++ meant_text (nearest word names)
