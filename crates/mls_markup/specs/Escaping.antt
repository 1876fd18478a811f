-- What is written of a text in a page.
use Rattle.std.specs.Prelude.{ℕ, Bool, ◌==◌, ◌||◌, if◌then◌else◌, nat_lt, List, [], ◌∷◌, codes}
use Rattle.std.specs.List.{flat_map}

-- What is written of a byte: of those that HTML reads a reference, of a control character U+FFFD, and else the byte.
-- (own, after the HTML standard, "Escaping a string")
abbrev pub written : ℕ → List ℕ
written b =
    if b == 38 then codes "&amp;"
    else if b == 60 then codes "&lt;"
    else if b == 62 then codes "&gt;"
    else if b == 34 then codes "&quot;"
    else if b == 39 then codes "&#39;"
    else if nat_lt b 32 then codes "&#xFFFD;"
    else if b == 127 then codes "&#xFFFD;"
    else b ∷ []

-- What is written of a text. (own)
abbrev pub escaped : List ℕ → List ℕ
escaped text = flat_map written text

-- A byte begins or ends a tag or a value: `<`, `>`, `"` or `'`. (own)
abbrev pub is_delimiter : ℕ → Bool
is_delimiter b = b == 60 || b == 62 || b == 34 || b == 39
