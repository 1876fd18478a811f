-- Where a reader of HTML is in a page, as far as markup goes.
use Rattle.std.specs.Prelude.{ℕ, Bool, true, false, ◌==◌, if◌then◌else◌, List, [], ◌∷◌}

-- In a text, in a tag, or in a value of a tag between quotes; or in a reference, which began in a text or in a value.
-- (own, after the HTML standard, "Tokenization")
pub data Place : Type 0 where
  Text : Place
  Tag : Place
  Value : Place
  TextReference : Place
  ValueReference : Place

-- Where the reader is after a byte: `<` begins a tag and `>` ends one, `"` begins and ends a value, `&` begins a
-- reference and `;` ends one. (own)
abbrev pub after : Place → ℕ → Place
after Text b = if b == 60 then Tag else if b == 38 then TextReference else Text
after Tag b = if b == 62 then Text else if b == 34 then Value else Tag
after Value b = if b == 34 then Tag else if b == 38 then ValueReference else Value
after TextReference b = if b == 59 then Text else TextReference
after ValueReference b = if b == 59 then Value else ValueReference

-- The reader is in a text, outside of a reference. (own)
abbrev pub is_text : Place → Bool
is_text Text = true
is_text Tag = false
is_text Value = false
is_text TextReference = false
is_text ValueReference = false

-- Where the reader is after these bytes, from this place on. (own)
abbrev pub after_all : Place → List ℕ → Place
after_all place [] = place
after_all place (b ∷ rest) = after_all (after place b) rest

-- Each tag, value and reference that begins here ends here. (own)
abbrev pub is_whole : List ℕ → Bool
is_whole bytes = is_text (after_all Text bytes)
