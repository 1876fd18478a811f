-- A page as a tree of elements with texts, and how it is written.
use Rattle.std.specs.Prelude.{ℕ, List, [], ◌∷◌, ◌++◌}
use Rattle.std.specs.Borrow.{Bor}
use Rattle.std.specs.List.{flat_map}
use Rattle.mls_markup.specs.Escaping.{escaped}
use Rattle.mls_markup.specs.Words.{tag_word, attribute_word}
use Rattle.mls_markup.specs.declared.tag.Tag.{Tag}
use Rattle.mls_markup.specs.declared.attribute.Attribute.{Attribute}
use Rattle.mls_markup.specs.declared.attribute.Attribute.TheVariants.{Class}

-- An attribute and its value. (own)
abbrev pub Named : Type 0
Named = Attribute × List ℕ

-- A pair as what it names. (own)
abbrev pub named : Attribute × Bor (List ℕ) → Named
named p = (p.0, p.1.now)

-- What an element has in it: nothing, a text, a new line, an element, or one thing after another. (own)
pub data Forest : Type 0 where
  End : Forest
  Words : List ℕ → Forest
  Line : Forest
  Element : Tag → List Named → Forest → Forest
  Both : Forest → Forest → Forest

-- An attribute is written with its value escaped, between quotes. (HTML, "Attributes")
abbrev pub attribute_text : Named → List ℕ
attribute_text a = 32 ∷ attribute_word a.0 ++ 61 ∷ 34 ∷ escaped a.1 ++ 34 ∷ []

-- How an element begins and ends. (HTML, "Start tags", "End tags")
abbrev pub begun : Tag → List Named → List ℕ
begun t attributes = 60 ∷ tag_word t ++ flat_map attribute_text attributes ++ 62 ∷ []

abbrev pub ended : Tag → List ℕ
ended t = 60 ∷ 47 ∷ tag_word t ++ 62 ∷ []

-- What is written of it: texts are escaped, and each element that begins ends. (own)
abbrev pub written_of : Forest → List ℕ
written_of End = []
written_of (Words text) = escaped text
written_of Line = 10 ∷ []
written_of (Element t attributes inner) = begun t attributes ++ written_of inner ++ ended t
written_of (Both first second) = written_of first ++ written_of second

-- One after the other. (own)
abbrev pub joined : List Forest → Forest
joined [] = End
joined (f ∷ []) = f
joined (f ∷ g ∷ rest) = Both f (joined (g ∷ rest))

-- What each of some rows has, one after the other. (own)
abbrev pub all_of : {Row : Type 0} → (Row → Forest) → List Row → Forest
all_of told [] = End
all_of told (row ∷ rows) = Both (told row) (all_of told rows)

-- An element without attributes, and one of a class. (own)
abbrev pub plain : Tag → Forest → Forest
plain t inner = Element t [] inner

abbrev pub classed : Tag → List ℕ → Forest → Forest
classed t class inner = Element t ((Class, class) ∷ []) inner
