-- A section of the page: its heading, the command that lists all that it is about, and what is under them.
use Rattle.std.specs.Prelude.{◌≡◌, ℕ, List, [], ◌∷◌, codes}
use Rattle.mls_markup.specs.Drafts.{Draft, added}
use Rattle.mls_markup.specs.Trees.{Forest, Words, Line, Element, Both, Named, plain, classed}
use Rattle.mls_markup.specs.declared.tag.Tag.TheVariants as tag
use Rattle.mls_markup.specs.declared.attribute.Attribute.TheVariants as attribute

-- The attributes of an element that is labelled by the one of this name. (own)
abbrev pub labelled : List ℕ → List Named
labelled id = (attribute.AriaLabelledBy, id) ∷ []

-- Something on a line of its own. (own)
abbrev pub on_line : Forest → Forest
on_line f = Both f Line

-- A paragraph. (own)
unfoldable pub paragraph : List ℕ → Forest
paragraph text = on_line (plain tag.Paragraph (Words text))

-- The heading of a section: its title, under the name that links have for it. (own)
unfoldable pub heading : List ℕ → List ℕ → Forest
heading id title = Both Line (on_line (Element tag.Heading ((attribute.Id, id) ∷ []) (Words title)))

-- What command lists all that a section is about. (own)
unfoldable pub source : List ℕ → Forest
source command =
    on_line (classed tag.Paragraph (codes "source")
    (Both (plain tag.Code (Words command)) (Words (codes " lists it all."))))

-- A section: its heading, and what is under it. (own)
unfoldable pub section : List ℕ → List ℕ → Forest → Forest
section id title inner =
    on_line (Element tag.Section (labelled id) (Both (heading id title) inner))

-- A section whose command lists it all. (own)
unfoldable pub listed : List ℕ → List ℕ → List ℕ → Forest → Forest
listed id title command inner =
    on_line (Element tag.Section (labelled id) (Both (Both (heading id title) (source command)) inner))

-- A section is appended that has some tree under its heading. (own)
pub record Shows (id title : List ℕ) (old new : Draft) : Type 0 where
  pub tree : Forest
  pub is : new ≡ added old (section id title tree)

-- The same of a section whose command lists it all. (own)
pub record Lists (id title command : List ℕ) (old new : Draft) : Type 0 where
  pub tree : Forest
  pub is : new ≡ added old (listed id title command tree)
