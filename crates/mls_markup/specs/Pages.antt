-- A page that is being written, as far as it is written.
use Rattle.std.specs.Prelude.{◌≡◌, ℕ, Bool, if◌then◌else◌, List, [], ◌∷◌, ◌++◌}
use Rattle.mls_markup.specs.Documents.{bottom_text, top_text}
use Rattle.mls_markup.specs.Drafts.{Draft, added}
use Rattle.mls_markup.specs.Trees.{Forest, Named, begun, written_of}
use Rattle.mls_markup.specs.declared.tag.Tag.{Tag}

-- An element that is begun and not ended: its name, its attributes, and what stands before it in the one that it is in.
-- (own)
pub record Open : Type 0 where
  pub tag : Tag
  pub attributes : List Named
  pub before : Forest

-- What is written of elements that are begun, the innermost first, and of what the innermost has so far. (own)
abbrev pub written_open : List Open → Forest → List ℕ
written_open [] here = written_of here
written_open (e ∷ outer) here = written_open outer e.before ++ begun e.tag e.attributes ++ written_of here

-- The names of these elements, the innermost first. (own)
abbrev pub tags_of : List Open → List Tag
tags_of [] = []
tags_of (e ∷ outer) = e.tag ∷ tags_of outer

-- The top of a page of a title; a sheet of its own has none. (own)
abbrev pub top_where : Bool → List ℕ → List ℕ
top_where whole title = if whole then top_text title else []

-- A part of a page or of a sheet: its top, and elements of which those of these names aren't ended. (own)
pub record IsPart (whole : Bool) (bytes : List ℕ) (tags : List Tag) : Type 0 where
  pub title : List ℕ
  pub outer : List Open
  pub here : Forest
  pub bytes_are : bytes ≡ top_where whole title ++ written_open outer here
  pub tags_are : tags ≡ tags_of outer

-- Some tree is appended. (own)
pub record Adds (old new : Draft) : Type 0 where
  pub tree : Forest
  pub is : new ≡ added old tree

-- A page: its top, what is written of a tree, and its bottom. (own)
pub record IsPage (bytes : List ℕ) : Type 0 where
  pub title : List ℕ
  pub tree : Forest
  pub bytes_are : bytes ≡ top_text title ++ written_of tree ++ bottom_text

-- The page of a title with this tree. (own)
unfoldable pub page_of : List ℕ → Forest → List ℕ
page_of title tree = top_text title ++ written_of tree ++ bottom_text
