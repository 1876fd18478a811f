-- What is written of a page so far, and what is appended to it.
use Rattle.std.specs.Prelude.{ℕ, List, [], ◌∷◌, ◌++◌}
use Rattle.mls_markup.specs.Documents.{top_text}
use Rattle.mls_markup.specs.Escaping.{escaped}
use Rattle.mls_markup.specs.Trees.{Forest, End, Words, Line, Element, Both, Named, begun, ended}
use Rattle.mls_markup.specs.declared.tag.Tag.{Tag}

-- Its bytes, and the names of the elements that are begun and not ended, the innermost first. (own)
pub record Draft : Type 0 where
  pub bytes : List ℕ
  pub tags : List Tag

-- A page of a title, up to its body. (own)
unfoldable pub blank : List ℕ → Draft
blank title = record { bytes = top_text title; tags = [] }

-- A text more, a new line more, and an element more that is begun. (own)
unfoldable pub told : Draft → List ℕ → Draft
told d text = record { bytes = d.bytes ++ escaped text; tags = d.tags }

unfoldable pub lined : Draft → Draft
lined d = record { bytes = d.bytes ++ 10 ∷ []; tags = d.tags }

unfoldable pub opened : Draft → Tag → List Named → Draft
opened d t attributes = record { bytes = d.bytes ++ begun t attributes; tags = t ∷ d.tags }

-- The innermost element is ended. (own)
abbrev pub ended_by : List ℕ → List Tag → Draft
ended_by bytes [] = record { bytes = bytes; tags = [] }
ended_by bytes (t ∷ outer) = record { bytes = bytes ++ ended t; tags = outer }

unfoldable pub closed : Draft → Draft
closed d = ended_by d.bytes d.tags

-- A tree more. (own)
abbrev pub added : Draft → Forest → Draft
added d End = d
added d (Words text) = told d text
added d Line = lined d
added d (Element t attributes inner) = closed (added (opened d t attributes) inner)
added d (Both first second) = added (added d first) second
