-- Places of names that are below the counts of the names.
use Rattle.std.specs.Prelude.{ℕ, ◌<◌, IfSome, All}
use Rattle.mls_start_text.specs.declared.labels.LabelledChild.{LabelledChild}
use Rattle.mls_start_text.specs.declared.file_places.FilePlaces.{FilePlaces}
use Rattle.mls_start_text.specs.declared.places.PlacedTriple.{PlacedTriple}

-- A parent's place, where it is known, is one of so many objects. (own)
abbrev pub HasParentBelow : ℕ → LabelledChild → Type 0
HasParentBelow objects c = IfSome c.parent (λ place. place < objects)

-- A triple's places are of so many subjects and of so many objects. (own)
abbrev pub IsPlacedBelow : ℕ → ℕ → PlacedTriple → Type 0
IsPlacedBelow subjects objects t = (t.subject < subjects) × (t.object < objects)

-- The places of all triples of a file are. (own)
pub record ArePlacedBelow (subjects objects : ℕ) (places : FilePlaces) : Type 0 where
  pub cells : All (IsPlacedBelow subjects objects) places.cells.items
  pub accesses : All (IsPlacedBelow subjects objects) places.accesses.items
