-- Where a start file names what isn't there.
use Rattle.std.specs.Prelude.{ℕ, List, [], ◌++◌, codes, is_some, if◌then◌else◌}
use Rattle.mls_labels.specs.Reading.{place_of}
use Rattle.mls_requests.specs.ModeWords.{read_mode}
use Rattle.mls_start_text.specs.Texts.{SaidFile, SaidChild, SaidCell, subject_names, object_names}
use Rattle.mls_start_faults.specs.Each.{at_each}
use Rattle.mls_start_faults.specs.Places.{Located, located, on_member, on_item}

-- The place of a member that is to be one of these names: none where it is. (own)
abbrev pub named_place : List (List ℕ) → List ℕ → ℕ → List ℕ → List ℕ → List ℕ → List Located
named_place names list n member words name =
    if is_some (place_of names name) then [] else located (on_member list n member words)

-- The place of a parent that is to be one of the objects. (own)
abbrev pub parent_place : List (List ℕ) → ℕ → SaidChild → List Located
parent_place objects n c =
    named_place objects (codes "objects") n (codes "parent") (codes "no such object") c.parent

-- The place of a word that is to be a mode's. (own)
abbrev pub mode_place : List ℕ → ℕ → ℕ → List ℕ → List Located
mode_place list n k word =
    if is_some (read_mode word) then [] else located (on_item list n (codes "modes") k (codes "no such mode"))

-- The places of a cell: of its subject, its object and its modes. (own)
abbrev pub cell_places : List (List ℕ) → List (List ℕ) → List ℕ → ℕ → SaidCell → List Located
cell_places subjects objects list n c =
    named_place subjects list n (codes "subject") (codes "no such subject") c.subject
    ++ (named_place objects list n (codes "object") (codes "no such object") c.object
    ++ at_each (mode_place list n) 0 c.modes)

-- The places of a file with these names: of parents, of the matrix and of the accesses. (own)
abbrev pub unknown_places : List (List ℕ) → List (List ℕ) → SaidFile → List Located
unknown_places subjects objects file =
    at_each (parent_place objects) 1 file.children
    ++ (at_each (cell_places subjects objects (codes "matrix")) 0 file.cells
    ++ at_each (cell_places subjects objects (codes "accesses")) 0 file.accesses)

-- The places of a file with its own names. (own)
abbrev pub unknowns_found : SaidFile → List Located
unknowns_found file = unknown_places (subject_names file) (object_names file) file
