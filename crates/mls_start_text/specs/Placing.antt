-- What a start file's names of subjects, objects and modes stand for.
use Rattle.std.specs.Prelude.{ℕ, List, map, Option, Some, option_map}
use Rattle.std.specs.List.{flat_map}
use Rattle.mls_labels.specs.Reading.{place_of}
use Rattle.mls_lines.specs.Names.{Names}
use Rattle.mls_requests.specs.ModeWords.{read_mode}
use Rattle.mls_tables.specs.Triples.{Triple}
use Rattle.mls_tree.specs.declared.profile.Profile.{Profile}
use Rattle.mls_start_text.specs.Each.{having, each_of}
use Rattle.mls_start_text.specs.Texts.{SaidCell, SaidFile}

-- The triples of a cell: of the subject and the object of its names, in each of the modes of its words. (own)
abbrev pub cell_triples : List (List ℕ) → List (List ℕ) → SaidCell → Option (List Triple)
cell_triples subjects objects c =
    having (place_of subjects c.subject) (λ s.
    having (place_of objects c.object) (λ o.
    option_map (map (λ x. (s, o, x))) (each_of read_mode c.modes)))

-- The triples of all cells. (own)
abbrev pub triples_of : List (List ℕ) → List (List ℕ) → List SaidCell → Option (List Triple)
triples_of subjects objects cells =
    option_map (flat_map (λ triples. triples)) (each_of (cell_triples subjects objects) cells)

-- What a start file says beside its names and its labels: its profile, the triples that the matrix permits, and those
-- that are current accesses. (own)
pub record Placed : Type 0 where
  pub profile : Profile
  pub cells : List Triple
  pub accesses : List Triple

-- The profile and the triples of a file of these names, where each name and each mode in its cells and accesses is
-- known. (own)
abbrev pub placed_of : Names → SaidFile → Option Placed
placed_of names file =
    having (triples_of names.subjects names.objects file.cells) (λ cells.
    having (triples_of names.subjects names.objects file.accesses) (λ accesses.
    Some (record { profile = file.profile; cells = cells; accesses = accesses })))
