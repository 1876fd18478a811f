-- Where a start file has accesses that break a property.
use Rattle.std.specs.Prelude.{ℕ, not, List, [], codes, Option, Some, None, option_map, unwrap_or, if◌then◌else◌}
use Rattle.std.specs.Prelude.{Result, Ok, Err}
use Rattle.mls_labels.specs.Reading.{place_of}
use Rattle.mls_requests.specs.ModeWords.{read_mode}
use Rattle.mls_requests.specs.ReasonWords.{reason_word}
use Rattle.mls_requests.specs.declared.reason.Reason.{Reason}
use Rattle.mls_requests.specs.declared.reason.Reason.TheVariants.{Discretionary, Simple, Star, Integrity}
use Rattle.mls_tables.specs.Triples.{Triple}
use Rattle.mls_lines.specs.Names.{Names}
use Rattle.mls_state.specs.Properties.{discretionary_holds, simple_holds, star_holds, integrity_holds}
use Rattle.mls_state.specs.State.{State}
use Rattle.mls_start_text.specs.Each.{having}
use Rattle.mls_start_file.specs.Loading.{load_of_file}
use Rattle.mls_start_text.specs.Texts.{SaidCell, SaidFile}
use Rattle.mls_start_file.specs.Ties.{Loaded}
use Rattle.mls_start_text.specs.declared.load_fault.LoadFault.{LoadFault}
use Rattle.mls_start_faults.specs.Each.{at_each}
use Rattle.mls_start_faults.specs.Places.{Located, located, on_item}

-- The first property that an access breaks in a state, if any: discretionary security, simple security, star,
-- integrity. (own)
abbrev pub broken : State → Triple → Option Reason
broken v t =
    if not (discretionary_holds v t) then Some Discretionary
    else if not (simple_holds v t) then Some Simple
    else if not (star_holds v t) then Some Star
    else if not (integrity_holds v t) then Some Integrity
    else None

-- The place of an access by what it breaks, if anything. (own)
abbrev pub broken_place : ℕ → ℕ → Option Reason → List Located
broken_place n k None = []
broken_place n k (Some reason) = located (on_item (codes "accesses") n (codes "modes") k (reason_word reason))

-- The place of an access of a subject to an object in the mode of a word. (own)
abbrev pub access_place : State → ℕ → ℕ → ℕ → ℕ → List ℕ → List Located
access_place v s o n k word = broken_place n k (having (read_mode word) (λ x. broken v (s, o, x)))

-- The places of the accesses of a cell, by these names. (own)
abbrev pub cell_accesses : Names → State → ℕ → SaidCell → List Located
cell_accesses names v n c =
    unwrap_or
    (having (place_of names.subjects c.subject) (λ s.
    option_map (λ o. at_each (access_place v s o n) 0 c.modes) (place_of names.objects c.object)))
    []

-- The places of the accesses of cells, in the state that a start opens with. (own)
abbrev pub accesses_places : List SaidCell → Loaded → List Located
accesses_places cells loaded = at_each (cell_accesses loaded.names loaded.start) 0 cells

-- A file without its accesses. (own)
abbrev pub without_accesses : SaidFile → SaidFile
without_accesses file = record file { accesses = [] }

-- What is found by a start, where there is one. (own)
abbrev pub by_start : (Loaded → List Located) → Result Loaded LoadFault → List Located
by_start places (Ok loaded) = places loaded
by_start places (Err fault) = []

-- The places of a file's accesses, each judged in the state that the file opens with when it has no accesses: no
-- property of one access speaks of another. (own)
abbrev pub accesses_found : SaidFile → List Located
accesses_found file = by_start (accesses_places file.accesses) (load_of_file (without_accesses file))
