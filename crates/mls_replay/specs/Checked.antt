-- What checking a start file prints.
use Rattle.std.specs.Prelude.{◌≡◌, ℕ, List, [], ◌∷◌, ◌++◌, codes, nat_lt, ◌==◌, if◌then◌else◌}
use Rattle.std.specs.Fmt.{decimal}
use Rattle.std.specs.FinSet as set
use Rattle.mls_state.specs.State.{State, is_subject}
use Rattle.mls_replay.specs.Loads.{SaysState}

-- A line with a word and a number. (own)
abbrev pub count_line : List ℕ → ℕ → List ℕ
count_line word count = word ++ decimal count ++ 10 ∷ []

-- The line that tells how many accesses there are, where there are any. (own)
abbrev pub access_line : ℕ → List ℕ
access_line accesses = if accesses == 0 then [] else count_line (codes "accesses ") accesses

-- The lines that tell how many subjects, objects, cells and accesses there are. (own)
abbrev pub counts_text : ℕ → ℕ → ℕ → ℕ → List ℕ
counts_text subjects objects cells accesses =
    count_line (codes "subjects ") subjects ++ count_line (codes "objects ") objects
    ++ count_line (codes "cells ") cells ++ access_line accesses

-- The lines that a check tells of a start. (own)
abbrev pub check_text : ℕ → ℕ → ℕ → ℕ → List ℕ
check_text subjects objects cells accesses = counts_text subjects objects cells accesses ++ codes "secure yes\n"

-- What a check tells of a start: how many subjects it has, whose numbers are those below, how many objects, how many
-- cells and how many accesses, and that it opens secure. (own)
pub record ChecksOver (start : State) (told : List ℕ) : Type 0 where
  pub subjects : ℕ
  pub known : (s : ℕ) → is_subject start s ≡ nat_lt s subjects
  pub text : told ≡ check_text subjects start.next (set.len start.matrix) (set.len start.accesses)

-- A start file says a start, and this is told of it. (own)
abbrev pub Checks : List ℕ → List ℕ → Type 0
Checks bytes told = (start : State) × SaysState bytes start × ChecksOver start told
