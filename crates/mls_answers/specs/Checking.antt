-- What is said of a start that is checked.
use Rattle.std.specs.Prelude.{◌≡◌, ℕ, Bool, true, false, List, [], ◌++◌, codes, nat_lt, ◌==◌, if◌then◌else◌}
use Rattle.std.specs.FinSet as set
use Rattle.json.specs.Token.{Token}
use Rattle.mls_replay.specs.Checked.{counts_text}
use Rattle.mls_replay.specs.Loads.{SaysState}
use Rattle.mls_rows.specs.Members.{number_member, two_members}
use Rattle.mls_rows.specs.Rows.{row_bytes}
use Rattle.mls_rows.specs.declared.form.Form.{Form}
use Rattle.mls_shared_rows.specs.StateRows.{truth_member}
use Rattle.mls_state.specs.State.{State, is_subject}

-- The line that tells whether a start opens secure. (own)
abbrev pub secure_line : Bool → List ℕ
secure_line true = codes "secure yes\n"
secure_line false = codes "secure no\n"

-- The lines that a check tells of a start. (own)
abbrev pub check_line : ℕ → ℕ → ℕ → ℕ → Bool → List ℕ
check_line subjects objects cells accesses secure =
    counts_text subjects objects cells accesses ++ secure_line secure

-- How many accesses there are, where there are any. (own)
abbrev pub access_member : ℕ → List Token
access_member accesses = if accesses == 0 then [] else number_member (codes "accesses") accesses

-- The members that a check tells of a start. (own)
abbrev pub check_members : ℕ → ℕ → ℕ → ℕ → Bool → List Token
check_members subjects objects cells accesses secure =
    two_members (codes "subjects") (codes "objects") subjects objects ++ number_member (codes "cells") cells
    ++ access_member accesses ++ truth_member (codes "secure") secure

-- What a check tells of a start in a form, that it opens secure among it. (own)
abbrev pub check_bytes : Form → ℕ → ℕ → ℕ → ℕ → List ℕ
check_bytes form subjects objects cells accesses =
    row_bytes form (check_line subjects objects cells accesses true)
    (check_members subjects objects cells accesses true)

-- What a check tells of a start in a form: how many subjects it has, whose numbers are those below, how many objects,
-- how many cells and how many accesses, and that it opens secure. (own)
pub record ChecksOver (form : Form) (start : State) (told : List ℕ) : Type 0 where
  pub subjects : ℕ
  pub known : (s : ℕ) → is_subject start s ≡ nat_lt s subjects
  pub bytes : told ≡ check_bytes form subjects start.next (set.len start.matrix) (set.len start.accesses)

-- A start file says a start, and this is told of it in a form. (own)
abbrev pub Checks : Form → List ℕ → List ℕ → Type 0
Checks form file told = (start : State) × SaysState file start × ChecksOver form start told
