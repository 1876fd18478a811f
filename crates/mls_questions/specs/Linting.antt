-- What is printed of what is suspicious in a start and its file.
use Rattle.std.specs.Prelude.{◌≡◌, ◌==◌, ℕ, Bool, ◌&&◌, List, ◌++◌, length}
use Rattle.json.specs.Json.{Json}
use Rattle.serde_json.specs.Data.{Data}
use Rattle.mls_lines.specs.Names.{Names}
use Rattle.mls_state.specs.State.{State}
use Rattle.mls_rows.specs.declared.form.Form.{Form}
use Rattle.mls_review.specs.LintRows.{findings, lint_bytes}
use Rattle.mls_start_faults.specs.Found.{by_file}
use Rattle.mls_start_faults.specs.Permissions.{permissions_found, permissions_bytes}
use Rattle.mls_start_faults.specs.PlaceRows.{repeated_bytes}
use Rattle.mls_start_faults.specs.Repeated.{repeated_found}
use Rattle.mls_could.specs.Brought.{TellsBrought}

-- The bytes of an answer and whether it is positive tell the findings of a start, and behind them what untrusted
-- subjects could bring about; it is positive where there is nothing. (own)
pub record FindsInStart (names : Names) (start : State) (form : Form) (told : List ℕ) (positive : Bool) : Type 0 where
  pub brought : List ℕ
  pub none : Bool
  pub tells : TellsBrought names start form brought none
  pub bytes : told ≡ lint_bytes form names start ++ brought
  pub nothing : positive ≡ (length (findings start) == 0) && none

-- The bytes of an answer and whether it is positive tell what a start file has more than once, members and then
-- permissions, and behind them what is found in the start; it is positive where there is nothing. (own)
pub record FindsInFile (names : Names) (start : State) (json : Json) (d : Data) (form : Form) (told : List ℕ)
    (positive : Bool) : Type 0 where
  pub found : List ℕ
  pub none : Bool
  pub tells : FindsInStart names start form found none
  pub bytes : told ≡ (repeated_bytes form json ++ permissions_bytes form d) ++ found
  pub nothing : positive ≡ ((length (repeated_found json) == 0) && (length (by_file permissions_found d) == 0)) && none
