-- What is said of a start is said of the file that says it.
use Rattle.std.proofs.Common.{◌≡◌, ℕ, List, Result, Ok, Err}
use Rattle.std.specs.Prelude.{IfOk}
use Rattle.mls_rows.specs.declared.form.Form.{Form}
use Rattle.mls_start_file.specs.Says.{SaysStart}
use Rattle.mls_start_file.specs.Ties.{Loaded}
use Rattle.mls_state.specs.State.{State}
use Rattle.mls_answers.specs.Checking.{Checks, ChecksOver}

pub checks_ok : {T E : Type 0} (told : T → List ℕ) (form : Form) (file : List ℕ) (loaded : Loaded) (lent : State) (result : Result T E)
    → SaysStart file loaded → lent ≡ loaded.start → IfOk result (λ x. ChecksOver form lent (told x)) → IfOk result (λ x. Checks form file (told x))
checks_ok told form file loaded lent (Ok x) says same so = (lent, (loaded, says, same), so)
checks_ok told form file loaded lent (Err f) says same so = tt
