-- Monitors that go on from a state.
use Rattle.std.specs.Prelude.{◌≡◌, ◌<◌, ℕ, List, Option, Some, IfOk}
use Rattle.std.proofs.Common.{Result, Ok, Err, refl, sym, ap, subst, ◌∙◌}
use Rattle.mls_lines.specs.Names.{Names}
use Rattle.mls_monitor.specs.declared.tail.TheConstants.{FORGET_LIMIT}
use Rattle.mls_snapshots.specs.Reading.{IsOfStart}
use Rattle.mls_snapshots.specs.States.{state_text}
use Rattle.mls_start_file.specs.Says.{SaysStart}
use Rattle.mls_start_file.specs.Ties.{Loaded}
use Rattle.mls_state.specs.Properties.{IsSecure}
use Rattle.mls_state.specs.State.{State}
use Rattle.mls_c.specs.Opened.{Opened, state_of}
use Rattle.mls_c.specs.StateText.{opened_at, GoesOnFrom, OpensState, IsNoRefusal, IsAboutState, IsOverStart, RefusesState}
use Rattle.mls_c.specs.declared.state_opening.StateFault.{StateFault}
use Rattle.mls_c.specs.declared.state_opening.StateFault.TheVariants as fault

-- a monitor that goes on from a state that was read, where there is one
pub goes_on : (loaded : Loaded) (text : List ℕ) (number : ℕ) (begun : State) (names : Names) (start : State) → names ≡ loaded.names → start ≡ loaded.start
    → state_text names begun ≡ text → IsOfStart start begun → IsSecure begun → {B E : Type 0} (value : B → Opened) (r : Result B E)
    → IfOk r (λ b. value b ≡ opened_at names begun number) → IfOk r (λ b. state_of (value b) ≡ begun) → IfOk r (λ b. GoesOnFrom loaded text number (value b))
goes_on loaded text number begun names start same_names same_start is of_start secure value (Ok b) holds stands = record {
  begun = begun;
  is = ap (λ n. state_text n begun) (sym same_names) ∙ is;
  start = subst (λ s. IsOfStart s begun) same_start of_start;
  secure = secure;
  holds = holds ∙ ap (λ n. opened_at n begun number) same_names;
  state = stands;
}
goes_on loaded text number begun names start same_names same_start is of_start secure value (Err e) holds stands = tt

pub over_from_none : (f : StateFault) → IsNoRefusal f → IsOverStart f
over_from_none (fault.Start numbers) none = absurd none
over_from_none (fault.State numbers) none = absurd none
over_from_none fault.Number none = none
over_from_none fault.Memory none = none

pub over_from_state : (f : StateFault) → IsAboutState f → IsOverStart f
over_from_state (fault.Start numbers) about = absurd about
over_from_state (fault.State numbers) about = about
over_from_state fault.Number about = absurd about
over_from_state fault.Memory about = about

-- what is told of a state says nothing of the number
pub never_number : (f : StateFault) (n : ℕ) → IsAboutState f → f ≡ fault.Number → FORGET_LIMIT < n
never_number f n about is = absurd (subst IsAboutState is about)

pub ruleset over_start = (over_from_none, over_from_state)

-- a monitor of files
pub opens : (start text : List ℕ) (number : ℕ) (loaded : Loaded) (o : Opened) → SaysStart start loaded → GoesOnFrom loaded text number o
    → OpensState start text number (Some o)
opens start text number loaded o says on = record { loaded = loaded; says = says; opened = o; on = on; holds = refl }

pub refuses_state : (start : List ℕ) (f : StateFault) → IsOverStart f → RefusesState start f
refuses_state start (fault.Start numbers) over = absurd over
refuses_state start (fault.State numbers) over = over
refuses_state start fault.Number over = over
refuses_state start fault.Memory over = over

pub ruleset from_files = (opens, refuses_state)

-- a handle that holds what was opened
pub holds_state : (start text : List ℕ) (number : ℕ) (new : Option Opened) (o : Opened) → OpensState start text number (Some o) → new ≡ Some o
    → OpensState start text number new
holds_state start text number new o opens is = record { loaded = opens.loaded; says = opens.says; opened = opens.opened; on = opens.on; holds = is ∙ opens.holds }
