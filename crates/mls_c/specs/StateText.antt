-- The text of an open monitor's state, and monitors that go on from one.
use Rattle.std.specs.Prelude.{◌≡◌, ◌⊎◌, ℕ, ℤ, List, Option, Some, None, option_map}
use Rattle.mls_lines.specs.Names.{Names}
use Rattle.mls_monitor.specs.Resuming.{stand_ins}
use Rattle.mls_snapshots.specs.Reading.{IsOfStart}
use Rattle.mls_snapshots.specs.States.{state_text}
use Rattle.mls_start_file.specs.Says.{SaysStart}
use Rattle.mls_start_file.specs.Ties.{Loaded}
use Rattle.mls_state.specs.Properties.{IsSecure}
use Rattle.mls_state.specs.State.{State}
use Rattle.mls_c.specs.Opened.{Opened, state_of}
use Rattle.mls_c.specs.Faults.{HasStartFault}
use Rattle.mls_c.specs.declared.state_opening.StateFault.{StateFault}
use Rattle.mls_c.specs.declared.state_opening.StateFault.TheVariants as fault
use Rattle.mls_c.specs.declared.status.TheConstants.{OK, EOPEN, ENOMEM, EINVAL, ESTART, ESTATE}

-- The text of an open monitor's state. (own)
abbrev pub text_of_state : Opened → List ℕ
text_of_state v = state_text v.names (state_of v)

-- The same of a handle's monitor. (own)
abbrev pub text_of : Option Opened → Option (List ℕ)
text_of handle = option_map text_of_state handle

-- A monitor that goes on from a state to which so many entries led, which it doesn't know: stand-ins, all of which it
-- has forgotten, are in their places. (own)
abbrev pub opened_at : Names → State → ℕ → Opened
opened_at names begun number =
    record { names = names; start = begun; entries = stand_ins number; forgotten = number }

-- A monitor goes on from the state whose text this is, with the names of a start: that state is secure and one of that
-- start, and the monitor is in it. (own)
pub record GoesOnFrom (loaded : Loaded) (text : List ℕ) (number : ℕ) (opened : Opened) : Type 0 where
  pub begun : State
  pub is : state_text loaded.names begun ≡ text
  pub start : IsOfStart loaded.start begun
  pub secure : IsSecure begun
  pub holds : opened ≡ opened_at loaded.names begun number
  pub state : state_of opened ≡ begun

-- The handle holds a monitor with the names of a start file that goes on from the state whose text this is. (own)
pub record OpensState (start text : List ℕ) (number : ℕ) (new : Option Opened) : Type 0 where
  pub loaded : Loaded
  pub says : SaysStart start loaded
  pub opened : Opened
  pub on : GoesOnFrom loaded text number opened
  pub holds : new ≡ Some opened

-- Why no monitor goes on from what a start opens with: the number, or memory ran out. (own)
abbrev pub IsNoRefusal : StateFault → Type 0
IsNoRefusal (fault.Start numbers) = ⊥
IsNoRefusal (fault.State numbers) = ⊥
IsNoRefusal fault.Number = Unit {0}
IsNoRefusal fault.Memory = Unit {0}

-- Why a text isn't a state of a start: what is told of it, or memory ran out. (own)
abbrev pub IsAboutState : StateFault → Type 0
IsAboutState (fault.Start numbers) = ⊥
IsAboutState (fault.State numbers) = Unit {0}
IsAboutState fault.Number = ⊥
IsAboutState fault.Memory = Unit {0}

-- Why no monitor goes on over a start that is said: the state, the number, or memory ran out. (own)
abbrev pub IsOverStart : StateFault → Type 0
IsOverStart (fault.Start numbers) = ⊥
IsOverStart (fault.State numbers) = Unit {0}
IsOverStart fault.Number = Unit {0}
IsOverStart fault.Memory = Unit {0}

-- Why none goes on from a start file and the text of a state. (own)
abbrev pub RefusesState : List ℕ → StateFault → Type 0
RefusesState start (fault.Start numbers) = HasStartFault start numbers
RefusesState start (fault.State numbers) = Unit {0}
RefusesState start fault.Number = Unit {0}
RefusesState start fault.Memory = Unit {0}

-- What opening with a state returns: that the handle is open already; else a monitor goes on, or start or state are
-- refused, or the number is too great, or there is no memory. (own)
abbrev pub OpenStateStatus : Option Opened → ℤ → Type 0
OpenStateStatus (Some v) status = status ≡ EOPEN
OpenStateStatus None status = (status ≡ OK) ⊎ (status ≡ ESTART) ⊎ (status ≡ ESTATE) ⊎ (status ≡ EINVAL)
    ⊎ (status ≡ ENOMEM)
