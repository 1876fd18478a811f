-- Answers to a question where content could flow.
use Rattle.std.specs.Prelude.{◌≡◌, ◌⊎◌, ℕ, Bool, true, List, Option, Some, None, Ok, Err}
use Rattle.mls_lines.specs.Names.{Names}
use Rattle.mls_state.specs.State.{State}
use Rattle.mls_flows.specs.declared.place.Place.{Place}
use Rattle.mls_rows.specs.declared.form.Form.{Form}
use Rattle.mls_replay.specs.declared.question_fault.QuestionFault.{QuestionFault}
use Rattle.mls_could.specs.Actors.{are_known, is_actor, RefusesActors}
use Rattle.mls_could.specs.declared.choice.Choice.{Choice}
use Rattle.mls_flow_text.specs.Flows.{RowsOfFlows, RowsOfFlowTo}
use Rattle.mls_flow_text.specs.Naming.{ends_of}
use Rattle.mls_flow_text.specs.declared.ends.Ends.{Ends}

-- The bytes of an answer and whether it is positive tell where content of an object could flow, or whether to a place.
-- (own)
abbrev pub RowsTo : Option Place → Names → State → (ℕ → Bool) → ℕ → Form → List ℕ → Bool → Type 0
RowsTo (Some to) names v acts from form told positive = RowsOfFlowTo names v acts from to form told positive
RowsTo None names v acts from form told positive = RowsOfFlows names v acts from form told positive

-- The same of the ends that are asked for. (own)
abbrev pub RowsOfEnds : Names → State → (ℕ → Bool) → Ends → Form → List ℕ → Bool → Type 0
RowsOfEnds names v acts ends form told positive = RowsTo ends.to names v acts ends.from form told positive

-- The same, whatever those do whom a question has act, by words that name known subjects. (own)
pub record TellsEnds (form : Form) (names : Names) (v : State) (choice : Choice) (words : List (List ℕ)) (ends : Ends)
    (told : List ℕ) (positive : Bool) : Type 0 where
  pub known : are_known names v words ≡ true
  pub rows : RowsOfEnds names v (is_actor names v choice words) ends form told positive

-- The bytes of an answer and whether it is positive tell where content could flow, from the object that a word names,
-- and whether to the place that another one names, where there is one. (own)
pub record TellsFlow (form : Form) (names : Names) (v : State) (choice : Choice) (words : List (List ℕ))
    (from : List ℕ) (to : Option (List ℕ)) (is_object : Bool) (told : List ℕ) (positive : Bool) : Type 0 where
  pub ends : Ends
  pub named : ends_of names from to is_object ≡ Ok ends
  pub tells : TellsEnds form names v choice words ends told positive

-- Why it isn't told: a word of the ends names nothing, with this fault, or it isn't told who acts. (own)
abbrev pub RefusesFlow : Names → State → List (List ℕ) → List ℕ → Option (List ℕ) → Bool → QuestionFault → Type 0
RefusesFlow names v words from to is_object fault =
    (ends_of names from to is_object ≡ Err fault) ⊎ RefusesActors names v words fault
