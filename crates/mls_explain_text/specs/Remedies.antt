-- What is written of the remedy of a request that is denied.
use Rattle.std.specs.Prelude.{◌≡◌, ℕ, List, [], ◌++◌, codes}
use Rattle.std.specs.List.{flat_map}
use Rattle.mls_tables.specs.declared.mode.Mode.{Mode}
use Rattle.mls_requests.specs.ModeWords.{mode_word}
use Rattle.mls_requests.specs.declared.action.Action.{Action}
use Rattle.mls_requests.specs.declared.action.Action.TheVariants.{Give}
use Rattle.mls_requests.specs.declared.reply.Reply.{Reply}
use Rattle.mls_requests.specs.declared.reply.Reply.TheVariants.{No}
use Rattle.mls_requests.specs.declared.request.Request.{Request}
use Rattle.mls_lines.specs.Names.{Names}
use Rattle.mls_state.specs.State.{State}
use Rattle.mls_wording.specs.RequestText.{request_text}
use Rattle.mls_wording.specs.Wording.{subject_text, object_text}
use Rattle.mls_remedies.specs.Remedies.{IsLed, IsRemedy}
use Rattle.mls_remedies.specs.declared.ending.Ending.{Ending}
use Rattle.mls_remedies.specs.declared.ending.Ending.TheVariants.{Asked, Instead, NoLevel, NoGiver, Nothing}
use Rattle.mls_remedies.specs.declared.step.Step.{Step}
use Rattle.mls_remedies.specs.declared.who.Who.{Who}
use Rattle.mls_remedies.specs.declared.who.Who.TheVariants.{One, Two, Three}

-- Who gives what to whom, behind the giver. (own)
abbrev pub gives_text : Names → Mode → ℕ → ℕ → List ℕ
gives_text names x t o =
    codes " gives " ++ mode_word x ++ codes " " ++ object_text names o ++ codes " to " ++ subject_text names t

-- An action that a subject is to ask for: of a give who gives what to whom, of any other its line of a script. (own)
abbrev pub asking_text : Names → ℕ → Action → List ℕ
asking_text names s (Give x t o) = subject_text names s ++ gives_text names x t o
asking_text names s a = request_text names (record { subject = s; action = a })

-- A subject before another that may ask for the same. (own)
abbrev pub or_text : Names → ℕ → List ℕ
or_text names s = subject_text names s ++ codes " or "

-- An action, with the subjects of whom any may ask for it. (own)
abbrev pub who_text : Names → Who → Action → List ℕ
who_text names (One a) action = asking_text names a action
who_text names (Two a b) action = or_text names a ++ asking_text names b action
who_text names (Three a b c) action = or_text names a ++ or_text names b ++ asking_text names c action

-- A step, with the subjects that may make it. (own)
abbrev pub step_text : Names → Step → List ℕ
step_text names t = who_text names t.who t.action

-- The line of a step. (own)
abbrev pub step_line : Names → Step → List ℕ
step_line names t = codes "remedy: " ++ step_text names t ++ codes "\n"

-- The lines of steps. (own)
abbrev pub step_lines : Names → List Step → List ℕ
step_lines names steps = flat_map (step_line names) steps

-- The line of what the steps lead to: of a request of others, or of no steps at all. (own)
abbrev pub ending_line : Names → Ending → List ℕ
ending_line names Asked = []
ending_line names (Instead t) = codes "remedy: " ++ step_text names t ++ codes " instead\n"
ending_line names NoLevel = codes "remedy: none by level\n"
ending_line names (NoGiver x s o) = codes "remedy: none now: nobody" ++ gives_text names x s o ++ codes "\n"
ending_line names Nothing = codes "remedy: none found\n"

-- The lines of a remedy. (own)
abbrev pub remedy_lines : Names → List Step → Ending → List ℕ
remedy_lines names steps ending = step_lines names steps ++ ending_line names ending

-- What is said that a request with a reply would take: after a denial its remedy, else nothing. (own)
abbrev pub IsRemedyAfter : State → Request → Reply → List Step → Ending → Type 0
IsRemedyAfter v r (No reason) steps ending =
    IsRemedy v r steps ending × IsLed v r.subject r.action steps ending
IsRemedyAfter v r reply steps ending = (steps ≡ []) × (ending ≡ Asked)
