-- What a clause says of a script that is fed.
use Rattle.std.specs.Prelude.{◌≡◌, ℕ, Bool, List, [], ◌∷◌, ◌++◌, drop, option_to_list, Option, Some, None, refl}
use Rattle.std.specs.Coded.{Coded, code_by, coded×, coded_ℕ, coded_bool, coded_list, coded_option}
use Rattle.mls_requests.specs.declared.ask.Ask.{Ask}
use Rattle.mls_requests.specs.contracts.ask.Ask as ask
use Rattle.mls_lines.specs.Names.{Names, names_code}
use Rattle.mls_monitor.specs.declared.feed.Answer.{Answer as Told}
use Rattle.mls_monitor.specs.declared.feed.Stage.{Stage}
use Rattle.mls_monitor.specs.declared.feed.Stage.TheVariants.{Done}
use Rattle.mls_monitor.specs.contracts.feed.Stage as stage
use Rattle.mls_scripts.specs.Lines.{lines_of}
use Rattle.mls_scripts.specs.Script.{answer_bytes}
use Rattle.mls_scripts.specs.Halves.{Asking, next_of, heard, vars_told}

-- A script that is fed: its names, the bytes that it hasn't come to, the variables bound so far, the answers so far,
-- what it asked and waits for, the variable that the line of the last of these binds, where it stands as a feed, and
-- whether memory ran out. (own)
pub record ScriptFeed : Type 0 where
  pub names : Names
  pub rest : List ℕ
  pub vars : List (List ℕ × ℕ)
  pub text : List ℕ
  pub asked : List Ask
  pub binds : Option (List ℕ)
  pub stage : Stage
  pub failed : Bool

-- A line's ask with the variable that it binds. (own)
abbrev pub asking_of : Option Ask → Option (List ℕ) → Option Asking
asking_of None bind = None
asking_of (Some a) bind = Some (bind, a)

-- The first half of a step: the script goes on to where it halts. (own)
pub record GoesOn (old : ScriptFeed) (given : Option Ask) (new : ScriptFeed) : Type 0 where
  pub asks : asking_of given new.binds ≡ (next_of old.names old.vars (lines_of old.rest)).asks
  pub asked : new.asked ≡ option_to_list given
  pub text : new.text ≡ old.text ++ (next_of old.names old.vars (lines_of old.rest)).text
  pub rest : lines_of new.rest ≡ (next_of old.names old.vars (lines_of old.rest)).rest

-- The first half of the step after that, ahead of an answer: what was asked binds no variable, and no line on the way
-- has an answer. (own)
pub record GoesAhead (old : ScriptFeed) (given : Ask) (new : ScriptFeed) : Type 0 where
  pub unbound : old.binds ≡ None
  pub asks : (next_of old.names old.vars (lines_of old.rest)).asks ≡ Some (new.binds, given)
  pub quiet : (next_of old.names old.vars (lines_of old.rest)).text ≡ []
  pub asked : new.asked ≡ old.asked ++ given ∷ []
  pub text : new.text ≡ old.text
  pub rest : lines_of new.rest ≡ (next_of old.names old.vars (lines_of old.rest)).rest

-- The first of the asks that wait for an answer. (own)
abbrev pub first_of : List Ask → Option Ask
first_of [] = None
first_of (a ∷ asks) = Some a

-- The variable that the line of the first of these asks binds, where that of the last binds this. (own)
abbrev pub first_binds : List Ask → Option (List ℕ) → Option (List ℕ)
first_binds [] bind = bind
first_binds (a ∷ []) bind = bind
first_binds (a ∷ b ∷ asks) bind = None

-- What is left to bind once the first of these asks is answered. (own)
abbrev pub left_to_bind : List Ask → Option (List ℕ) → Option (List ℕ)
left_to_bind [] bind = None
left_to_bind (a ∷ []) bind = None
left_to_bind (a ∷ b ∷ asks) bind = bind

-- The second half: the script writes the answer to the first of its asks, and binds its line's variable. (own)
pub record Hears (old : ScriptFeed) (answer : Told) (new : ScriptFeed) : Type 0 where
  pub text : new.text ≡ old.text ++ answer_bytes (heard (first_of old.asked) answer)
  pub vars : new.vars ≡ vars_told old.vars (first_binds old.asked old.binds) (heard (first_of old.asked) answer)
  pub asked : new.asked ≡ drop 1 old.asked
  pub binds : new.binds ≡ left_to_bind old.asked old.binds
  pub rest : new.rest ≡ old.rest

-- The feed asks nothing more, and waits for nothing. (own)
abbrev pub ended : ScriptFeed → ScriptFeed
ended f =
    record {
      names = f.names;
      rest = f.rest;
      vars = f.vars;
      text = f.text;
      asked = [];
      binds = f.binds;
      stage = Done;
      failed = f.failed;
    }

-- A feed is stored as the pairs of its parts. (own)
abbrev pub feed_code : Coded ScriptFeed
feed_code =
    code_by ((Names × (List ℕ × (List (List ℕ × ℕ) × List ℕ))) × ((List Ask × Option (List ℕ)) × (Stage × Bool)))
    (coded× (coded× names_code
    (coded× (coded_list coded_ℕ) (coded× (coded_list (coded× (coded_list coded_ℕ) coded_ℕ)) (coded_list coded_ℕ))))
    (coded× (coded× (coded_list ask.the_row.coded) (coded_option (coded_list coded_ℕ)))
    (coded× stage.the_row.coded coded_bool)))
    (λ f. ((f.names, (f.rest, (f.vars, f.text))), ((f.asked, f.binds), (f.stage, f.failed))))
    (λ p. record {
      names = p.0.0;
      rest = p.0.1.0;
      vars = p.0.1.1.0;
      text = p.0.1.1.1;
      asked = p.1.0.0;
      binds = p.1.0.1;
      stage = p.1.1.0;
      failed = p.1.1.1;
    })
    (λ _. refl)
