-- What a feed asks and is told, turn by turn, and what of it stands in a journal.
use Rattle.std.specs.Prelude.{◌≡◌, ℕ, ◌+◌, List, [], ◌∷◌, ◌++◌, map, Option, Some, None}
use Rattle.std.specs.FinSet as set
use Rattle.mls_state.specs.State.{State}
use Rattle.mls_requests.specs.declared.ask.Ask.{Ask}
use Rattle.mls_requests.specs.declared.ask.Ask.TheVariants.{Submit, Check}
use Rattle.mls_requests.specs.declared.entry.Entry.{Entry}
use Rattle.mls_monitor.specs.Journal.{fold}
use Rattle.mls_monitor.specs.Entries.{of_session}
use Rattle.mls_monitor.specs.declared.feed.Answer.{Answer as Told}
use Rattle.mls_monitor.specs.declared.feed.Answer.TheVariants as told
use Rattle.mls_monitor.specs.declared.feed.Stage.{Stage}

-- Each feed stands at this stage. (own)
abbrev pub AllAt : {F : Type 0} → (F → Stage) → Stage → List F → Type 0
AllAt at stage [] = Unit {0}
AllAt at stage (f ∷ feeds) = (at f ≡ stage) × AllAt at stage feeds

-- An ask, and the answer to it. (own)
abbrev pub Exchange : Type 0
Exchange = Ask × Told

-- What was asked. (own)
abbrev pub asks_of : List Exchange → List Ask
asks_of xs = map (λ x. x.0) xs

-- What was answered. (own)
abbrev pub answers_of : List Exchange → List Told
answers_of xs = map (λ x. x.1) xs

-- An ask of session k is answered so, where the journal had these entries before and got those since: a request by its
-- entry, which is the last of them and the only one of the session; a check by the state that the journal then had led
-- to, with no entry of the session. (own)
abbrev pub IsTold : State → ℕ → List Entry → Ask → Told → List Entry → Type 0
IsTold start k before (Submit r) (told.Entry e) since = (others : List Entry) × (since ≡ others ++ e ∷ [])
    × (of_session k others ≡ []) × (e.session ≡ k) × (e.request ≡ r)
IsTold start k before (Submit r) (told.Held held) since = ⊥
IsTold start k before (Check s o x) (told.Entry e) since = ⊥
IsTold start k before (Check s o x) (told.Held held) since = (of_session k since ≡ [])
    × (held ≡ set.contains (fold start (before ++ since)).accesses (s, o, x))

-- The asks of session k are answered so, one after the other, where the journal had these entries before and got those
-- since; the session has no entry but those. (own)
abbrev pub AreTold : State → ℕ → List Entry → List Entry → List Exchange → Type 0
AreTold start k before since [] = of_session k since ≡ []
AreTold start k before since (x ∷ xs) =
    (first : List Entry) × (rest : List Entry) × (since ≡ first ++ rest) × IsTold start k before x.0 x.1 first
    × AreTold start k (before ++ first) rest xs

-- What a feed asked in one turn, and what it was told: of one ask at least. (own)
abbrev pub Turn : Type 0
Turn = Exchange × List Exchange

-- What was asked and told in turns. (own)
abbrev pub in_turns : List Turn → List Exchange
in_turns [] = []
in_turns (turn ∷ turns) = turn.0 ∷ (turn.1 ++ in_turns turns)

-- A feed that gives asks ahead in this way gave these, one after the other. (own)
abbrev pub GaveAhead : {F : Type 0} → (F → Ask → F → Type 0) → F → List Ask → F → Type 0
GaveAhead gives_ahead f [] g = f ≡ g
GaveAhead {F} gives_ahead f (a ∷ asks) g = (h : F) × gives_ahead f a h × GaveAhead gives_ahead h asks g

-- A feed that hears answers in this way was told these, one after the other. (own)
abbrev pub Heard : {F : Type 0} → (F → Told → F → Type 0) → F → List Told → F → Type 0
Heard hears f [] g = f ≡ g
Heard {F} hears f (t ∷ answers) g = (h : F) × hears f t h × Heard hears h answers g

-- A feed that hears answers and stops in these ways was told these, one after the other, and then that it is stopped.
-- (own)
pub record Halted {F : Type 0} (hears : F → Told → F → Type 0) (stops : F → F → Type 0) (f : F) (answers : List Told)
    (g : F) : Type 0 where
  pub heard : F
  pub told : Heard hears f answers heard
  pub stopped : stops heard g

-- A feed that gives asks in these ways gave these in one turn. (own)
pub record Gave {F : Type 0} (gives : F → Option Ask → F → Type 0) (gives_ahead : F → Ask → F → Type 0) (f : F)
    (asks : List Ask) (g : F) : Type 0 where
  pub first : Ask
  pub more : List Ask
  pub are : asks ≡ first ∷ more
  pub asked : F
  pub gives_it : gives f (Some first) asked
  pub gave_more : GaveAhead gives_ahead asked more g

-- Of feeds that give asks and hear answers in these ways.
module _ {F : Type 0} (gives : F → Option Ask → F → Type 0) (gives_ahead : F → Ask → F → Type 0)
    (hears : F → Told → F → Type 0) where
  -- The feed gave these asks, turn by turn, and was told these answers, those of a turn once it had given all of its
  -- asks. (own)
  abbrev pub Talks : F → List Turn → F → Type 0
  Talks f [] g = f ≡ g
  Talks f (turn ∷ turns) g =
      (asked : F) × (full : F) × (heard : F) × gives f (Some turn.0.0) asked
      × GaveAhead gives_ahead asked (asks_of turn.1) full
      × Heard hears full (answers_of (turn.0 ∷ turn.1)) heard × Talks heard turns g

  -- The feed talked turn by turn, and then gave nothing more. (own)
  abbrev pub Fed : F → List Turn → F → Type 0
  Fed f turns g = (h : F) × Talks f turns h × gives h None g

  -- Each feed, the first as that of session k, gave asks which are answered so in the journal, was told just those
  -- answers, and then gave nothing more; they stand in their order. (own)
  abbrev pub AllFed : State → List Entry → List Entry → ℕ → List F → List F → Type 0
  AllFed start before since k [] [] = Unit {0}
  AllFed start before since k (f ∷ fs) (g ∷ gs) =
      ((turns : List Turn) × Fed f turns g × AreTold start k before since (in_turns turns))
      × AllFed start before since (k + 1) fs gs
  AllFed start before since k fs gs = ⊥
