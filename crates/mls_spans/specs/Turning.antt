-- What is kept of the turns of gets, and what an entry makes of it.
use Rattle.std.specs.Prelude.{◌≡◌, ℕ, ◌<◌, Bool, true, false, not, ◌&&◌, ◌==◌, List, [], ◌∷◌, ◌++◌, if◌then◌else◌}
use Rattle.std.specs.Prelude.{map, filter, length, get_or, Option, Some, None}
use Rattle.std.specs.FinSet as set
use Rattle.mls_requests.specs.declared.action.Action.{Action}
use Rattle.mls_requests.specs.declared.action.Action.TheVariants.{Get, Release, Give, Rescind, Create, Delete}
use Rattle.mls_requests.specs.declared.action.Action.TheVariants.{SubjectLevel, ObjectLevel}
use Rattle.mls_requests.specs.declared.entry.Entry.{Entry}
use Rattle.mls_requests.specs.declared.reply.Reply.{Reply}
use Rattle.mls_requests.specs.declared.reply.Reply.TheVariants.{Yes, Created, No, Undefined}
use Rattle.mls_monitor.specs.Journal.{fold}
use Rattle.mls_state.specs.State.{State}
use Rattle.mls_tables.specs.Mode.{mode_number}
use Rattle.mls_tables.specs.Triples.{Triple}
use Rattle.mls_tables.specs.declared.limits.TheConstants.{MAX_SUBJECTS}
use Rattle.mls_tables.specs.declared.mode.Mode.{Mode}
use Rattle.mls_spans.specs.Asked.{has_window}
use Rattle.mls_spans.specs.Windows.{would_grant, turned, turns, between}
use Rattle.mls_spans.specs.declared.reach.Reach.{Reach}
use Rattle.mls_spans.specs.declared.reach.Reach.TheVariants.{Nobody, Just, Everyone}
use Rattle.mls_spans.specs.declared.states.States.{States}
use Rattle.mls_spans.specs.declared.turn.Turn.{Turn}
use Rattle.mls_spans.specs.declared.turning.Turns.{Turns}
use Rattle.mls_spans.specs.declared.window.Window.{Window}

-- An access is one of a subject in a mode. (own)
abbrev pub is_one_of : ℕ → Mode → Triple → Bool
is_one_of s x t = t.0 == s && mode_number t.2 == mode_number x

-- A turn is one of the get of an access, whatever its object. (own)
abbrev pub is_turn_of : Triple → Turn → Bool
is_turn_of t turn = is_one_of turn.subject turn.mode t

-- Where the get of an access turns, of some turns. (own)
abbrev pub turns_of : List Turn → Triple → List (Option ℕ)
turns_of found t = map (λ turn. turn.number) (filter (is_turn_of t) found)

-- What is kept of an access: whether its get would be granted now, and where it turned. (own)
abbrev pub kept : Turns → Triple → Bool × List (Option ℕ)
kept m t = (set.contains (get_or m.modes.items t.0 set.empty) t.2, turns_of m.turns.items t)

-- What is kept of an access once a state is looked at, at this place. (own)
abbrev pub settled : State → Option ℕ → Triple → Bool × List (Option ℕ) → Bool × List (Option ℕ)
settled w place t known = (would_grant w t, known.1 ++ turned known.0 (would_grant w t) place)

-- What is kept of an access, where it is looked at or not. (own)
abbrev pub settled_where : Bool → State → Option ℕ → Triple → Bool × List (Option ℕ) → Bool × List (Option ℕ)
settled_where looked w place t known = if looked then settled w place t known else known

-- A subject is one of those that are reached. (own)
abbrev pub is_reached : Reach → ℕ → Bool
is_reached Nobody s = false
is_reached (Just t) s = s == t
is_reached Everyone s = true

-- All subjects where this is so, else none. (own)
abbrev pub everyone_where : Bool → Reach
everyone_where so = if so then Everyone else Nobody

-- A subject where this is so, else none. (own)
abbrev pub just_where : Bool → ℕ → Reach
just_where so s = if so then Just s else Nobody

-- Two answers are not the same. (own)
abbrev pub differ : Bool → Bool → Bool
differ a b = if a then not b else b

-- A reply tells that an object was made. (own)
abbrev pub has_made : Reply → ℕ → Bool
has_made Yes o = false
has_made (Created p) o = o == p
has_made (No reason) o = false
has_made Undefined o = false

-- The subjects whose gets of an object may turn where an action of a subject is answered so: those of which something
-- changes that the answer rests on. It is told whether the object began or ended to be active. (own)
abbrev pub reach : Reply → Bool → ℕ → ℕ → Action → Reach
reach answer changed o s (Get x p) = Nobody
reach answer changed o s (Release x p) = Nobody
reach answer changed o s (Give x t p) = just_where (o == p) t
reach answer changed o s (Rescind x t p) = just_where (o == p) t
reach answer changed o s (Create p l i) = everyone_where (has_made answer o)
reach answer changed o s (Delete p) = everyone_where changed
reach answer changed o s (SubjectLevel l) = Just s
reach answer changed o s (ObjectLevel p l) = everyone_where (o == p)

-- Of each access to an object that there can be, just whether its get would be granted in the state that entries lead
-- to, and where it turned, is kept. (own)
pub record AreTurns (v : State) (entries : List Entry) (m : Turns) : Type 0 where
  pub subjects : length m.modes.items ≡ MAX_SUBJECTS
  pub each : (t : Triple) → t.1 ≡ m.object → t.0 < MAX_SUBJECTS
      → kept m t ≡ (would_grant (fold v entries) t, turns v entries t)

-- The turn that a span is open from, where one is. (own)
abbrev pub place_of : Option Turn → List (Option ℕ)
place_of None = []
place_of (Some turn) = turn.number ∷ []

-- Of what lies between turns so far the spans that have one of some states were found, but for one that is still open:
-- whatever turns follow. (own)
abbrev pub Pairs : States → List (Option ℕ) → List Window → Option Turn → Type 0
Pairs states places found opened =
    (rest : List (Option ℕ))
    → filter (has_window states) (between (places ++ rest))
    ≡ found ++ filter (has_window states) (between (place_of opened ++ rest))

-- The spans in which the get of an access would be granted, by where gets turn, that have one of some states. (own)
abbrev pub found_seen : List Turn → States → Triple → List Window
found_seen found states t = filter (has_window states) (between (turns_of found t))
