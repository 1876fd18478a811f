-- A start without the permissions that were never granted.
use Rattle.std.specs.Prelude.{◌≡◌, ℕ, Bool, not, ◌&&◌, ◌⊎◌, List, filter, Option, Some}
use Rattle.std.specs.FinSet as set
use Rattle.std.specs.List.{list_any}
use Rattle.mls_lines.specs.Names.{Names}
use Rattle.mls_replay.specs.Replays.{Replayed}
use Rattle.mls_replay.specs.declared.command.CommandFault.TheVariants.{Memory}
use Rattle.mls_replay.specs.declared.question_fault.QuestionFault.TheVariants.{Files}
use Rattle.mls_snapshots.specs.Starts.{IsStartBy}
use Rattle.mls_spans.specs.Asked.{Choice, Words, IsChosen, choice_fault}
use Rattle.mls_spans.specs.UsageChosen.{chosen_seen}
use Rattle.mls_spans.specs.Uses.{is_unused}
use Rattle.mls_spans.specs.declared.states.States.{States}
use Rattle.mls_spans.specs.declared.usage.Usage.{Usage}
use Rattle.mls_state.specs.State.{State}
use Rattle.mls_tables.specs.Triples.{Triple, is_triple}
use Rattle.mls_answers.specs.Histories.{states_from}
use Rattle.mls_answers.specs.Starts.{HasLongStart}
use Rattle.mls_answers.specs.declared.snapshot_fault.SnapshotFault.{SnapshotFault}
use Rattle.mls_answers.specs.declared.snapshot_fault.SnapshotFault.TheVariants.{Question, TooLong, Differs}

-- A triple is one of some permissions. (own)
abbrev pub is_among : List Usage → Triple → Bool
is_among found t = list_any (λ u. is_triple t u.access) found

-- A cell is left out of a start: it is one of these permissions, and the start doesn't open with an access of it. (own)
abbrev pub is_left_out : List Usage → State → Triple → Bool
is_left_out unused v t = is_among unused t && not (set.contains v.accesses t)

-- A state is another one without those cells of its matrix; all else is as it was. (own)
pub record IsTightened (unused : List Usage) (v w : State) : Type 0 where
  pub rest : w ≡ record v { matrix = w.matrix }
  pub cells : (t : Triple) → set.contains w.matrix t ≡ (set.contains v.matrix t && not (is_left_out unused v t))

-- The permissions of some states of a replay that are asked for and were never granted. (own)
abbrev pub unused_seen : Replayed → Choice → States → List Usage
unused_seen r c states = filter is_unused (chosen_seen r c states)

-- A state is the one that the start of a replay opens with, without the permissions of some states that a filter asks
-- for and that were never granted. (own)
pub record IsTightStart (r : Replayed) (states : States) (words : Words) (w : State) : Type 0 where
  pub choice : Choice
  pub chosen : IsChosen r.names words choice
  pub tightened : IsTightened (unused_seen r choice states) r.start w

-- A text is a start file that opens with such a state, but for an order of its objects. (own)
abbrev pub Tightens : Replayed → States → Words → List ℕ → List ℕ → Type 0
Tightens r states words order text = (w : State) × IsTightStart r states words w × IsStartBy r.names w order text

-- The same of the states from the one on that a replay looks at, up to another, where one is told. (own)
abbrev pub TightensFrom : Replayed → Option ℕ → Option ℕ → Words → List ℕ → List ℕ → Type 0
TightensFrom r at last words order text = Tightens r (states_from r at last) words order text

-- Why there is no such start file: memory ran out, or a filter's word names nothing; one of such a state is too long;
-- or it is only said that what was written doesn't open with it. (own)
abbrev pub RefusesTight : Replayed → States → Words → SnapshotFault → Type 0
RefusesTight r states words (Question cause) = (cause ≡ Files Memory) ⊎ (choice_fault r.names words ≡ Some cause)
RefusesTight r states words TooLong = (w : State) × IsTightStart r states words w × HasLongStart r.names w
RefusesTight r states words Differs = Unit {0}

-- The same of the states from the one on that a replay looks at. (own)
abbrev pub RefusesTightFrom : Replayed → Option ℕ → Option ℕ → Words → SnapshotFault → Type 0
RefusesTightFrom r at last words fault = RefusesTight r (states_from r at last) words fault
