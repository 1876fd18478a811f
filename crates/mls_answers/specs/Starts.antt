-- The start files of states that are seen, and why there are none.
use Rattle.std.specs.Prelude.{◌≡◌, ◌<◌, ℕ, List, length}
use Rattle.mls_lines.specs.Names.{Names}
use Rattle.mls_replay.specs.declared.checking.TheConstants.{START_LIMIT}
use Rattle.mls_replay.specs.declared.command.CommandFault.TheVariants.{Memory}
use Rattle.mls_replay.specs.declared.question_fault.QuestionFault.TheVariants.{Files}
use Rattle.mls_snapshots.specs.Starts.{IsStartBy}
use Rattle.mls_state.specs.State.{State}
use Rattle.mls_answers.specs.declared.snapshot_fault.SnapshotFault.{SnapshotFault}
use Rattle.mls_answers.specs.declared.snapshot_fault.SnapshotFault.TheVariants.{Question, TooLong, Differs}

-- There is a start file of a state that has more bytes than a start file may have. (own)
pub record HasLongStart (names : Names) (v : State) : Type 0 where
  pub order : List ℕ
  pub text : List ℕ
  pub is : IsStartBy names v order text
  pub long : START_LIMIT < length text

-- Why there is no start file of a state: memory ran out; one of that state is too long; or it is only said that what
-- was written doesn't open with it. (own)
abbrev pub RefusesStart : Names → State → SnapshotFault → Type 0
RefusesStart names v (Question cause) = cause ≡ Files Memory
RefusesStart names v TooLong = HasLongStart names v
RefusesStart names v Differs = Unit {0}
