-- Why nothing is seen of a journal that was looked through from a cut on.
use Rattle.std.specs.Prelude.{◌≡◌, ◌≢◌, ℕ, length, Option, None, Some}
use Rattle.mls_requests.specs.declared.entry.Entry.{Entry as JournalEntry}
use Rattle.mls_monitor.specs.Journal.{Monitor}
use Rattle.mls_monitor.specs.Replay.{IsRefused}
use Rattle.mls_monitor.specs.declared.replay_fault.ReplayFault.TheVariants as replayed
use Rattle.mls_replay.specs.declared.command.CommandFault.TheVariants as refused
use Rattle.mls_replay.specs.declared.question_fault.QuestionFault.{QuestionFault}
use Rattle.mls_replay.specs.declared.question_fault.QuestionFault.TheVariants.{Files, AtMost, NoEntry, Line}
use Rattle.mls_replay.specs.declared.question_fault.QuestionFault.TheVariants.{Subject, Object}

-- The entries are as many as the fault tells, and another number was asked for; or the next entry isn't as the rules
-- have it, or memory ran out. (own)
abbrev pub RefusesBehind : Monitor → Option ℕ → Option JournalEntry → QuestionFault → Type 0
RefusesBehind m None next (AtMost most) = ⊥
RefusesBehind m (Some at) next (AtMost most) = (most ≡ length m.entries) × (at ≢ most)
RefusesBehind m at None (Files cause) = ⊥
RefusesBehind m at (Some e) (Files (refused.Replay (replayed.Number place))) =
    IsRefused m.start m.entries e (replayed.Number place)
RefusesBehind m at (Some e) (Files (refused.Replay (replayed.Differs place expected))) =
    IsRefused m.start m.entries e (replayed.Differs place expected)
RefusesBehind m at (Some e) (Files (refused.Replay replayed.Memory)) = ⊥
RefusesBehind m at (Some e) (Files (refused.Load cause)) = ⊥
RefusesBehind m at (Some e) (Files (refused.Entry line cause)) = ⊥
RefusesBehind m at (Some e) (Files refused.Thread) = ⊥
RefusesBehind m at (Some e) (Files refused.Memory) = Unit {0}
RefusesBehind m at next (NoEntry number) = ⊥
RefusesBehind m at next (Line cause) = ⊥
RefusesBehind m at next Subject = ⊥
RefusesBehind m at next Object = ⊥
