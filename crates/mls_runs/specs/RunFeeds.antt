-- What the feeds of a run in threads are made of, and what they come to.
use Rattle.std.specs.Prelude.{◌≡◌, ℕ, ◌+◌, Bool, false, List, [], ◌∷◌, ◌++◌, length, Option, Some, None, if◌then◌else◌}
use Rattle.mls_state.specs.State.{State}
use Rattle.mls_requests.specs.declared.entry.Entry.{Entry}
use Rattle.mls_journal.specs.EntryText.{journal_text}
use Rattle.mls_lines.specs.Names.{Names}
use Rattle.mls_monitor.specs.Journal.{IsLegal}
use Rattle.mls_monitor.specs.Feeds.{AllFed}
use Rattle.mls_monitor.specs.Entries.{AllBelow}
use Rattle.mls_scripts.specs.Fed.{Gives, GivesAhead, Takes}
use Rattle.mls_scripts.specs.Feed.{ScriptFeed}
use Rattle.mls_replay.specs.RunTexts.{heading}
use Rattle.mls_replay.specs.RunTexts.{ending}

-- The feed of a script, which was asked nothing so far. (own)
pub record IsFeedOf (names : Names) (script : List ℕ) (feed : ScriptFeed) : Type 0 where
  pub names_are : feed.names ≡ names
  pub rest : feed.rest ≡ script
  pub vars : feed.vars ≡ []
  pub text : feed.text ≡ []

-- The feeds of scripts, in their order. (own)
abbrev pub AreFeedsOf : Names → List (List ℕ) → List ScriptFeed → Type 0
AreFeedsOf names [] [] = Unit {0}
AreFeedsOf names (script ∷ scripts) (feed ∷ feeds) = IsFeedOf names script feed × AreFeedsOf names scripts feeds
AreFeedsOf names scripts feeds = ⊥

-- What feeds have to say that were run in threads, the first of these as session k: each its heading and its answers.
-- (own)
unfoldable pub fed_texts : ℕ → List ScriptFeed → List ℕ
fed_texts k [] = []
fed_texts k (f ∷ feeds) = heading k ++ f.text ++ fed_texts (k + 1) feeds

-- No feed says that an allocation failed. (own)
abbrev pub NoneFailed : List ScriptFeed → Type 0
NoneFailed [] = Unit {0}
NoneFailed (f ∷ feeds) = (f.failed ≡ false) × NoneFailed feeds

-- What a run of feeds in threads leaves over a start: a journal which is legal from it, with entries of the feeds'
-- sessions alone; each feed was asked to its end and told as the journal has it; what is printed is what they have to
-- say, in their order, and how many entries the journal has; and the journal's text is there just where it was asked
-- for. (own)
abbrev pub LeavesFeeds : State → List ScriptFeed → Bool → List ℕ → Option (List ℕ) → Type 0
LeavesFeeds start feeds asked output journal =
    (entries : List Entry) × (left : List ScriptFeed) × IsLegal start entries × AllBelow (length feeds) entries
    × AllFed Gives GivesAhead Takes start [] entries 0 feeds left
    × NoneFailed left × (output ≡ fed_texts 0 left ++ ending (length entries))
    × (journal ≡ (if asked then Some (journal_text entries) else None))
