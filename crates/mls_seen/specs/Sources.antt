-- What is seen of files that were read, whole or from a cut on.
use Rattle.std.specs.Prelude.{ℕ, Option, None}
use Rattle.mls_requests.specs.declared.entry.Entry.{Entry}
use Rattle.mls_journal.specs.EntryText.{journal_text}
use Rattle.mls_seen.specs.Files.{Seen, place_of}
use Rattle.mls_seen.specs.Seeing.{seen_behind}
use Rattle.mls_seen.specs.declared.source.Source.{Source}
use Rattle.mls_seen.specs.declared.source.Source.TheVariants as source

-- What is seen: of a whole journal what a replay has of it, of one from a cut on what its monitor has. (own)
abbrev pub seen_of : Source → Option ℕ → Option Entry → Seen
seen_of (source.Whole file replay) at next = record {
  files = record { start = file.items; cut = None; journal = journal_text replay.entries };
  at = at;
  names = replay.names;
  start = replay.start;
  state = replay.state;
  number = place_of at replay.entries;
  next = next;
}
seen_of (source.Behind seeing) at next = seen_behind seeing at next
