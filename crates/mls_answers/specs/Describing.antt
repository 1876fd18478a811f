-- What is told of a subject or of an object over the files of a history.
use Rattle.std.specs.Prelude.{ℕ, Bool, true, false, List, Option, Some, None}
use Rattle.mls_about.specs.About.{TellsNamed}
use Rattle.mls_marks.specs.declared.row.Row.{Row}
use Rattle.mls_replay.specs.Replays.{Replayed}
use Rattle.mls_requests.specs.declared.entry.Entry.{Entry}
use Rattle.mls_rows.specs.declared.form.Form.{Form}
use Rattle.mls_rows.specs.declared.listing.Listing.{Listing}
use Rattle.mls_seen.specs.Files.{place_of}

-- Of how many entries it is told, where there is a journal: of those before the state that is looked at. (own)
abbrev pub number_told : Bool → Option ℕ → List Entry → Option ℕ
number_told true at entries = Some (place_of at entries)
number_told false at entries = None

-- An answer tells in a form of what a word names, in the state that a replay looks at, and where there is a journal of
-- the entries before it. (own)
abbrev pub TellsAbout : Form → Replayed → Option ℕ → Bool → Option (List Row) → List ℕ → Bool → Listing → Type 0
TellsAbout form r at journal rows word is_object answer =
    TellsNamed form r (number_told journal at r.entries) rows word is_object answer.bytes.items answer.is_positive
