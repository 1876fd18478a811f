-- Which permissions are asked for, and what is listed of their uses.
use Rattle.std.specs.Prelude.{◌≡◌, ◌==◌, ◌++◌, Bool, true, false, ◌&&◌, List, length, filter, Option}
use Rattle.mls_lines.specs.Names.{Names}
use Rattle.mls_marks.specs.declared.row.Row.{Row}
use Rattle.mls_replay.specs.Replays.{Replayed}
use Rattle.mls_rows.specs.declared.form.Form.{Form}
use Rattle.mls_rows.specs.declared.listing.Listing.{Listing}
use Rattle.mls_tables.specs.Triples.{Triple}
use Rattle.mls_spans.specs.Asked.{Choice, Words, IsChosen, equals, is_mode}
use Rattle.mls_spans.specs.UsageLines.{usages_bytes, ending_row}
use Rattle.mls_spans.specs.UsageListings.{count_unused, usages_seen}
use Rattle.mls_spans.specs.Uses.{is_unused}
use Rattle.mls_spans.specs.declared.states.States.{States}
use Rattle.mls_spans.specs.declared.usage.Usage.{Usage}

-- An access is of the subject, to the object and in the mode that are asked for, where these are. (own)
abbrev pub is_about : Choice → Triple → Bool
is_about c t = equals c.subject t.0 && (equals c.object t.1 && is_mode c.mode t.2)

-- A permission is asked for. (own)
abbrev pub is_of : Choice → Usage → Bool
is_of c usage = is_about c usage.access

-- Those of some permissions that are asked for. (own)
abbrev pub chosen : Choice → List Usage → List Usage
chosen c found = filter (is_of c) found

-- The permissions of some states of a replay that are asked for. (own)
abbrev pub chosen_seen : Replayed → Choice → States → List Usage
chosen_seen r c states = chosen c (usages_seen r states)

-- Those of some permissions that have rows: all, or those that were never granted. (own)
abbrev pub shown : Bool → List Usage → List Usage
shown true found = filter is_unused found
shown false found = found

-- The rows of permissions in a form, with times by the rows of marks, where there are some, of all or of those that
-- were never granted; then how many the permissions are, and how many of them were never granted. It is positive where
-- that is none. (own)
pub record IsUsageOf (form : Form) (names : Names) (rows : Option (List Row)) (never : Bool) (found : List Usage)
    (listing : Listing) : Type 0 where
  pub bytes : listing.bytes.items
      ≡ usages_bytes form names rows (shown never found) ++ ending_row form (length found) (count_unused found)
  pub positive : listing.is_positive ≡ (count_unused found == 0)

-- The permissions of some states of a replay that a filter asks for are listed, and how they were used. (own)
abbrev pub ListsChosen : Form → Replayed → Option (List Row) → States → Words → Bool → Listing → Type 0
ListsChosen form r rows states words never listing =
    (c : Choice) × IsChosen r.names words c × IsUsageOf form r.names rows never (chosen_seen r c states) listing
