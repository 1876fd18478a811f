-- What is listed of permissions and their uses.
use Rattle.std.specs.Prelude.{◌≡◌, ℕ, ◌==◌, List, [], length, filter, take, drop, Option, Some, None}
use Rattle.std.specs.Prelude.{◌++◌, if◌then◌else◌}
use Rattle.mls_lines.specs.Names.{Names}
use Rattle.mls_marks.specs.declared.row.Row.{Row}
use Rattle.mls_requests.specs.declared.entry.Entry.{Entry}
use Rattle.mls_replay.specs.Replays.{Replayed}
use Rattle.mls_rows.specs.declared.form.Form.{Form}
use Rattle.mls_rows.specs.declared.listing.Listing.{Listing}
use Rattle.mls_spans.specs.Asked.{is_some_state}
use Rattle.mls_spans.specs.Trust.{trust_bytes, trust_uses}
use Rattle.mls_spans.specs.UsageLines.{usages_bytes, ending_row}
use Rattle.mls_spans.specs.Uses.{is_unused, usages}
use Rattle.mls_spans.specs.declared.states.States.{States}
use Rattle.mls_spans.specs.declared.trust.TrustUse.{TrustUse}
use Rattle.mls_spans.specs.declared.usage.Usage.{Usage}

-- The entries below a number, where one is told, or else all. An entry's number is its place. (own)
abbrev pub up_to : Option ℕ → List Entry → List Entry
up_to None entries = entries
up_to (Some last) entries = take last entries

-- The entries between the first and the last of some states. (own)
abbrev pub entries_between : States → List Entry → List Entry
entries_between states entries = drop states.first (up_to states.last entries)

-- The usages of the permissions of some states of a replay; of none where there is no such state. (own)
abbrev pub usages_seen : Replayed → States → List Usage
usages_seen r states = if is_some_state states then usages r.state (entries_between states r.entries) else []

-- How many of some permissions were never granted. (own)
abbrev pub count_unused : List Usage → ℕ
count_unused found = length (filter is_unused found)

-- The uses of trust in some states of a replay; none where there is no such state. (own)
abbrev pub trust_seen : Replayed → States → List TrustUse
trust_seen r states = if is_some_state states then trust_uses r.state (entries_between states r.entries) else []

-- Permissions in a form, with times by the rows of marks, where there are some, the uses of trust, then how many
-- permissions there are and how many of them were never granted; it is positive where that is none. (own)
pub record IsUsage (form : Form) (names : Names) (rows : Option (List Row)) (found : List Usage)
    (trust : List TrustUse) (listing : Listing) : Type 0 where
  pub bytes : listing.bytes.items ≡ usages_bytes form names rows found ++ trust_bytes form names rows trust
      ++ ending_row form (length found) (count_unused found)
  pub positive : listing.is_positive ≡ (count_unused found == 0)
