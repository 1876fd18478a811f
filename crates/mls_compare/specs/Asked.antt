-- Which entries of a comparison over a journal are told of, and how.
use Rattle.std.specs.Prelude.{ℕ, ◌==◌, Bool, true, false, ◌&&◌, nat_le, List, ◌∷◌, filter, length, map}
use Rattle.std.specs.Prelude.{Option, Some, None}
use Rattle.mls_lines.specs.Names.{Names}
use Rattle.mls_rows.specs.declared.form.Form.{Form}
use Rattle.mls_rows.specs.declared.listing.Listing.{Listing}
use Rattle.mls_differences.specs.Breaking.{is_wanted}
use Rattle.mls_differences.specs.Counting.{counts}
use Rattle.mls_differences.specs.Differences.{IsListing}
use Rattle.mls_differences.specs.Scoped.{IsSummed}
use Rattle.mls_differences.specs.declared.case.Case.{Case}
use Rattle.mls_differences.specs.declared.count.Count.{Count}
use Rattle.mls_differences.specs.declared.count.Count.TheVariants.{Entries}
use Rattle.mls_compare.specs.Entries.{entries_bytes}
use Rattle.mls_compare.specs.declared.asked.Asked.{Asked}
use Rattle.mls_compare.specs.declared.entry_row.EntryRow.{EntryRow}

-- A number is no less than the first that is asked for, where one is. (own)
abbrev pub is_from : Option ℕ → ℕ → Bool
is_from None n = true
is_from (Some first) n = nat_le first n

-- A number is no greater than the last that is asked for, where one is. (own)
abbrev pub is_to : Option ℕ → ℕ → Bool
is_to None n = true
is_to (Some last) n = nat_le n last

-- An entry that a second start answers otherwise is asked for: by the replies, and by its number. (own)
abbrev pub is_asked : Asked → EntryRow → Bool
is_asked asked row =
    is_wanted asked.scope.broken row.entry.reply row.second
    && (is_from asked.from row.entry.number && is_to asked.to row.entry.number)

-- The entries that are asked for. (own)
abbrev pub asked_rows : Asked → List EntryRow → List EntryRow
asked_rows asked rows = filter (is_asked asked) rows

-- An entry, as it is counted. (own)
abbrev pub entry_case : EntryRow → Case
entry_case row = record { subject = row.entry.request.subject; first = row.entry.reply; second = row.second }

-- The rows of a summary of entries. (own)
abbrev pub summary_of : List EntryRow → List Count
summary_of rows = Entries (length rows) ∷ counts (map entry_case rows)

-- An answer tells of entries, row by row or as a summary. (own)
abbrev pub TellsEntriesBy : Bool → Form → Names → List EntryRow → Listing → Type 0
TellsEntriesBy false form names rows listing = IsListing (entries_bytes form names rows) listing
TellsEntriesBy true form names rows listing = IsSummed form names (length rows == 0) (summary_of rows) listing

-- An answer tells of those of some entries that are asked for. (own)
abbrev pub TellsEntries : Asked → Form → Names → List EntryRow → Listing → Type 0
TellsEntries asked form names rows listing =
    TellsEntriesBy asked.scope.summary form names (asked_rows asked rows) listing
