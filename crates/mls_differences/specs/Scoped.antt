-- What is told of two starts in a scope: all, only what the second breaks, or how much that is.
use Rattle.std.specs.Prelude.{◌≡◌, ◌==◌, ◌&&◌, ◌+◌, ℕ, Bool, true, false, List, [], ◌∷◌, ◌++◌, filter, length, map}
use Rattle.std.specs.List.{flat_map}
use Rattle.mls_lines.specs.Names.{Names}
use Rattle.mls_rows.specs.declared.form.Form.{Form}
use Rattle.mls_rows.specs.declared.listing.Listing.{Listing}
use Rattle.mls_start_file.specs.Ties.{Loaded}
use Rattle.mls_tables.specs.declared.limits.TheConstants.{MAX_SUBJECTS, MAX_OBJECTS}
use Rattle.mls_differences.specs.Breaking.{is_wanted}
use Rattle.mls_differences.specs.Changes.{changes}
use Rattle.mls_differences.specs.Counterparts.{shared}
use Rattle.mls_differences.specs.Counting.{counts, counts_bytes}
use Rattle.mls_differences.specs.Differences.{IsListing, rows_bytes, starts_bytes}
use Rattle.mls_differences.specs.Gets.{get_bytes, gets_rows}
use Rattle.mls_differences.specs.Singles.{singles}
use Rattle.mls_differences.specs.declared.case.Case.{Case}
use Rattle.mls_differences.specs.declared.change.Change.{Change}
use Rattle.mls_differences.specs.declared.count.Count.{Count}
use Rattle.mls_differences.specs.declared.count.Count.TheVariants.{Changes, Gets}
use Rattle.mls_differences.specs.declared.get_row.GetRow.{GetRow}
use Rattle.mls_differences.specs.declared.scope.Scope.{Scope}
use Rattle.mls_differences.specs.declared.sections.Differences.{Differences}
use Rattle.mls_differences.specs.declared.shared.Shared.{Shared}
use Rattle.mls_differences.specs.declared.single.Single.{Single}

-- The subjects that two starts share. (own)
abbrev pub subjects_of : Loaded → Loaded → List Shared
subjects_of a b = shared a.names.subjects b.names.subjects MAX_SUBJECTS

-- The objects that two starts share. (own)
abbrev pub objects_of : Loaded → Loaded → List Shared
objects_of a b = shared a.names.objects b.names.objects MAX_OBJECTS

-- What two starts both have, but otherwise. (own)
abbrev pub changes_of : Loaded → Loaded → List Change
changes_of a b = changes a.names b.names a.start b.start (subjects_of a b) (objects_of a b)

-- What one of two starts alone has. (own)
abbrev pub singles_of : Loaded → Loaded → List Single
singles_of a b = singles a.names b.names a.start b.start (subjects_of a b) (objects_of a b)

-- The gets that two starts answer otherwise. (own)
abbrev pub gets_of : Loaded → Loaded → List GetRow
gets_of a b = gets_rows a.start b.start (subjects_of a b) (objects_of a b)

-- A get is asked for: each, or only one that the second start breaks. (own)
abbrev pub is_wanted_get : Bool → GetRow → Bool
is_wanted_get broken row = is_wanted broken row.first row.second

-- The gets that are asked for. (own)
abbrev pub wanted_gets : Bool → List GetRow → List GetRow
wanted_gets broken rows = filter (is_wanted_get broken) rows

-- A get, as it is counted. (own)
abbrev pub get_case : GetRow → Case
get_case row = record { subject = row.subject; first = row.first; second = row.second }

-- What is told row by row: all that differs, or only the gets that the second start breaks. (own)
abbrev pub shown_bytes : Bool → Form → List ℕ → List ℕ → Loaded → Loaded → List ℕ
shown_bytes false form file other a b = starts_bytes form file other a b
shown_bytes true form file other a b = flat_map (get_bytes form a.names) (wanted_gets true (gets_of a b))

-- The first rows of a summary: how much else differs, where that is asked for, and how many gets do. (own)
abbrev pub heads : Bool → ℕ → ℕ → List Count
heads true changed gets = Gets gets ∷ []
heads false changed gets = Changes changed ∷ Gets gets ∷ []

-- The rows of a summary of so much else that differs and of these gets. (own)
abbrev pub summary_of : Bool → ℕ → List GetRow → List Count
summary_of broken changed gets = heads broken changed (length gets) ++ counts (map get_case gets)

-- Whether nothing differs: nothing else, where that is asked for, and no get. (own)
abbrev pub is_same : Bool → ℕ → ℕ → Bool
is_same true changed gets = gets == 0
is_same false changed gets = changed == 0 && gets == 0

-- An answer has these rows of a summary in a form, and is a positive one where nothing differs. (own)
pub record IsSummed (form : Form) (names : Names) (same : Bool) (rows : List Count) (listing : Listing) : Type 0 where
  pub bytes : listing.bytes.items ≡ counts_bytes form names rows
  pub positive : listing.is_positive ≡ same

-- An answer sums up so much else that differs and these gets. (own)
abbrev pub SumsUp : Form → Names → Bool → ℕ → List GetRow → Listing → Type 0
SumsUp form names broken changed gets listing =
    IsSummed form names (is_same broken changed (length gets)) (summary_of broken changed gets) listing

-- How much else than gets differs between two starts. (own)
abbrev pub changed : Loaded → Loaded → ℕ
changed a b = length (changes_of a b) + length (singles_of a b)

-- An answer tells of two starts that files of these words say, row by row or as a summary. (own)
abbrev pub TellsBy : Bool → Bool → Form → List ℕ → List ℕ → Loaded → Loaded → Listing → Type 0
TellsBy false broken form file other a b listing = IsListing (shown_bytes broken form file other a b) listing
TellsBy true broken form file other a b listing =
    SumsUp form a.names broken (changed a b) (wanted_gets broken (gets_of a b)) listing

-- An answer tells of two starts what is asked for. (own)
abbrev pub TellsStarts : Scope → Form → List ℕ → List ℕ → Loaded → Loaded → Listing → Type 0
TellsStarts scope form file other a b listing = TellsBy scope.summary scope.broken form file other a b listing

-- What is told row by row of differences: all, or only the gets that the second start breaks. (own)
abbrev pub found_bytes : Bool → Form → List ℕ → List ℕ → Names → Names → Differences → List ℕ
found_bytes false form file other a b d = rows_bytes form file other a b d
found_bytes true form file other a b d = flat_map (get_bytes form a) (wanted_gets true d.gets.items)

-- An answer tells of differences, row by row or as a summary. (own)
abbrev pub TellsFoundBy :
    Bool → Bool → Form → List ℕ → List ℕ → Names → Names → Differences → Listing → Type 0
TellsFoundBy false broken form file other a b d listing = IsListing (found_bytes broken form file other a b d) listing
TellsFoundBy true broken form file other a b d listing =
    SumsUp form a broken (length d.changes.items + length d.singles.items) (wanted_gets broken d.gets.items) listing

-- An answer tells of differences what is asked for. (own)
abbrev pub TellsFound : Scope → Form → List ℕ → List ℕ → Names → Names → Differences → Listing → Type 0
TellsFound scope form file other a b d listing =
    TellsFoundBy scope.summary scope.broken form file other a b d listing
