-- How permissions were used, as the page tells it: by subject, and each of them.
use Rattle.std.specs.Prelude.{◌≡◌, ℕ, ◌==◌, Bool, not, List, [], ◌∷◌, ◌++◌, codes, filter, length, map, max, min}
use Rattle.std.specs.Prelude.{Option, Some, None, take, if◌then◌else◌}
use Rattle.std.specs.Fmt.{decimal}
use Rattle.std.specs.List.{fold}
use Rattle.mls_groups.specs.Weights.{IsByWeight}
use Rattle.mls_lines.specs.Names.{Names}
use Rattle.mls_marks.specs.declared.row.Row.{Row}
use Rattle.mls_markup.specs.Drafts.{Draft, added}
use Rattle.mls_markup.specs.Trees.{Forest, End, Words, Both, all_of, joined, plain}
use Rattle.mls_markup.specs.declared.tag.Tag.TheVariants as tag
use Rattle.mls_page.specs.Gets.{denied_of, gets_of, granted_of, number_where, titled}
use Rattle.mls_page.specs.Moments.{last_cell}
use Rattle.mls_page.specs.Runs.{runs_by}
use Rattle.mls_page.specs.Sections.{listed, on_line}
use Rattle.mls_page.specs.Shown.{folded, heaviest, shown_at}
use Rattle.mls_page.specs.Tables.{access_cell, column, name_cell, number_cell, row, table}
use Rattle.mls_page.specs.declared.gets.Gets.{Gets}
use Rattle.mls_page.specs.declared.section.TheConstants.{LISTED}
use Rattle.mls_page.specs.declared.usage.Total.{Total}
use Rattle.mls_spans.specs.Uses.{is_unused}
use Rattle.mls_spans.specs.UsageLines.{permissions_words}
use Rattle.mls_spans.specs.declared.usage.Usage.{Usage}
use Rattle.mls_wording.specs.Wording.{subject_text}

-- The later of two entries, where there are such. (own)
abbrev pub later : Option ℕ → Option ℕ → Option ℕ
later None other = other
later (Some a) None = Some a
later (Some a) (Some b) = Some (max a b)

-- The last of the entries that got a permission, or were denied one. (own)
abbrev pub last_of : List Usage → Option ℕ
last_of usages = fold (λ last u. later last u.uses.last) None usages

-- How many of some permissions were never granted. (own)
abbrev pub unused_count : List Usage → ℕ
unused_count usages = length (filter is_unused usages)

-- Whose a permission is, and whose those of a run are. (own)
abbrev pub holder : Usage → ℕ
holder u = u.access.0

abbrev pub holder_of : List Usage → ℕ
holder_of [] = 0
holder_of (u ∷ usages) = holder u

-- How the permissions of a subject were used. (own)
abbrev pub total_of : List Usage → Total
total_of usages = record {
  subject = holder_of usages;
  permissions = length usages;
  unused = unused_count usages;
  granted = granted_of usages;
  denied = denied_of usages;
  last = last_of usages;
}

-- How those of each subject were used: the permissions of a subject stand together. (own)
abbrev pub totals : List Usage → List Total
totals usages = map total_of (runs_by holder usages)

-- The row of a subject. (own)
unfoldable pub total_row : Names → Option (List Row) → Gets → Total → Forest
total_row names marks all t = row (joined (
    name_cell (subject_text names t.subject)
    ∷ number_cell t.permissions
    ∷ number_cell t.unused
    ∷ number_where all.granted t.granted
    ∷ number_where all.denied t.denied
    ∷ last_cell marks t.last (codes "-")
    ∷ []))

-- The headings of its columns. (own)
abbrev pub total_titles : Gets → List (List ℕ)
total_titles all =
    codes "Subject"
    ∷ codes "Permissions"
    ∷ codes "Never granted"
    ∷ titled (codes "Granted") all.granted
    ∷ titled (codes "Denied") all.denied
    ∷ codes "Last entry"
    ∷ []

-- The table of the first subjects of an order. (own)
unfoldable pub total_table : Names → Option (List Row) → Gets → List Total → List ℕ → Forest
total_table names marks all rows places =
    table (codes "By subject, the most never granted first") (all_of column (total_titles all))
    (all_of (shown_at (total_row names marks all) rows) (heaviest places))

-- What is told of a permission that no entry got or was denied, by whether the first state has it. (own)
abbrev pub never_text : Bool → List ℕ
never_text held = if held then codes "start" else codes "never asked"

-- The row of a permission. (own)
unfoldable pub permission_row : Names → Option (List Row) → Gets → Usage → Forest
permission_row names marks all u = row (joined (
    access_cell names u.access
    ∷ number_where all.granted u.uses.granted
    ∷ number_where all.denied u.uses.denied
    ∷ last_cell marks u.uses.last (never_text u.is_held)
    ∷ []))

-- The headings of its columns. (own)
abbrev pub permission_titles : Gets → List (List ℕ)
permission_titles all =
    codes "Permission"
    ∷ titled (codes "Granted") all.granted
    ∷ titled (codes "Denied") all.denied
    ∷ codes "Last entry"
    ∷ []

-- A permission was granted, or never was. (own)
abbrev pub is_wanted : Bool → Usage → Bool
is_wanted granted u = if granted then not (is_unused u) else is_unused u

-- Permissions, those first that were never granted. (own)
abbrev pub never_first : List Usage → List Usage
never_first usages = filter is_unused usages ++ filter (λ u. not (is_unused u)) usages

-- The table of permissions, as many as are listed. (own)
unfoldable pub permission_table : Names → Option (List Row) → Gets → List Usage → Forest
permission_table names marks all usages =
    table (codes "Never granted ones first") (all_of column (permission_titles all))
    (all_of (permission_row names marks all) (take LISTED (never_first usages)))

-- The appendix, which has each permission. (own)
unfoldable pub each_permission : Names → Option (List Row) → Gets → List Usage → Forest
each_permission names marks all usages =
    folded (codes "Permissions, the first ") (min (length usages) LISTED) (permission_table names marks all usages)

-- How many permissions there are. (own)
unfoldable pub permissions_line : List Usage → Forest
permissions_line usages = on_line (plain tag.Paragraph (joined (
    Words (decimal (length usages))
    ∷ Words (permissions_words (length usages))
    ∷ Words (decimal (unused_count usages))
    ∷ Words (codes " never granted")
    ∷ [])))

-- The tables of permissions, where there are any: by subject, in an order, and each of them. (own)
abbrev pub usage_tables : Names → Option (List Row) → List Usage → List Total → List ℕ → Forest
usage_tables names marks usages rows places =
    if length usages == 0 then End
    else Both (total_table names marks (gets_of usages) rows places)
    (each_permission names marks (gets_of usages) usages)

-- The section of how permissions were used, with these rows of subjects in an order. (own)
unfoldable pub usage : Names → Option (List Row) → List Usage → List Total → List ℕ → Forest
usage names marks usages rows places =
    listed (codes "usage") (codes "Use of permissions") (codes "mls usage START J")
    (Both (permissions_line usages) (usage_tables names marks usages rows places))

-- The section is appended with these rows of subjects, in an order by how many of their permissions were never
-- granted. (own)
pub record ShowsTotals (names : Names) (marks : Option (List Row)) (usages : List Usage) (rows : List Total)
    (old new : Draft) : Type 0 where
  pub places : List ℕ
  pub in_order : IsByWeight (map (λ t. t.unused) rows) places
  pub is : new ≡ added old (usage names marks usages rows places)

-- The section is appended. (own)
abbrev pub HasUsage : Names → Option (List Row) → List Usage → Draft → Draft → Type 0
HasUsage names marks usages old new = ShowsTotals names marks usages (totals usages) old new
