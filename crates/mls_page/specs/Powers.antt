-- What subjects may change, as the page tells it.
use Rattle.std.specs.Prelude.{◌≡◌, ◌-◌, ℕ, ◌==◌, nat_lt, List, [], ◌∷◌, codes, length, map, take, if◌then◌else◌}
use Rattle.std.specs.Fmt.{decimal}
use Rattle.mls_groups.specs.Weights.{IsByWeight}
use Rattle.mls_lines.specs.Names.{Names}
use Rattle.mls_markup.specs.Drafts.{Draft, added}
use Rattle.mls_markup.specs.Trees.{Forest, End, Words, Both, all_of, joined, plain}
use Rattle.mls_markup.specs.declared.tag.Tag.TheVariants as tag
use Rattle.mls_page.specs.Runs.{runs_by}
use Rattle.mls_page.specs.Sections.{listed, paragraph}
use Rattle.mls_page.specs.Shown.{in_tables, shown_at}
use Rattle.mls_page.specs.Tables.{column, name_cell, row, table}
use Rattle.mls_page.specs.declared.changes.TheConstants.{LABELS, NAMED}
use Rattle.mls_review.specs.Granted.{Granted, change_view, over, relabels}
use Rattle.mls_review.specs.PowerRows.{granted_text, granted_to}
use Rattle.mls_review.specs.declared.change.Change.{Change}
use Rattle.mls_review.specs.declared.power.Power.{Power}
use Rattle.mls_review.specs.declared.power.Power.TheVariants.{Gives, Creates, Deletes}
use Rattle.mls_review.specs.declared.relabeling.Relabeling.{Relabeling}
use Rattle.mls_review.specs.declared.relabeling.Relabeling.TheVariants.{Level, Down, Aside, Up}
use Rattle.mls_wording.specs.Wording.{subject_text}

-- The kinds of changes, as numbers: one of each power, one of a subject's own level, and one of objects' labels. (own)
abbrev pub power_kind : Power → ℕ
power_kind Gives = 0
power_kind Creates = 1
power_kind Deletes = 2

abbrev pub relabeling_kind : Relabeling → ℕ
relabeling_kind Level = 3
relabeling_kind (Down o) = 4
relabeling_kind (Aside o) = 4
relabeling_kind (Up o) = 4

abbrev pub granted_kind : Granted → ℕ
granted_kind (over s power o) = power_kind power
granted_kind (relabels s r labels) = relabeling_kind r

-- The kind of a change, and who may make it. (own)
abbrev pub kind_of : Change → ℕ
kind_of c = granted_kind (change_view c)

abbrev pub maker : Change → ℕ
maker c = granted_to (change_view c)

-- Who may make those of a run. (own)
abbrev pub maker_of : List Change → ℕ
maker_of [] = 0
maker_of (c ∷ changes) = maker c

-- What is told of a change: of one to many labels, the first of them, and how many more there are. (own)
abbrev pub granted_words : Names → Granted → Forest
granted_words names (over s power o) = Words (granted_text names (over s power o))
granted_words names (relabels s r labels) =
    if nat_lt LABELS (length labels) then joined (
    Words (granted_text names (relabels s r (take LABELS labels)))
    ∷ Words (codes " and ")
    ∷ Words (decimal (length labels - LABELS))
    ∷ Words (codes " more")
    ∷ [])
    else Words (granted_text names (relabels s r labels))

-- The item of a change. (own)
unfoldable pub power_item : Names → Change → Forest
power_item names c = plain tag.Item (granted_words names (change_view c))

-- How many more there are of a kind, where there are such. (own)
abbrev pub more_of_kind : ℕ → Forest
more_of_kind more =
    if more == 0 then End
    else plain tag.Item (joined (
    Words (codes "and ")
    ∷ Words (decimal more)
    ∷ Words (codes " more of this kind")
    ∷ []))

-- The changes of one kind: the first of them, and how many more there are. (own)
abbrev pub kind_items : Names → List Change → Forest
kind_items names changes =
    Both (all_of (power_item names) (take NAMED changes)) (more_of_kind (length changes - NAMED))

-- The row of a subject that may make these changes: those of one kind stand together. (own)
unfoldable pub power_row : Names → List Change → Forest
power_row names changes = row (Both
    (name_cell (subject_text names (maker_of changes)))
    (plain tag.TableCell (plain tag.Items (all_of (kind_items names) (runs_by kind_of changes)))))

-- The table of the subjects at some places. (own)
unfoldable pub power_table : Names → List (List Change) → List ℕ → Forest
power_table names runs places =
    table (codes "After the last entry") (all_of column (codes "Subject" ∷ codes "May" ∷ []))
    (all_of (shown_at (power_row names) runs) places)

-- The tables of subjects in an order; without one, that there is none. (own)
abbrev pub power_tables : Names → List (List Change) → List ℕ → Forest
power_tables names runs places =
    if length runs == 0 then paragraph (codes "No subject may change anything.")
    else in_tables (codes "mls powers --journal J START") (power_table names runs) places

-- The section of what subjects may change, with the changes of each, in an order. (own)
unfoldable pub powers : Names → List (List Change) → List ℕ → Forest
powers names runs places =
    listed (codes "powers") (codes "Powers") (codes "mls powers --journal J START") (power_tables names runs places)

-- The section is appended with the changes of each subject, in an order by how many they are. (own)
pub record ShowsRuns (names : Names) (runs : List (List Change)) (old new : Draft) : Type 0 where
  pub places : List ℕ
  pub in_order : IsByWeight (map (λ run. length run) runs) places
  pub is : new ≡ added old (powers names runs places)

-- The section is appended: the changes of a subject stand together. (own)
abbrev pub HasPowers : Names → List Change → Draft → Draft → Type 0
HasPowers names changes old new = ShowsRuns names (runs_by maker changes) old new
