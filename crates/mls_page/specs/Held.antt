-- Who held what, and from when to when, as the page tells it.
use Rattle.std.specs.Prelude.{◌≡◌, ◌+◌, ◌-◌, ℕ, ◌==◌, List, [], ◌∷◌, codes, length, map, slice_get, Option, Some, None}
use Rattle.std.specs.Prelude.{if◌then◌else◌}
use Rattle.std.specs.List.{sum_by}
use Rattle.std.specs.List.Sorted.{IsNonDecreasingBy, IsPermutation, IsStableByKey}
use Rattle.std.specs.Ordering.{nat_cmp}
use Rattle.mls_groups.specs.Weights.{IsByWeight}
use Rattle.mls_lines.specs.Names.{Names}
use Rattle.mls_marks.specs.declared.row.Row.{Row}
use Rattle.mls_markup.specs.Drafts.{Draft, added}
use Rattle.mls_markup.specs.Trees.{Forest, End, Words, Element, Both, all_of, joined, plain, classed}
use Rattle.mls_markup.specs.declared.tag.Tag.TheVariants as tag
use Rattle.mls_page.specs.Bars.{drawn_as, stretch}
use Rattle.mls_page.specs.Gets.{capped}
use Rattle.mls_page.specs.Moments.{moment}
use Rattle.mls_page.specs.Runs.{runs_by}
use Rattle.mls_page.specs.Sections.{listed, paragraph}
use Rattle.mls_page.specs.Shown.{in_tables, shown_at}
use Rattle.mls_page.specs.Tables.{column, name_cell, number_cell, object_cell, row, table}
use Rattle.mls_requests.specs.ModeWords.{mode_word}
use Rattle.mls_spans.specs.Kept.{key_of}
use Rattle.mls_spans.specs.declared.span.Ending.{Ending}
use Rattle.mls_spans.specs.declared.span.Span.{Span}
use Rattle.mls_wording.specs.Wording.{subject_text}

-- The first state of a span, counted from the one before entry 0, and the last, in a journal of so many entries. (own)
abbrev pub first_state : Option ℕ → ℕ
first_state None = 0
first_state (Some made) = capped (made + 1)

abbrev pub last_state : ℕ → Option Ending → ℕ
last_state entries None = entries
last_state entries (Some ended) = ended.number

-- How many states a span has, and how many some spans have. (own)
abbrev pub length_of : ℕ → Span → ℕ
length_of entries s = capped (last_state entries s.ended + 1) - first_state s.made

abbrev pub states_of : ℕ → List Span → ℕ
states_of entries spans = capped (sum_by (length_of entries) spans)

-- What is told of the entry that made an access, and of the one that ended it. (own)
abbrev pub begin_words : Option (List Row) → Option ℕ → Forest
begin_words marks None = Words (codes "start")
begin_words marks (Some made) = moment marks made

abbrev pub end_words : Option (List Row) → Option Ending → Forest
end_words marks None = Words (codes " on")
end_words marks (Some ended) = Both (Words (codes " to ")) (moment marks ended.number)

-- The cell of from when to when an access was held, all in all. (own)
unfoldable pub extent_cell : Option (List Row) → Span → Span → Forest
extent_cell marks first last =
    classed tag.TableCell (codes "number") (Both (begin_words marks first.made) (end_words marks last.ended))

-- The stretch of a span in a time line. (own)
abbrev pub span_stretch : ℕ → Span → Forest
span_stretch entries s = stretch (first_state s.made) (length_of entries s)

-- The cell of the time line of an access: from the state before entry 0 to the one after the last entry. (own)
unfoldable pub line_cell : ℕ → List Span → Forest
line_cell entries spans = classed tag.TableCell (codes "times")
    (Element tag.Svg (drawn_as (codes "bar held") (capped (entries + 1))) (all_of (span_stretch entries) spans))

-- The row of an access that was held in these spans, of which the first and the last are these. (own)
unfoldable pub span_row : Names → Option (List Row) → ℕ → List Span → Span → Span → Forest
span_row names marks entries spans first last = row (joined (
    name_cell (subject_text names first.access.0)
    ∷ plain tag.TableCell (Words (mode_word first.access.2))
    ∷ object_cell names first.access.1
    ∷ number_cell (length spans)
    ∷ extent_cell marks first last
    ∷ line_cell entries spans
    ∷ []))

-- It, where there is a first and a last. (own)
abbrev pub row_where : Names → Option (List Row) → ℕ → List Span → Option Span → Option Span → Forest
row_where names marks entries spans None last = End
row_where names marks entries spans (Some first) None = End
row_where names marks entries spans (Some first) (Some last) = span_row names marks entries spans first last

-- The row of an access that was held in some spans. (own)
abbrev pub held_row : Names → Option (List Row) → ℕ → List Span → Forest
held_row names marks entries spans =
    row_where names marks entries spans (slice_get spans 0) (slice_get spans (length spans - 1))

-- The caption, and the headings of columns. (own)
abbrev pub held_caption : List ℕ
held_caption =
    codes "The longest held first. A time line goes from the state before entry 0 to the one after the last entry"

abbrev pub held_titles : List (List ℕ)
held_titles =
    codes "Subject"
    ∷ codes "Mode"
    ∷ codes "Object"
    ∷ codes "Times"
    ∷ codes "From and to"
    ∷ codes "Time line"
    ∷ []

-- The table of the accesses at some places. (own)
unfoldable pub held_table : Names → Option (List Row) → ℕ → List (List Span) → List ℕ → Forest
held_table names marks entries runs places =
    table held_caption (all_of column held_titles) (all_of (shown_at (held_row names marks entries) runs) places)

-- The tables of accesses in an order; without one, that there is none. (own)
abbrev pub held_tables : Names → Option (List Row) → ℕ → List (List Span) → List ℕ → Forest
held_tables names marks entries runs places =
    if length runs == 0 then paragraph (codes "Nothing was held.")
    else in_tables (codes "mls held START J") (held_table names marks entries runs) places

-- The section of who held what, with the spans of each access, in an order. (own)
unfoldable pub held : Names → Option (List Row) → ℕ → List (List Span) → List ℕ → Forest
held names marks entries runs places =
    listed (codes "held") (codes "Held") (codes "mls held START J") (held_tables names marks entries runs places)

-- The section is appended with the spans of each access, in an order by in how many states each was held. (own)
pub record ShowsHeld (names : Names) (marks : Option (List Row)) (entries : ℕ) (runs : List (List Span))
    (old new : Draft) : Type 0 where
  pub places : List ℕ
  pub in_order : IsByWeight (map (states_of entries) runs) places
  pub is : new ≡ added old (held names marks entries runs places)

-- The number of the access of a span: each has its own. (own)
abbrev pub access_of : Span → ℕ
access_of s = key_of s.access

-- Spans stand by their accesses, those of one access as they stood. (own)
pub record IsByAccess (spans sorted : List Span) : Type 0 where
  pub same : IsPermutation spans sorted
  pub ascending : IsNonDecreasingBy access_of sorted
  pub stable : IsStableByKey access_of nat_cmp spans sorted

-- The section is appended, with the spans of each access together. (own)
pub record HasHeld (names : Names) (marks : Option (List Row)) (spans : List Span) (entries : ℕ) (old new : Draft)
    : Type 0 where
  pub sorted : List Span
  pub by_access : IsByAccess spans sorted
  pub shown : ShowsHeld names marks entries (runs_by access_of sorted) old new
