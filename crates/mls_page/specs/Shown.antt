-- Which rows are shown: the heaviest in a table that is printed, and the next ones in an appendix.
use Rattle.std.specs.Prelude.{ℕ, ◌-◌, ◌==◌, List, [], ◌∷◌, codes, Option, Some, None, drop, length, min, slice_get}
use Rattle.std.specs.Prelude.{take, if◌then◌else◌}
use Rattle.std.specs.Fmt.{decimal}
use Rattle.mls_markup.specs.Trees.{Forest, End, Words, Both, joined, plain, classed}
use Rattle.mls_markup.specs.declared.tag.Tag.TheVariants as tag
use Rattle.mls_page.specs.Sections.{on_line}
use Rattle.mls_page.specs.declared.section.TheConstants.{LISTED, SHOWN}

-- What is shown of a row, where there is one. (own)
abbrev pub shown_of : {Row : Type 0} → (Row → Forest) → Option Row → Forest
shown_of told None = End
shown_of told (Some row) = told row

-- What is shown of the row at a place. (own)
abbrev pub shown_at : {Row : Type 0} → (Row → Forest) → List Row → ℕ → Forest
shown_at told rows place = shown_of told (slice_get rows place)

-- Of the places of rows, the heaviest first: those that the table has that is printed, and those in the appendix. (own)
abbrev pub heaviest : List ℕ → List ℕ
heaviest places = take SHOWN places

abbrev pub lighter : List ℕ → List ℕ
lighter places = take LISTED (drop SHOWN places)

-- How many more rows there are than the table has that is printed, and what lists them all. (own)
unfoldable pub more : List ℕ → ℕ → Forest
more command rest = on_line (classed tag.Paragraph (codes "more") (joined (
    Words (decimal rest)
    ∷ Words (codes " more, each with less: ")
    ∷ plain tag.Code (Words command)
    ∷ Words (codes " lists all.")
    ∷ [])))

-- What an appendix is called. (own)
unfoldable pub folded_head : List ℕ → ℕ → Forest
folded_head text count = on_line (plain tag.Summary (Both (Words text) (Words (decimal count))))

-- An appendix, which is folded and isn't printed. (own)
unfoldable pub folded : List ℕ → ℕ → Forest → Forest
folded text count inner = on_line (classed tag.Details (codes "appendix") (Both (folded_head text count) inner))

-- The appendix of the rows that are more than the table has that is printed; without such, none. (own)
abbrev pub appendix : List ℕ → ℕ → Forest → Forest
appendix command rest inner =
    if rest == 0 then End else Both (more command rest) (folded (codes "The next ") (min rest LISTED) inner)

-- Rows in a table that is printed, and others in an appendix. (own)
abbrev pub in_tables : List ℕ → (List ℕ → Forest) → List ℕ → Forest
in_tables command shown places =
    Both (shown (heaviest places)) (appendix command (length places - SHOWN) (shown (lighter places)))
