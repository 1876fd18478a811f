-- Tables: a caption, the headings of columns, and rows of cells.
use Rattle.std.specs.Prelude.{ℕ, List, [], ◌∷◌, codes}
use Rattle.std.specs.Borrow.{Bor}
use Rattle.std.specs.Fmt.{decimal}
use Rattle.mls_markup.specs.Trees.{Forest, End, Words, Line, Element, Both, joined, plain, classed}
use Rattle.mls_markup.specs.declared.tag.Tag.TheVariants as tag
use Rattle.mls_markup.specs.declared.attribute.Attribute.TheVariants as attribute
use Rattle.mls_lines.specs.Names.{Names}
use Rattle.mls_page.specs.Bars.{bar_of, class_of}
use Rattle.mls_page.specs.Sections.{on_line}
use Rattle.mls_page.specs.declared.cell.Cell.{Cell}
use Rattle.mls_page.specs.declared.cell.Cell.TheVariants as cell
use Rattle.mls_requests.specs.ModeWords.{mode_word}
use Rattle.mls_tables.specs.Triples.{Triple}
use Rattle.mls_wording.specs.Wording.{object_text, subject_text}

-- The heading of a column; one without a title isn't there. (own)
abbrev pub column : List ℕ → Forest
column [] = End
column (c ∷ title) = Element tag.TableHeading ((attribute.Scope, codes "col") ∷ []) (Words (c ∷ title))

abbrev pub column_of : Bor (List ℕ) → Forest
column_of title = column title.now

-- The caption of a table, and the row of the headings of its columns. (own)
unfoldable pub table_head : List ℕ → Forest → Forest
table_head caption columns =
    Both (on_line (plain tag.Caption (Words caption))) (on_line (plain tag.TableHead (plain tag.TableRow columns)))

-- A table of rows. (own)
unfoldable pub table : List ℕ → Forest → Forest → Forest
table caption columns rows =
    on_line (plain tag.Table (Both (table_head caption columns) (plain tag.TableBody (Both Line rows))))

-- A row of cells. (own)
unfoldable pub row : Forest → Forest
row cells = on_line (plain tag.TableRow cells)

-- The cell that a row is called by. (own)
unfoldable pub name_cell : List ℕ → Forest
name_cell text = Element tag.TableHeading ((attribute.Scope, codes "row") ∷ []) (Words text)

-- The cell of a number, and that of a number with a bar as long as the number is of the greatest. (own)
unfoldable pub number_cell : ℕ → Forest
number_cell number = classed tag.TableCell (codes "number") (Words (decimal number))

unfoldable pub share_cell : List ℕ → ℕ → ℕ → Forest
share_cell colour greatest number =
    classed tag.TableCell (codes "number") (Both (Words (decimal number)) (bar_of colour greatest 0 number))

-- The cell of an access that a row is called by: its subject, its mode and its object. (own)
unfoldable pub access_cell : Names → Triple → Forest
access_cell names t = Element tag.TableHeading ((attribute.Scope, codes "row") ∷ []) (joined (
    Words (subject_text names t.0)
    ∷ Words (codes " ")
    ∷ Words (mode_word t.2)
    ∷ Words (codes " ")
    ∷ Words (object_text names t.1)
    ∷ []))

-- The cell of an object. (own)
unfoldable pub object_cell : Names → ℕ → Forest
object_cell names o = plain tag.TableCell (Words (object_text names o))

-- What a cell is in the page; one whose column isn't there is nothing. (own)
abbrev pub cell_of : Cell → Forest
cell_of cell.Nothing = End
cell_of (cell.Title text) = name_cell text.now
cell_of (cell.Subject names s) = name_cell (subject_text names.now s)
cell_of (cell.Access names access) = access_cell names.now access
cell_of (cell.Text text) = plain tag.TableCell (Words text.now)
cell_of (cell.Object names o) = object_cell names.now o
cell_of (cell.Digest text) = classed tag.TableCell (codes "digest") (Words text.now)
cell_of (cell.Number number) = number_cell number
cell_of (cell.Share colour greatest number) = share_cell (class_of colour) greatest number
