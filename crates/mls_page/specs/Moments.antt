-- Entries by their numbers, with the days of their times.
use Rattle.std.specs.Prelude.{ℕ, List, codes, Option, Some, None, take}
use Rattle.std.specs.Fmt.{decimal}
use Rattle.mls_listings.specs.Stamps.{stamp_of}
use Rattle.mls_listings.specs.declared.stamp.Stamp.{Stamp}
use Rattle.mls_listings.specs.declared.stamp.Stamp.TheVariants.{Unasked, Unmarked, At}
use Rattle.mls_marks.specs.declared.row.Row.{Row}
use Rattle.mls_markup.specs.Trees.{Forest, End, Words, Both, classed}
use Rattle.mls_markup.specs.declared.tag.Tag.TheVariants as tag

-- The day of a time, which its first ten characters are; nothing where no time is told. (own)
abbrev pub day_of : Stamp → Forest
day_of Unasked = End
day_of Unmarked = End
day_of (At time) = Both (Words (codes " ")) (classed tag.Span (codes "time") (Words (take 10 time)))

-- The number of an entry, and the day of its time where the rows of marks tell it. (own)
abbrev pub moment : Option (List Row) → ℕ → Forest
moment marks n = Both (Words (decimal n)) (day_of (stamp_of marks n))

-- The cell of an entry. (own)
unfoldable pub moment_cell : Option (List Row) → ℕ → Forest
moment_cell marks n = classed tag.TableCell (codes "number") (moment marks n)

-- The cell of a last entry, or what is told where there is none. (own)
abbrev pub last_cell : Option (List Row) → Option ℕ → List ℕ → Forest
last_cell marks None none = classed tag.TableCell (codes "number") (Words none)
last_cell marks (Some n) none = moment_cell marks n
