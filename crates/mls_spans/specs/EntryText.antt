-- An entry, as a span begins or ends with it: its number, and its time.
use Rattle.std.specs.Prelude.{ℕ, List, [], ◌++◌, codes, Option, Some, None}
use Rattle.std.specs.Fmt.{decimal}
use Rattle.mls_marks.specs.declared.row.Row.{Row}
use Rattle.mls_rows.specs.Times.{time_of}

-- A time behind an entry's number, or that no mark covers the entry. (own)
abbrev pub time_text : Option (List ℕ) → List ℕ
time_text None = codes " [-]"
time_text (Some time) = codes " [" ++ time ++ codes "]"

-- What is told of the time of an entry, by the rows of marks, where there are some. (own)
abbrev pub mark_text : Option (List Row) → ℕ → List ℕ
mark_text None n = []
mark_text (Some rows) n = time_text (time_of rows n)

-- An entry: its number, and its time where times are told. (own)
abbrev pub entry_text : Option (List Row) → ℕ → List ℕ
entry_text rows n = decimal n ++ mark_text rows n

-- The entry that a span begins with, or `start`. (own)
abbrev pub begin_text : Option (List Row) → Option ℕ → List ℕ
begin_text rows None = codes "start"
begin_text rows (Some n) = entry_text rows n
