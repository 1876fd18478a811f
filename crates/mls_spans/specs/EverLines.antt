-- What is written of the states in which gets would be granted.
use Rattle.std.specs.Prelude.{ℕ, List, [], ◌∷◌, ◌++◌, codes, Option, Some, None}
use Rattle.std.specs.List.{flat_map}
use Rattle.mls_lines.specs.Names.{Names}
use Rattle.mls_marks.specs.declared.row.Row.{Row}
use Rattle.mls_requests.specs.ModeWords.{mode_word}
use Rattle.mls_rows.specs.Rows.{row_bytes}
use Rattle.mls_rows.specs.declared.form.Form.{Form}
use Rattle.mls_tables.specs.Triples.{Triple}
use Rattle.mls_wording.specs.Wording.{subject_text}
use Rattle.mls_spans.specs.EntryText.{begin_text, entry_text}
use Rattle.mls_spans.specs.Members.{ever_members}
use Rattle.mls_spans.specs.declared.window.Window.{Window}

-- The entry up to which it would be granted, or that it would be on. (own)
abbrev pub closed_text : Option (List Row) → Option ℕ → List ℕ
closed_text rows None = codes " on"
closed_text rows (Some n) = codes " to " ++ entry_text rows n

-- A span. (own)
abbrev pub window_text : Option (List Row) → Window → List ℕ
window_text rows window = begin_text rows window.opened ++ closed_text rows window.closed

-- A span behind others. (own)
abbrev pub next_text : Option (List Row) → Window → List ℕ
next_text rows window = codes ", " ++ window_text rows window

-- Spans, with commas between them; or that there is none. (own)
abbrev pub windows_text : Option (List Row) → List Window → List ℕ
windows_text rows [] = codes "in no state"
windows_text rows (window ∷ rest) = window_text rows window ++ flat_map (next_text rows) rest

-- The line of an access and the spans in which its get would be granted. (own)
abbrev pub ever_line : Names → Option (List Row) → Triple → List Window → List ℕ
ever_line names rows t found =
    subject_text names t.0 ++ codes " " ++ mode_word t.2 ++ codes ": " ++ windows_text rows found ++ codes "\n"

-- It in a form: the line, or the object in a line. (own)
abbrev pub ever_row : Form → Names → Option (List Row) → Triple → List Window → List ℕ
ever_row form names rows t found = row_bytes form (ever_line names rows t found) (ever_members names rows t found)
