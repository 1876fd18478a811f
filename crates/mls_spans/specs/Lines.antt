-- What is written of spans.
use Rattle.std.specs.Prelude.{ℕ, List, [], ◌∷◌, ◌++◌, codes, Option, Some, None, if◌then◌else◌}
use Rattle.std.specs.List.{flat_map}
use Rattle.mls_lines.specs.Names.{Names}
use Rattle.mls_marks.specs.declared.row.Row.{Row}
use Rattle.mls_requests.specs.ActionWords.{action_word}
use Rattle.mls_requests.specs.ModeWords.{mode_word}
use Rattle.mls_rows.specs.Rows.{row_bytes}
use Rattle.mls_rows.specs.declared.form.Form.{Form}
use Rattle.mls_tables.specs.Triples.{Triple}
use Rattle.mls_wording.specs.Wording.{subject_text, object_text}
use Rattle.mls_spans.specs.Asked.{Choice, is_asked}
use Rattle.mls_spans.specs.EntryText.{begin_text, entry_text}
use Rattle.mls_spans.specs.Members.{span_members}
use Rattle.mls_spans.specs.declared.span.Ending.{Ending}
use Rattle.mls_spans.specs.declared.span.Span.{Span}

-- An access: its subject, its mode and its object. (own)
abbrev pub access_text : Names → Triple → List ℕ
access_text names t = subject_text names t.0 ++ 32 ∷ mode_word t.2 ++ 32 ∷ object_text names t.1

-- The entry that ended an access and its word, or that it is held on. (own)
abbrev pub end_text : Option (List Row) → Option Ending → List ℕ
end_text rows None = codes " on"
end_text rows (Some ending) = codes " to " ++ entry_text rows ending.number ++ codes ", " ++ action_word ending.word

-- From which entry to which a span goes. (own)
abbrev pub extent_text : Option (List Row) → Span → List ℕ
extent_text rows span = begin_text rows span.made ++ end_text rows span.ended

-- The line of a span. (own)
abbrev pub span_line : Names → Option (List Row) → Span → List ℕ
span_line names rows span = access_text names span.access ++ codes ": " ++ extent_text rows span ++ 10 ∷ []

-- A span in a form: its line, or its object in a line. (own)
abbrev pub span_row : Form → Names → Option (List Row) → Span → List ℕ
span_row form names rows span = row_bytes form (span_line names rows span) (span_members names rows span)

-- A span that is asked for; nothing of another. (own)
abbrev pub row_where : Form → Names → Option (List Row) → Choice → Span → List ℕ
row_where form names rows c span = if is_asked c span then span_row form names rows span else []

-- The spans that are asked for. (own)
abbrev pub spans_bytes : Form → Names → Option (List Row) → Choice → List Span → List ℕ
spans_bytes form names rows c spans = flat_map (row_where form names rows c) spans
