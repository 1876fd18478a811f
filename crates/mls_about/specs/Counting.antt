-- What is written of the entries that a subject asked.
use Rattle.std.specs.Prelude.{ℕ, ◌==◌, ◌&&◌, Bool, true, false, List, [], ◌∷◌, ◌++◌, codes, length, filter}
use Rattle.std.specs.Prelude.{Option, Some, None, if◌then◌else◌}
use Rattle.std.specs.Fmt.{decimal}
use Rattle.json.specs.Token.{Token}
use Rattle.mls_marks.specs.declared.row.Row.{Row}
use Rattle.mls_requests.specs.declared.entry.Entry.{Entry}
use Rattle.mls_requests.specs.declared.reply.Reply.{Reply}
use Rattle.mls_requests.specs.declared.reply.Reply.TheVariants.{Yes, Created, No, Undefined}
use Rattle.mls_rows.specs.Members.{two_members}
use Rattle.mls_rows.specs.Times.{entry_members}
use Rattle.mls_rows.specs.declared.form.Form.{Form}
use Rattle.mls_shared_rows.specs.Kinds.{kind_bytes}
use Rattle.mls_spans.specs.EntryText.{entry_text}

-- A subject asked an entry. (own)
abbrev pub is_asked : ℕ → Entry → Bool
is_asked s e = e.request.subject == s

-- A reply is a denial. (own)
abbrev pub is_denial : Reply → Bool
is_denial Yes = false
is_denial (Created o) = false
is_denial (No reason) = true
is_denial Undefined = false

-- A subject asked an entry, and was denied it. (own)
abbrev pub is_denied : ℕ → Entry → Bool
is_denied s e = is_asked s e && is_denial e.reply

-- The number of the last of some entries that a subject asked, where there is one. (own)
abbrev pub last_of : ℕ → Option ℕ → List Entry → Option ℕ
last_of s so_far [] = so_far
last_of s so_far (e ∷ entries) = last_of s (if is_asked s e then Some e.number else so_far) entries

-- The words behind a number of entries. (own)
abbrev pub entries_words : ℕ → List ℕ
entries_words count = if count == 1 then codes " entry, " else codes " entries, "

-- The last entry, with its time where times are told; nothing where there is none. (own)
abbrev pub last_text : Option (List Row) → Option ℕ → List ℕ
last_text rows None = []
last_text rows (Some n) = codes ", last " ++ entry_text rows n

-- How many entries there are and how many of them denied, and which was the last. (own)
abbrev pub counts_line : Option (List Row) → ℕ → ℕ → Option ℕ → List ℕ
counts_line rows asked denied last =
    decimal asked ++ entries_words asked ++ decimal denied ++ codes " denied" ++ last_text rows last ++ 10 ∷ []

-- The members of how many entries there are and how many of them denied, and of which was the last. (own)
abbrev pub counts_members : Option (List Row) → ℕ → ℕ → Option ℕ → List Token
counts_members rows asked denied last =
    two_members (codes "entries") (codes "denied") asked denied
    ++ entry_members (codes "last") (codes "last_time") rows last

-- The row of how many entries there are and how many of them denied, and of which was the last, in a form. (own)
abbrev pub counts_bytes : Form → Option (List Row) → ℕ → ℕ → Option ℕ → List ℕ
counts_bytes form rows asked denied last =
    kind_bytes form (codes "asked") (counts_line rows asked denied last) (counts_members rows asked denied last)

-- The row of what a subject asked, in a form. (own)
abbrev pub asked_bytes : Form → Option (List Row) → ℕ → List Entry → List ℕ
asked_bytes form rows s entries =
    counts_bytes form rows (length (filter (is_asked s) entries)) (length (filter (is_denied s) entries))
    (last_of s None entries)
