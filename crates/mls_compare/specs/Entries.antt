-- The line and the members of an entry that the second start answers otherwise.
use Rattle.std.specs.Prelude.{ℕ, List, ◌∷◌, ◌++◌, codes}
use Rattle.std.specs.Fmt.{decimal}
use Rattle.std.specs.List.{flat_map}
use Rattle.json.specs.Token.{Token}
use Rattle.mls_requests.specs.declared.entry.Entry.{Entry}
use Rattle.mls_lines.specs.Names.{Names}
use Rattle.mls_rows.specs.Members.{number_member}
use Rattle.mls_rows.specs.Rows.{row_bytes}
use Rattle.mls_rows.specs.declared.form.Form.{Form}
use Rattle.mls_shared_rows.specs.Requests.{asked_members}
use Rattle.mls_wording.specs.RequestText.{request_text}
use Rattle.mls_differences.specs.Replying.{replies_members, replies_text}
use Rattle.mls_differences.specs.Things.{difference_member}
use Rattle.mls_compare.specs.declared.entry_row.EntryRow.{EntryRow}

-- What is written of an entry before the replies: its number and its request. (own)
abbrev pub entry_text : Names → Entry → List ℕ
entry_text a e = codes "entry " ++ decimal e.number ++ 32 ∷ request_text a e.request

-- The line of a row, by the names of the first start. (own)
abbrev pub entry_line : Names → EntryRow → List ℕ
entry_line a row = entry_text a row.entry ++ replies_text row.entry.reply row.second

-- The members of a row. (own)
abbrev pub entry_members : Names → EntryRow → List Token
entry_members a row =
    difference_member (codes "entry") ++ number_member (codes "number") row.entry.number
    ++ asked_members a row.entry.request ++ replies_members row.entry.reply row.second

-- A row in a form: its line, or its object in a line. (own)
abbrev pub entry_bytes : Form → Names → EntryRow → List ℕ
entry_bytes form a row = row_bytes form (entry_line a row) (entry_members a row)

-- Rows in a form. (own)
abbrev pub entries_bytes : Form → Names → List EntryRow → List ℕ
entries_bytes form a rows = flat_map (entry_bytes form a) rows
