-- What is written of permissions and their uses.
use Rattle.std.specs.Prelude.{ℕ, ◌==◌, Bool, true, false, List, [], ◌∷◌, ◌++◌, codes, Option, Some, None, if◌then◌else◌}
use Rattle.std.specs.Fmt.{decimal}
use Rattle.std.specs.List.{flat_map}
use Rattle.mls_lines.specs.Names.{Names}
use Rattle.mls_marks.specs.declared.row.Row.{Row}
use Rattle.mls_rows.specs.Rows.{row_bytes}
use Rattle.mls_rows.specs.declared.form.Form.{Form}
use Rattle.mls_spans.specs.EntryText.{entry_text}
use Rattle.mls_spans.specs.Lines.{access_text}
use Rattle.mls_spans.specs.Members.{ending_members, usage_members}
use Rattle.mls_spans.specs.declared.usage.Usage.{Usage}
use Rattle.mls_spans.specs.declared.uses.Uses.{Uses}

-- How many were granted and how many denied. (own)
abbrev pub counts_text : Uses → List ℕ
counts_text u = decimal u.granted ++ codes " granted, " ++ decimal u.denied ++ codes " denied, last "

-- That the first state has an access, where it has. (own)
abbrev pub held_text : Bool → List ℕ
held_text held = if held then codes ", held at start" else []

-- How a permission was used, by the number of its last use, where there is one, and whether the first state has it as a
-- current access. (own)
abbrev pub uses_text : Option (List Row) → Bool → Uses → Option ℕ → List ℕ
uses_text rows held u (Some number) = counts_text u ++ entry_text rows number ++ held_text held
uses_text rows true u None = counts_text u ++ codes "start"
uses_text rows false u None = codes "never asked"

-- The line of a permission. (own)
abbrev pub usage_line : Names → Option (List Row) → Usage → List ℕ
usage_line names rows usage =
    access_text names usage.access ++ codes ": " ++ uses_text rows usage.is_held usage.uses usage.uses.last ++ 10 ∷ []

-- The words behind a number of permissions. (own)
abbrev pub permissions_words : ℕ → List ℕ
permissions_words count = if count == 1 then codes " permission, " else codes " permissions, "

-- How many permissions there are, and how many of them were never granted. (own)
abbrev pub ending_text : ℕ → ℕ → List ℕ
ending_text count unused =
    decimal count ++ permissions_words count ++ decimal unused ++ codes " never granted\n"

-- A permission in a form: its line, or its object in a line. (own)
abbrev pub usage_row : Form → Names → Option (List Row) → Usage → List ℕ
usage_row form names rows usage = row_bytes form (usage_line names rows usage) (usage_members names rows usage)

-- How many permissions there are, and how many of them were never granted, in a form. (own)
abbrev pub ending_row : Form → ℕ → ℕ → List ℕ
ending_row form count unused = row_bytes form (ending_text count unused) (ending_members count unused)

-- Permissions in a form. (own)
abbrev pub usages_bytes : Form → Names → Option (List Row) → List Usage → List ℕ
usages_bytes form names rows usages = flat_map (usage_row form names rows) usages
