-- What is told of bytes that aren't JSON.
use Rattle.std.specs.Prelude.{◌≡◌, ◌⊎◌, ℕ, List, [], ◌∷◌, ◌++◌, codes}
use Rattle.std.specs.Fmt.{decimal}
use Rattle.std.specs.Str.{IsUtf8}
use Rattle.json.specs.Token.{Token}
use Rattle.mls_rows.specs.Members.{two_members}
use Rattle.mls_rows.specs.Rows.{row_bytes}
use Rattle.mls_rows.specs.declared.form.Form.{Form}
use Rattle.mls_start_faults.specs.PlaceRows.{finding_member, located_row, pointer_member}

-- The line that tells where JSON breaks off: by a line and a column. (own)
abbrev pub json_line : ℕ → ℕ → List ℕ
json_line line column = codes "/: line " ++ decimal line ++ codes ", column " ++ decimal column ++ 10 ∷ []

-- The members that tell it. (own)
abbrev pub json_members : ℕ → ℕ → List Token
json_members line column =
    pointer_member (codes "/") ++ finding_member (codes "syntax")
    ++ two_members (codes "line") (codes "column") line column

-- It, in a form: its line, or its object in a line. (own)
abbrev pub json_row : Form → ℕ → ℕ → List ℕ
json_row form line column = row_bytes form (json_line line column) (json_members line column)

-- It is told in a form that JSON breaks off at some line and column. (own)
abbrev pub TellsPlace : Form → List ℕ → Type 0
TellsPlace form told = (line : ℕ) × (column : ℕ) × (told ≡ json_row form line column)

-- It is told in a form just of bytes that aren't UTF-8 that they aren't, and of others that JSON breaks off
-- somewhere. (own)
abbrev pub TellsJson : Form → List ℕ → List ℕ → Type 0
TellsJson form bytes told =
    ((IsUtf8 bytes → ⊥) × (told ≡ located_row form (codes "/", codes "not UTF-8")))
    ⊎ (IsUtf8 bytes × TellsPlace form told)
