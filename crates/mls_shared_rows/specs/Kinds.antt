-- Rows with their kinds.
use Rattle.std.specs.Prelude.{ℕ, List, ◌++◌, codes}
use Rattle.json.specs.Token.{Token}
use Rattle.mls_rows.specs.Members.{text_member}
use Rattle.mls_rows.specs.Rows.{row_bytes}
use Rattle.mls_rows.specs.declared.form.Form.{Form}

-- The members of a row, with its kind before them. (own)
abbrev pub kind_members : List ℕ → List Token → List Token
kind_members kind members = text_member (codes "kind") kind ++ members

-- A row of this kind, this line and these members, in a form: the line, or the object with its kind, in a line. (own)
abbrev pub kind_bytes : Form → List ℕ → List ℕ → List Token → List ℕ
kind_bytes form kind line members = row_bytes form line (kind_members kind members)
