-- The bytes of rows.
use Rattle.std.specs.Prelude.{ℕ, List, string_bytes}
use Rattle.json.specs.Token.{Token}
use Rattle.mls_rows.specs.Members.{line_of}
use Rattle.mls_rows.specs.declared.form.Form.{Form}
use Rattle.mls_rows.specs.declared.form.Form.TheVariants as form
use Rattle.mls_rows.specs.declared.output.Output.{Output}
use Rattle.mls_rows.specs.declared.output.Output.TheVariants as output

-- A row of this line and these members, in a form: the line, or the object in a line. (own)
abbrev pub row_bytes : Form → List ℕ → List Token → List ℕ
row_bytes form.Text line members = line
row_bytes form.Json line members = line_of members

-- The form of what was written. (own)
abbrev pub form_of : Output → Form
form_of (output.Text text) = form.Text
form_of (output.Json out) = form.Json

-- The bytes that were written. (own)
abbrev pub bytes_of : Output → List ℕ
bytes_of (output.Text text) = string_bytes text
bytes_of (output.Json out) = out.items
