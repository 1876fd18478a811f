-- The answer to a request or a check, in its forms.
use Rattle.std.specs.Prelude.{ℕ, List}
use Rattle.mls_rows.specs.Rows.{row_bytes}
use Rattle.mls_rows.specs.declared.form.Form.{Form}
use Rattle.mls_explain_text.specs.AnswerMembers.{response_members}
use Rattle.mls_explain_text.specs.Responses.{response_line}
use Rattle.mls_explain_text.specs.declared.response.Response.{Response}

-- The row of an answer, in a form. (own)
abbrev pub response_bytes : Form → Response → List ℕ
response_bytes form response = row_bytes form (response_line response) (response_members response)
