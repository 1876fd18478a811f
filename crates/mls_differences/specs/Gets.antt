-- The gets that two states answer otherwise.
use Rattle.std.specs.Prelude.{ℕ, List, ◌++◌, codes}
use Rattle.std.specs.List.{flat_map}
use Rattle.json.specs.Token.{Token}
use Rattle.mls_tables.specs.declared.mode.Mode.{Mode}
use Rattle.mls_tables.specs.declared.mode.Mode.TheVariants.{Execute, Read, Append, Write}
use Rattle.mls_requests.specs.declared.action.Action.TheVariants.{Get}
use Rattle.mls_requests.specs.declared.reply.Reply.{Reply}
use Rattle.mls_requests.specs.declared.request.Request.{Request}
use Rattle.mls_state.specs.State.{State}
use Rattle.mls_rules.specs.Rules.{reply}
use Rattle.mls_lines.specs.Names.{Names}
use Rattle.mls_rows.specs.Members.{access_members}
use Rattle.mls_rows.specs.Rows.{row_bytes}
use Rattle.mls_rows.specs.declared.form.Form.{Form}
use Rattle.mls_differences.specs.Replying.{agree, replies_members, replies_text}
use Rattle.mls_differences.specs.Sides.{row_unless}
use Rattle.mls_differences.specs.SingleForms.{get_text}
use Rattle.mls_differences.specs.Things.{difference_member}
use Rattle.mls_differences.specs.declared.get_row.GetRow.{GetRow}
use Rattle.mls_differences.specs.declared.shared.Shared.{Shared}

-- The get of an object by a subject. (own)
abbrev pub get_of : ℕ → ℕ → Mode → Request
get_of s o x = record { subject = s; action = Get x o }

-- The row of a get to which these are the replies of two starts. (own)
abbrev pub get_row : ℕ → ℕ → Mode → Reply → Reply → GetRow
get_row s o x r q = record { subject = s; object = o; mode = x; first = r; second = q }

-- The row of a get with these replies, where they don't agree. (own)
abbrev pub replied_rows : ℕ → ℕ → Mode → Reply → Reply → List GetRow
replied_rows s o x r q = row_unless (agree r q) (get_row s o x r q)

-- The row of a get that two states answer otherwise. (own)
abbrev pub get_rows : State → State → Shared → Shared → Mode → List GetRow
get_rows v w s o x =
    replied_rows s.first o.first x (reply v (get_of s.first o.first x)) (reply w (get_of s.second o.second x))

-- The rows of the gets of an object by a subject, in the order of modes. (own)
abbrev pub cell_rows : State → State → Shared → Shared → List GetRow
cell_rows v w s o =
    get_rows v w s o Execute ++ get_rows v w s o Read ++ get_rows v w s o Append ++ get_rows v w s o Write

-- The rows of the gets of some objects by some subjects: by subject, object and mode. (own)
abbrev pub gets_rows : State → State → List Shared → List Shared → List GetRow
gets_rows v w subjects objects = flat_map (λ s. flat_map (cell_rows v w s) objects) subjects

-- The line of a row, by the names of the first start. (own)
abbrev pub get_line : Names → GetRow → List ℕ
get_line names row = get_text names row.subject row.object row.mode ++ replies_text row.first row.second

-- The members of a row. (own)
abbrev pub get_members : Names → GetRow → List Token
get_members names row =
    difference_member (codes "get") ++ access_members names (row.subject, row.object, row.mode)
    ++ replies_members row.first row.second

-- A row in a form: its line, or its object in a line. (own)
abbrev pub get_bytes : Form → Names → GetRow → List ℕ
get_bytes form names row = row_bytes form (get_line names row) (get_members names row)
