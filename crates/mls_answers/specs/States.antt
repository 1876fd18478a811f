-- What there is in a state, in a form.
use Rattle.std.specs.Prelude.{ℕ, List}
use Rattle.mls_lines.specs.Names.{Names}
use Rattle.mls_rows.specs.declared.form.Form.{Form}
use Rattle.mls_rows.specs.declared.form.Form.TheVariants.{Text, Json}
use Rattle.mls_shared_rows.specs.StateRows.{things_bytes}
use Rattle.mls_snapshots.specs.States.{state_text}
use Rattle.mls_state.specs.State.{State}

-- The JSON objects of what there is in a state, each in a line. (own)
abbrev pub objects_text : Names → State → List ℕ
objects_text names v = things_bytes Json names v

-- What there is in a state, in a form: the text of the state, which is read back, or an object for each thing. (own)
abbrev pub state_bytes : Form → Names → State → List ℕ
state_bytes Text names v = state_text names v
state_bytes Json names v = objects_text names v
