-- What is written of ways that there aren't.
use Rattle.std.specs.Prelude.{ℕ, Bool, true, false, not, ◌&&◌, List, [], ◌++◌, codes, if◌then◌else◌}
use Rattle.json.specs.Token.{Token}
use Rattle.mls_tree.specs.declared.profile.Profile.{Profile}
use Rattle.mls_tree.specs.declared.profile.Profile.TheVariants.{One, Two}
use Rattle.mls_state.specs.State.{State}
use Rattle.mls_paths.specs.Hands.{has_room}
use Rattle.mls_rows.specs.Members.{text_member}
use Rattle.mls_rows.specs.Rows.{row_bytes}
use Rattle.mls_rows.specs.declared.form.Form.{Form}
use Rattle.mls_flow_text.specs.declared.ending.Ending.{Ending}
use Rattle.mls_flow_text.specs.declared.ending.Ending.TheVariants.{Never, Full}

-- The word of it. (own)
abbrev pub ending_word : Ending → List ℕ
ending_word Never = codes "never"
ending_word Full = codes "full"

-- What stands behind the word. (own)
abbrev pub ending_tail : Ending → List ℕ
ending_tail Never = codes "\n"
ending_tail Full = codes ": no object could be made without a delete\n"

-- Its line. (own)
abbrev pub ending_line : Ending → List ℕ
ending_line ending = ending_word ending ++ ending_tail ending

-- Its member. (own)
abbrev pub ending_members : Ending → List Token
ending_members ending = text_member (codes "answer") (ending_word ending)

-- Whether numbers of objects are used again. (own)
abbrev pub is_reusing : Profile → Bool
is_reusing One = false
is_reusing Two = true

-- Whether no number is free for an object that is made, but some will be once objects are deleted. (own)
abbrev pub is_full : State → Bool
is_full v = is_reusing v.profile && not (has_room v)

-- The row that says so, where it is so. (own)
abbrev pub full_bytes : Form → State → List ℕ
full_bytes form v = if is_full v then row_bytes form (ending_line Full) (ending_members Full) else []

-- The row that content never comes to a place. (own)
abbrev pub never_bytes : Form → List ℕ
never_bytes form = row_bytes form (ending_line Never) (ending_members Never)
