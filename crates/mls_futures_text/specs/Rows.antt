-- What is written of whether an access could come about.
use Rattle.std.specs.Prelude.{ℕ, Bool, true, false, List, ◌++◌, codes}
use Rattle.std.specs.List.{flat_map}
use Rattle.json.specs.Token.{Token}
use Rattle.mls_lines.specs.Names.{Names}
use Rattle.mls_rows.specs.Members.{text_member}
use Rattle.mls_rows.specs.Rows.{row_bytes}
use Rattle.mls_rows.specs.declared.form.Form.{Form}
use Rattle.mls_futures_text.specs.Barriers.{barrier_text, barrier_members}
use Rattle.mls_futures_text.specs.declared.barrier.Why.{Why}

-- The word of it. (own)
abbrev pub answer_word : Bool → List ℕ
answer_word true = codes "yes"
answer_word false = codes "never"

-- Its line. (own)
abbrev pub answer_line : Bool → List ℕ
answer_line could = answer_word could ++ codes "\n"

-- Its member. (own)
abbrev pub answer_members : Bool → List Token
answer_members could = text_member (codes "answer") (answer_word could)

-- The first row of an answer. (own)
abbrev pub answer_bytes : Form → Bool → List ℕ
answer_bytes form could = row_bytes form (answer_line could) (answer_members could)

-- The rows of reasons, in a form. (own)
abbrev pub reasons_bytes : Names → Form → List Why → List ℕ
reasons_bytes names form found =
    flat_map (λ w. row_bytes form (barrier_text names w) (barrier_members names w)) found
