-- What is said of marks that were verified.
use Rattle.std.specs.Prelude.{ℕ, ◌-◌, ◌==◌, List, [], ◌++◌, codes, Option, Some, None, if◌then◌else◌}
use Rattle.hex.specs.Hex.{encode_lower}
use Rattle.json.specs.Token.{Token}
use Rattle.mls_marks.specs.declared.digest.Digest.{Digest}
use Rattle.mls_marks.specs.declared.verified.Verified.{Verified}
use Rattle.mls_replay.specs.Checked.{count_line}
use Rattle.mls_rows.specs.Members.{number_member, text_member}
use Rattle.mls_rows.specs.Rows.{row_bytes}
use Rattle.mls_rows.specs.declared.form.Form.{Form}

-- The line of a digest, in lower-case hex. (own)
abbrev pub last_line : Digest → List ℕ
last_line digest = codes "last " ++ encode_lower digest.bytes ++ codes "\n"

-- The line of the times of the first mark and of the last, where there are marks. (own)
abbrev pub times_line : Option (List ℕ) → Option (List ℕ) → List ℕ
times_line (Some first) (Some last) = codes "from " ++ first ++ codes " to " ++ last ++ codes "\n"
times_line (Some first) None = []
times_line None last = []

-- The line of how many marks are earlier than the one before, where there are any. (own)
abbrev pub back_line : ℕ → List ℕ
back_line count = if count == 0 then [] else count_line (codes "back ") count

-- The line of how many entries no mark covers, where there are any. (own)
abbrev pub unmarked_line : ℕ → List ℕ
unmarked_line count = if count == 0 then [] else count_line (codes "unmarked ") count

-- The lines of marks that agree with a journal of so many entries. (own)
abbrev pub verified_line : ℕ → Verified → List ℕ
verified_line entries found =
    count_line (codes "entries ") entries ++ last_line found.chain.digest ++ times_line found.first found.last
    ++ back_line found.back ++ unmarked_line (entries - found.chain.entries)

-- The times of the first mark and of the last, where there are marks. (own)
abbrev pub times_members : Option (List ℕ) → Option (List ℕ) → List Token
times_members (Some first) (Some last) = text_member (codes "from") first ++ text_member (codes "to") last
times_members (Some first) None = []
times_members None last = []

-- How many marks are earlier than the one before, where there are any. (own)
abbrev pub back_members : ℕ → List Token
back_members count = if count == 0 then [] else number_member (codes "back") count

-- How many entries no mark covers, where there are any. (own)
abbrev pub unmarked_members : ℕ → List Token
unmarked_members count = if count == 0 then [] else number_member (codes "unmarked") count

-- The members of marks that agree with a journal of so many entries. (own)
abbrev pub verified_members : ℕ → Verified → List Token
verified_members entries found =
    number_member (codes "entries") entries ++ text_member (codes "last") (encode_lower found.chain.digest.bytes)
    ++ times_members found.first found.last ++ back_members found.back
    ++ unmarked_members (entries - found.chain.entries)

-- What is said in a form of marks that agree with a journal of so many entries. (own)
abbrev pub verified_bytes : Form → ℕ → Verified → List ℕ
verified_bytes form entries found =
    row_bytes form (verified_line entries found) (verified_members entries found)
