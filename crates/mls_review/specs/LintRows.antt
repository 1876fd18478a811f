-- What `mls lint` prints of a start.
use Rattle.std.specs.Prelude.{ℕ, ◌==◌, List, ◌∷◌, ◌++◌, [], codes, map, if◌then◌else◌}
use Rattle.std.specs.Fmt.{decimal}
use Rattle.std.specs.List.{flat_map}
use Rattle.json.specs.Token.{Token}
use Rattle.mls_lines.specs.Names.{Names}
use Rattle.mls_requests.specs.ModeWords.{mode_word}
use Rattle.mls_requests.specs.ReasonWords.{reason_word}
use Rattle.mls_rows.specs.Members.{access_members, number_member, object_member, subject_member, text_member}
use Rattle.mls_rows.specs.Rows.{row_bytes}
use Rattle.mls_rows.specs.declared.form.Form.{Form}
use Rattle.mls_state.specs.State.{State}
use Rattle.mls_wording.specs.Wording.{subject_text, object_text}
use Rattle.mls_review.specs.Findings.{dead, unused, idle}
use Rattle.mls_review.specs.Flows.{downflows}
use Rattle.mls_review.specs.declared.dead.Dead.{Dead}
use Rattle.mls_review.specs.declared.downflow.Downflow.{Downflow}
use Rattle.mls_review.specs.declared.finding.Finding.{Finding}
use Rattle.mls_review.specs.declared.finding.Finding.TheVariants as finding

-- The findings of a state: its dead permissions, then its unused objects, its idle subjects and its flows
-- downwards. (own)
abbrev pub findings : State → List Finding
findings v =
    map finding.Dead (dead v) ++ map finding.Unused (unused v) ++ map finding.Idle (idle v)
    ++ map finding.Downflow (downflows v)

-- The line of a dead permission. (own)
abbrev pub dead_line : Names → Dead → List ℕ
dead_line names d =
    codes "dead: " ++ subject_text names d.subject ++ 32 ∷ mode_word d.mode ++ 32 ∷ object_text names d.object
    ++ codes ": " ++ reason_word d.reason ++ 10 ∷ []

-- The line of an object without a permission of use. (own)
abbrev pub unused_line : Names → ℕ → List ℕ
unused_line names o = codes "unused: " ++ object_text names o ++ 10 ∷ []

-- The line of a subject without a permission of use. (own)
abbrev pub idle_line : Names → ℕ → List ℕ
idle_line names s = codes "idle: " ++ subject_text names s ++ 10 ∷ []

-- The word for so many pairs. (own)
abbrev pub pairs_word : ℕ → List ℕ
pairs_word n = if n == 1 then codes " pair, as " else codes " pairs, as "

-- The line of a flow downwards. (own)
abbrev pub downflow_line : Names → Downflow → List ℕ
downflow_line names f =
    codes "downflow: " ++ subject_text names f.subject ++ codes ": " ++ decimal f.pairs ++ pairs_word f.pairs
    ++ object_text names f.from ++ codes " to " ++ object_text names f.to ++ 10 ∷ []

-- The line of a finding. (own)
abbrev pub finding_line : Names → Finding → List ℕ
finding_line names (finding.Dead d) = dead_line names d
finding_line names (finding.Unused o) = unused_line names o
finding_line names (finding.Idle s) = idle_line names s
finding_line names (finding.Downflow f) = downflow_line names f

-- Which finding it is. (own)
abbrev pub kind_member : List ℕ → List Token
kind_member word = text_member (codes "finding") word

-- A subject that is found. (own)
abbrev pub found_subject : Names → ℕ → List Token
found_subject names s = subject_member (codes "subject") (codes "subject_name") names s

-- An object that is found. (own)
abbrev pub found_object : Names → ℕ → List Token
found_object names o = object_member (codes "object") (codes "object_name") names o

-- The members of a dead permission. (own)
abbrev pub dead_members : Names → Dead → List Token
dead_members names d =
    kind_member (codes "dead") ++ access_members names (d.subject, d.object, d.mode)
    ++ text_member (codes "reason") (reason_word d.reason)

-- The members of a pair of objects. (own)
abbrev pub pair_members : Names → ℕ → ℕ → List Token
pair_members names from to =
    object_member (codes "from") (codes "from_name") names from ++ object_member (codes "to") (codes "to_name") names to

-- How many pairs a flow downwards has, and the first of them. (own)
abbrev pub pairs_members : Names → Downflow → List Token
pairs_members names f = number_member (codes "pairs") f.pairs ++ pair_members names f.from f.to

-- The members of a flow downwards. (own)
abbrev pub downflow_members : Names → Downflow → List Token
downflow_members names f =
    kind_member (codes "downflow") ++ found_subject names f.subject ++ pairs_members names f

-- The members of a finding. (own)
abbrev pub finding_members : Names → Finding → List Token
finding_members names (finding.Dead d) = dead_members names d
finding_members names (finding.Unused o) = kind_member (codes "unused") ++ found_object names o
finding_members names (finding.Idle s) = kind_member (codes "idle") ++ found_subject names s
finding_members names (finding.Downflow f) = downflow_members names f

-- A finding in a form: its line, or its object in a line. (own)
abbrev pub finding_row : Form → Names → Finding → List ℕ
finding_row form names f = row_bytes form (finding_line names f) (finding_members names f)

-- What is printed in a form of the findings of a state. (own)
abbrev pub lint_bytes : Form → Names → State → List ℕ
lint_bytes form names v = flat_map (finding_row form names) (findings v)
