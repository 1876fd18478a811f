-- What is written of requests.
use Rattle.std.specs.Prelude.{ℕ, List, ◌++◌, codes}
use Rattle.std.specs.List.{flat_map}
use Rattle.json.specs.Token.{Token}
use Rattle.mls_labels.specs.Label.{Label}
use Rattle.mls_tables.specs.declared.mode.Mode.{Mode}
use Rattle.mls_requests.specs.ActionWords.{action_word, word_of_action}
use Rattle.mls_requests.specs.declared.action.Action.{Action}
use Rattle.mls_requests.specs.declared.action.Action.TheVariants as action
use Rattle.mls_requests.specs.declared.request.Request.{Request}
use Rattle.mls_lines.specs.Names.{Names}
use Rattle.mls_rows.specs.Members.{mode_member, object_member, subject_member, text_member}
use Rattle.mls_rows.specs.Rows.{row_bytes}
use Rattle.mls_rows.specs.declared.form.Form.{Form}
use Rattle.mls_wording.specs.RequestText.{request_text}
use Rattle.mls_wording.specs.Wording.{integrity_text, security_text}

-- The object that an action is about. (own)
abbrev pub of_object : Names → ℕ → List Token
of_object names o = object_member (codes "object") (codes "object_name") names o

-- The parent of an object that is made. (own)
abbrev pub of_parent : Names → ℕ → List Token
of_parent names o = object_member (codes "parent") (codes "parent_name") names o

-- The subject whose permission is given or rescinded. (own)
abbrev pub of_whose : Names → ℕ → List Token
of_whose names s = subject_member (codes "whose") (codes "whose_name") names s

-- A mode. (own)
abbrev pub of_mode : Mode → List Token
of_mode x = mode_member (codes "mode") x

-- A security label. (own)
abbrev pub of_security : Names → Label → List Token
of_security names l = text_member (codes "security") (security_text names l)

-- An integrity label. (own)
abbrev pub of_integrity : Names → Label → List Token
of_integrity names i = text_member (codes "integrity") (integrity_text names i)

-- The operands of an action. (own)
abbrev pub operand_members : Names → Action → List Token
operand_members names (action.Get x o) = of_object names o
operand_members names (action.Release x o) = of_mode x ++ of_object names o
operand_members names (action.Give x s o) = of_mode x ++ of_whose names s ++ of_object names o
operand_members names (action.Rescind x s o) = of_mode x ++ of_whose names s ++ of_object names o
operand_members names (action.Create p l i) = of_parent names p ++ of_security names l ++ of_integrity names i
operand_members names (action.Delete o) = of_object names o
operand_members names (action.SubjectLevel l) = of_security names l
operand_members names (action.ObjectLevel o l) = of_object names o ++ of_security names l

-- The word of an action. (own)
abbrev pub action_member : Action → List Token
action_member a = text_member (codes "action") (action_word (word_of_action a))

-- A request: who asks, the word of the action, and its operands. (own)
abbrev pub asked_members : Names → Request → List Token
asked_members names r =
    subject_member (codes "subject") (codes "subject_name") names r.subject ++ action_member r.action
    ++ operand_members names r.action

-- The line of a request. (own)
abbrev pub request_line : Names → Request → List ℕ
request_line names r = request_text names r ++ codes "\n"

-- The rows of requests, in a form. (own)
abbrev pub requests_bytes : Names → Form → List Request → List ℕ
requests_bytes names form requests =
    flat_map (λ r. row_bytes form (request_line names r) (asked_members names r)) requests
