-- What is written of a request by the names of a start: the line of a script that asks for it.
use Rattle.std.specs.Prelude.{ℕ, List, ◌∷◌, ◌++◌}
use Rattle.mls_requests.specs.ActionWords.{action_word, word_of_action}
use Rattle.mls_requests.specs.ModeWords.{mode_word}
use Rattle.mls_requests.specs.declared.action.Action.{Action}
use Rattle.mls_requests.specs.declared.action.Action.TheVariants as action
use Rattle.mls_requests.specs.declared.request.Request.{Request}
use Rattle.mls_lines.specs.Names.{Names}
use Rattle.mls_wording.specs.Wording.{subject_text, object_text, security_text, integrity_text}

-- The operands of an action, with a space between each two. (own)
abbrev pub operands_text : Names → Action → List ℕ
operands_text names (action.Get x o) = object_text names o
operands_text names (action.Release x o) = mode_word x ++ 32 ∷ object_text names o
operands_text names (action.Give x s o) = mode_word x ++ 32 ∷ subject_text names s ++ 32 ∷ object_text names o
operands_text names (action.Rescind x s o) = mode_word x ++ 32 ∷ subject_text names s ++ 32 ∷ object_text names o
operands_text names (action.Create p l i) =
    object_text names p ++ 32 ∷ security_text names l ++ 32 ∷ integrity_text names i
operands_text names (action.Delete o) = object_text names o
operands_text names (action.SubjectLevel l) = security_text names l
operands_text names (action.ObjectLevel o l) = object_text names o ++ 32 ∷ security_text names l

-- The text of an action: its word and its operands. (own)
abbrev pub action_text : Names → Action → List ℕ
action_text names a = action_word (word_of_action a) ++ 32 ∷ operands_text names a

-- The text of a request: who asks, and the action. (own)
abbrev pub request_text : Names → Request → List ℕ
request_text names r = subject_text names r.subject ++ 32 ∷ action_text names r.action
