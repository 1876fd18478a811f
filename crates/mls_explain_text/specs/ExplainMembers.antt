-- The members of an explanation.
use Rattle.std.specs.Prelude.{ℕ, Bool, true, false, List, [], ◌∷◌, ◌++◌, codes}
use Rattle.json.specs.Token.{Token, boolean, key}
use Rattle.mls_labels.specs.Label.{Label}
use Rattle.mls_tables.specs.Triples.{Triple}
use Rattle.mls_requests.specs.ReasonWords.{reason_word}
use Rattle.mls_requests.specs.declared.action.Action.{Action}
use Rattle.mls_requests.specs.declared.action.Action.TheVariants.{Get, SubjectLevel, ObjectLevel}
use Rattle.mls_requests.specs.declared.reason.Reason.{Reason}
use Rattle.mls_requests.specs.declared.reason.Reason.TheVariants.{Simple, Star}
use Rattle.mls_requests.specs.declared.reply.Reply.{Reply}
use Rattle.mls_requests.specs.declared.reply.Reply.TheVariants.{No, Undefined}
use Rattle.mls_requests.specs.declared.request.Request.{Request}
use Rattle.mls_lines.specs.Names.{Names}
use Rattle.mls_state.specs.State.{State}
use Rattle.mls_rules.specs.Rules.{reply}
use Rattle.mls_rows.specs.Members.{mode_member, object_of, object_member, subject_member, text_member}
use Rattle.mls_explain.specs.Demands.{failing_of_subject, failing_of_object}
use Rattle.mls_explain.specs.declared.demand.Demand.TheVariants.{StarAtLevel, SimpleAtLabel, StarAtLabel}
use Rattle.mls_explain.specs.declared.judgement.Judgement.{Judgement}
use Rattle.mls_explain.specs.Ways.{releases_for}
use Rattle.mls_explain.specs.declared.unknown.Unknown.{Unknown}
use Rattle.mls_explain.specs.declared.unknown.Unknown.TheVariants as unknown
use Rattle.mls_explain.specs.declared.way.Way.{Way}
use Rattle.mls_wording.specs.Wording.{security_text, integrity_text}
use Rattle.mls_explain_text.specs.AnswerMembers.{reply_members}
use Rattle.mls_explain_text.specs.Bases.{basis_text, is_told}
use Rattle.mls_explain_text.specs.Holdings.{some_list, holding_object}
use Rattle.mls_explain_text.specs.StepMembers.{remedy_steps}
use Rattle.mls_explain_text.specs.WhoMembers.{way_member}
use Rattle.mls_remedies.specs.declared.ending.Ending.{Ending}
use Rattle.mls_remedies.specs.declared.step.Step.{Step}

-- The subject and the mode of an access. (own)
abbrev pub holder_object : Names → Triple → List Token
holder_object names t =
    object_of (subject_member (codes "subject") (codes "subject_name") names t.0 ++ mode_member (codes "mode") t.2)

-- What is in the way of a subject's new current label, where the condition of this reason fails. (own)
abbrev pub level_members : Names → State → ℕ → Label → Reason → List Token
level_members names v s l Star =
    some_list (codes "accesses") (holding_object names) (failing_of_subject (StarAtLevel s l) v s)
level_members names v s l reason = []

-- What is in the way of an object's new label, where the condition of this reason fails. (own)
abbrev pub label_members : Names → State → ℕ → Label → Reason → List Token
label_members names v o l Simple =
    some_list (codes "accesses") (holder_object names) (failing_of_object (SimpleAtLabel o l) v o)
label_members names v o l Star =
    some_list (codes "accesses") (holder_object names) (failing_of_object (StarAtLabel o l) v o)
label_members names v o l reason = []

-- What is in the way of an action of a subject, where its condition of this reason fails. (own)
abbrev pub action_members : Names → State → ℕ → Action → Reason → List Token
action_members names v s (SubjectLevel l) reason = level_members names v s l reason
action_members names v s (ObjectLevel o l) reason = label_members names v o l reason
action_members names v s action reason = []

-- Where a condition fails, the accesses in the way. (own)
abbrev pub way_members : Names → State → Request → Bool → Reason → List Token
way_members names v r true reason = []
way_members names v r false reason = action_members names v r.subject r.action reason

-- Whether a condition holds. (own)
abbrev pub holds_member : Bool → List Token
holds_member holds = key (codes "holds") ∷ boolean holds ∷ []

-- That a condition holds by trust, where it does and fails without. (own)
abbrev pub trust_member : Bool → Bool → List Token
trust_member true false = key (codes "by_trust") ∷ boolean true ∷ []
trust_member true true = []
trust_member false alone = []

-- A condition: its reason, whether it holds, whether by trust, and what it rests on without trust. (own)
abbrev pub condition_members : Names → Judgement → List Token
condition_members names j =
    text_member (codes "reason") (reason_word j.condition.reason) ++ holds_member j.condition.holds
    ++ trust_member j.condition.holds j.plain.holds
    ++ text_member (codes "basis") (basis_text names (is_told j) j.plain.basis)

-- The object of a condition, with the accesses in its way. (own)
abbrev pub condition_object : Names → State → Request → Judgement → List Token
condition_object names v r j =
    object_of (condition_members names j ++ way_members names v r j.condition.holds j.condition.reason)

-- The conditions of a request. (own)
abbrev pub conditions_member : Names → State → Request → List Judgement → List Token
conditions_member names v r all = some_list (codes "conditions") (condition_object names v r) all

-- What follows the denial of an action: of a get what it would take. (own)
abbrev pub remedy_of_action : Names → Action → Way → List Triple → List Token
remedy_of_action names (Get x o) way releases = way_member names way releases
remedy_of_action names action way releases = []

-- What follows the conditions of a request: after a denial what it would take. (own)
abbrev pub remedy_members : Names → Request → Reply → Way → List Triple → List Token
remedy_members names r (No reason) way releases = remedy_of_action names r.action way releases
remedy_members names r reply way releases = []

-- The explanation of a request in the domain: the reply, the conditions, what it would take of its subject alone, and
-- its remedy. (own)
abbrev pub explanation_members : Names → State → Request → List Judgement → Way → List Step → Ending → List Token
explanation_members names v r all way steps ending =
    reply_members (reply v r) ++ conditions_member names v r all
    ++ remedy_members names r (reply v r) way (releases_for v r.subject way) ++ remedy_steps names steps ending

-- What isn't there: what it is, and which. (own)
abbrev pub unknown_members : Names → Unknown → List Token
unknown_members names (unknown.Subject s) =
    text_member (codes "what") (codes "subject") ++ subject_member (codes "subject") (codes "subject_name") names s
unknown_members names (unknown.Object o) =
    text_member (codes "what") (codes "object") ++ object_member (codes "object") (codes "object_name") names o
unknown_members names (unknown.Security l) =
    text_member (codes "what") (codes "security") ++ text_member (codes "security") (security_text names l)
unknown_members names (unknown.Integrity i) =
    text_member (codes "what") (codes "integrity") ++ text_member (codes "integrity") (integrity_text names i)

-- The object of what isn't there. (own)
abbrev pub unknown_object : Names → Unknown → List Token
unknown_object names u = object_of (unknown_members names u)

-- The explanation of a request outside the domain, which names these things that aren't there. (own)
abbrev pub undefined_members : Names → List Unknown → List Token
undefined_members names found = reply_members Undefined ++ some_list (codes "missing") (unknown_object names) found
