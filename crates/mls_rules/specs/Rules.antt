-- The rules: the reply to a request, and the state after it.
use Rattle.std.specs.Prelude.{◌≡◌, ℕ, Bool, true, false, not, ◌&&◌, ◌||◌, ◌==◌, nat_lt, Option, Some, None, List, []}
use Rattle.std.specs.Prelude.{◌∷◌, if◌then◌else◌}
use Rattle.std.specs.FinSet as set
use Rattle.std.specs.FinMap as map
use Rattle.mls_tables.specs.declared.mode.Mode.TheVariants.{Append, Write}
use Rattle.mls_tables.specs.declared.limits.TheConstants.{MAX_OBJECTS}
use Rattle.mls_labels.specs.Label.{Label, has_label}
use Rattle.mls_requests.specs.declared.action.Action.{Action}
use Rattle.mls_requests.specs.declared.action.Action.TheVariants.{Get, Release, Give, Rescind, Create, Delete}
use Rattle.mls_requests.specs.declared.action.Action.TheVariants.{SubjectLevel, ObjectLevel}
use Rattle.mls_requests.specs.declared.request.Request.{Request}
use Rattle.mls_requests.specs.declared.reason.Reason.{Reason}
use Rattle.mls_requests.specs.declared.reason.Reason.TheVariants.{Discretionary, Simple, Star, Integrity, Authority}
use Rattle.mls_requests.specs.declared.reason.Reason.TheVariants.{Compatibility, Ceiling, Root, Full}
use Rattle.mls_requests.specs.declared.reply.Reply.{Reply}
use Rattle.mls_requests.specs.declared.reply.Reply.TheVariants.{Yes, Created, No, Undefined}
use Rattle.mls_state.specs.State.{State, is_subject, is_active, is_above}
use Rattle.mls_state.specs.Properties.{simple_holds, star_holds, discretionary_holds, integrity_holds}
use Rattle.mls_state.specs.Changes.{with_current, with_object_label, with_object, without_group}
use Rattle.mls_rules.specs.Levels.{each_of_subject, each_of_object, label_fits}

-- Whether the subject writes the parent, where there is one. (own)
abbrev pub writes_parent : State → ℕ → Option ℕ → Bool
writes_parent v s None = false
writes_parent v s (Some p) = set.contains v.accesses (s, p, Write)

-- Whether the subject controls who may access an object: it writes the object's parent; at the root it is trusted.
-- (own, after MTR-2997's control by write access to the parent)
abbrev pub controls : State → ℕ → ℕ → Bool
controls v s o = if o == 0 then set.contains v.trusted s else writes_parent v s (map.get v.parent o)

-- Whether a subject may give an object a label: it is trusted; or the object isn't the root, the subject writes its
-- parent, and both the subject's current label and the new one dominate the object's. (own, after MTR-2997's rules to
-- change levels)
abbrev pub may_relabel : State → ℕ → ℕ → Label → Bool
may_relabel v s o l =
    set.contains v.trusted s
    || (not (o == 0)
    && (writes_parent v s (map.get v.parent o)
    && (is_above (map.get v.current s) (map.get v.object_label o) && is_above (Some l) (map.get v.object_label o))))

-- Whether all that an action names is there: subjects are known, objects active, and labels within the bounds. (own)
abbrev pub names_known : State → Action → Bool
names_known v (Get x o) = is_active v o
names_known v (Release x o) = is_active v o
names_known v (Give x t o) = is_subject v t && is_active v o
names_known v (Rescind x t o) = is_subject v t && is_active v o
names_known v (Create p l i) = is_active v p && (has_label v.security l && has_label v.integrity i)
names_known v (Delete o) = is_active v o
names_known v (SubjectLevel l) = has_label v.security l
names_known v (ObjectLevel o l) = is_active v o && has_label v.security l

-- Domain: the caller is known, and all that the action names is there. (MTR-2997, domain of a rule)
abbrev pub is_defined : State → Request → Bool
is_defined v r = is_subject v r.subject && names_known v r.action

-- Conditions of an action, in the order in which they are tried, each with the reason of the denial where it fails.
-- (get and release: MTR-2997, rules to get and to release access, with MTR-3153's strict integrity; the others own,
-- after MTR-2997's rules of these names; the order and the reasons own)
abbrev pub conditions : State → ℕ → Action → List (Reason × Bool)
conditions v s (Get x o) =
    (Discretionary, discretionary_holds v (s, o, x))
    ∷ (Simple, simple_holds v (s, o, x))
    ∷ (Star, star_holds v (s, o, x))
    ∷ (Integrity, integrity_holds v (s, o, x))
    ∷ []
conditions v s (Release x o) = []
conditions v s (Give x t o) = (Authority, controls v s o) ∷ []
conditions v s (Rescind x t o) = (Authority, controls v s o) ∷ []
conditions v s (Create p l i) =
    (Authority, set.contains v.accesses (s, p, Append) || set.contains v.accesses (s, p, Write))
    ∷ (Compatibility, is_above (Some l) (map.get v.object_label p))
    ∷ (Integrity, is_above (map.get v.object_integrity p) (Some i))
    ∷ (Full, nat_lt v.next MAX_OBJECTS)
    ∷ []
conditions v s (Delete o) = (Root, not (o == 0)) ∷ (Authority, writes_parent v s (map.get v.parent o)) ∷ []
conditions v s (SubjectLevel l) =
    (Ceiling, is_above (map.get v.maximum s) (Some l))
    ∷ (Star, each_of_subject v s (star_holds (with_current v s l))) ∷ []
conditions v s (ObjectLevel o l) =
    (Authority, may_relabel v s o l)
    ∷ (Compatibility, label_fits v o l)
    ∷ (Simple, each_of_object v o (simple_holds (with_object_label v o l)))
    ∷ (Star, each_of_object v o (star_holds (with_object_label v o l)))
    ∷ []

-- Every condition holds. (own)
abbrev pub AllHold : List (Reason × Bool) → Type 0
AllHold [] = Unit {0}
AllHold ((reason, holds) ∷ rest) = (holds ≡ true) × AllHold rest

-- The reason of the first condition that fails. (own)
abbrev pub first_failing : List (Reason × Bool) → Option Reason
first_failing [] = None
first_failing ((reason, holds) ∷ rest) = if holds then first_failing rest else Some reason

-- The reply to an action that is granted; a creation tells the new object's number. (MTR-2997, decision yes; the number
-- own)
abbrev pub granted : State → Action → Reply
granted v (Get x o) = Yes
granted v (Release x o) = Yes
granted v (Give x t o) = Yes
granted v (Rescind x t o) = Yes
granted v (Create p l i) = Created v.next
granted v (Delete o) = Yes
granted v (SubjectLevel l) = Yes
granted v (ObjectLevel o l) = Yes

-- A denial where there is a reason for one, else the grant. (own)
abbrev pub reply_unless : Option Reason → Reply → Reply
reply_unless None grant = grant
reply_unless (Some reason) grant = No reason

-- The reply to a request in the domain. (MTR-2997, decisions yes and no)
abbrev pub verdict : State → ℕ → Action → Reply
verdict v s action = reply_unless (first_failing (conditions v s action)) (granted v action)

-- The reply: undefined outside the domain, else a denial with the first condition that fails, else the grant.
-- (MTR-2997, decisions yes, no and ?)
abbrev pub reply : State → Request → Reply
reply v r = if is_defined v r then verdict v r.subject r.action else Undefined

-- Change: what a granted action makes of the state. All that isn't named stays the same. (get and release: MTR-2997,
-- rules to get and to release access; the others own, after its rules of these names)
abbrev pub change : State → ℕ → Action → State
change v s (Get x o) = record v { accesses = set.insert v.accesses (s, o, x) }
change v s (Release x o) = record v { accesses = set.remove v.accesses (s, o, x) }
change v s (Give x t o) = record v { matrix = set.insert v.matrix (t, o, x) }
change v s (Rescind x t o) =
    record v { matrix = set.remove v.matrix (t, o, x); accesses = set.remove v.accesses (t, o, x) }
change v s (Create p l i) = with_object v p l i
change v s (Delete o) = without_group v o
change v s (SubjectLevel l) = with_current v s l
change v s (ObjectLevel o l) = with_object_label v o l

-- The new state where the reply is a grant, else the old one. (own)
abbrev pub after_reply : Reply → State → State → State
after_reply Yes old new = new
after_reply (Created o) old new = new
after_reply (No reason) old new = old
after_reply Undefined old new = old

-- After: changed where the request is granted, else the same. (MTR-2997, rule)
abbrev pub after : State → Request → State
after v r = after_reply (reply v r) v (change v r.subject r.action)

-- Whether an action that is granted needs no memory. (own)
abbrev pub takes_no_room : Action → Bool
takes_no_room (Get x o) = false
takes_no_room (Release x o) = true
takes_no_room (Give x t o) = true
takes_no_room (Rescind x t o) = true
takes_no_room (Create p l i) = false
takes_no_room (Delete o) = false
takes_no_room (SubjectLevel l) = true
takes_no_room (ObjectLevel o l) = true

-- Whether a request needs no memory but for its entry: nothing is granted, or what is granted makes nothing new. (own)
abbrev pub needs_no_room : Reply → Action → Bool
needs_no_room Yes a = takes_no_room a
needs_no_room (Created o) a = takes_no_room a
needs_no_room (No reason) a = true
needs_no_room Undefined a = true
