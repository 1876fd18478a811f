-- What subjects may change in a state.
use Rattle.std.specs.Prelude.{ℕ, Bool, true, false, not, ◌&&◌, Option, Some, None, List, [], ◌∷◌, ◌++◌, filter}
use Rattle.std.specs.Prelude.{if◌then◌else◌}
use Rattle.std.specs.FinMap as map
use Rattle.std.specs.List.{flat_map}
use Rattle.mls_labels.specs.Label.{Label, dominates}
use Rattle.mls_labels.specs.Same.{same_label}
use Rattle.mls_tables.specs.declared.mode.Mode.TheVariants.{Read}
use Rattle.mls_requests.specs.declared.action.Action.{Action}
use Rattle.mls_requests.specs.declared.action.Action.TheVariants.{Give, Create, Delete, SubjectLevel, ObjectLevel}
use Rattle.mls_requests.specs.declared.reply.Reply.{Reply}
use Rattle.mls_requests.specs.declared.reply.Reply.TheVariants.{Yes, Created, No, Undefined}
use Rattle.mls_state.specs.State.{State, is_subject, is_active}
use Rattle.mls_rules.specs.Rules.{reply}
use Rattle.mls_review.specs.Distinct.{distinct}
use Rattle.mls_review.specs.Findings.{subjects, objects}
use Rattle.mls_review.specs.Granted.{Granted, over, relabels}
use Rattle.mls_review.specs.declared.power.Power.{Power}
use Rattle.mls_review.specs.declared.power.Power.TheVariants.{Gives, Creates, Deletes}
use Rattle.mls_review.specs.declared.relabeling.Relabeling.{Relabeling}
use Rattle.mls_review.specs.declared.relabeling.Relabeling.TheVariants.{Level, Down, Aside, Up}
use Rattle.mls_review.specs.declared.authority.Asked.{Asked}

-- Whether a reply grants. (MTR-2997, decision yes)
abbrev pub is_granted : Reply → Bool
is_granted Yes = true
is_granted (Created o) = true
is_granted (No reason) = false
is_granted Undefined = false

-- Whether what a subject asks is granted. (MTR-2997, decision yes)
abbrev pub may : State → ℕ → Action → Bool
may v s a = is_granted (reply v (record { subject = s; action = a }))

-- Whether a subject may create an object that has these labels. (own)
abbrev pub may_create : State → ℕ → ℕ → Option Label → Option Label → Bool
may_create v s p (Some security) (Some integrity) = may v s (Create p security integrity)
may_create v s p (Some security) None = false
may_create v s p None integrity = false

-- Whether a subject has a power over an object: it may give permissions on it, and rescind them, of which the rules ask
-- the same, whatever the mode and whosever the permission is; create an object below it, with its labels if with any;
-- or delete it. (own)
abbrev pub has_power : State → ℕ → Power → ℕ → Bool
has_power v s Gives o = may v s (Give Read s o)
has_power v s Creates o = may_create v s o (map.get v.object_label o) (map.get v.object_integrity o)
has_power v s Deletes o = may v s (Delete o)

-- A power over an object, where a subject has it. (own)
abbrev pub power_over : State → ℕ → Power → ℕ → List Granted
power_over v s power o = if has_power v s power o then over s power o ∷ [] else []

-- Whether the object of a change of labels is there. (own)
abbrev pub is_there : State → Relabeling → Bool
is_there v Level = true
is_there v (Down o) = is_active v o
is_there v (Aside o) = is_active v o
is_there v (Up o) = is_active v o

-- Whether a label is another one than that which is there. (own)
abbrev pub is_other : Option Label → Label → Bool
is_other None l = false
is_other (Some there) l = not (same_label there l)

-- Whether the label that is there dominates a label, and is another one. (own)
abbrev pub is_down : Option Label → Label → Bool
is_down None l = false
is_down (Some there) l = dominates there l && not (same_label there l)

-- Whether neither of a label and the one that is there dominates the other. (own)
abbrev pub is_aside : Option Label → Label → Bool
is_aside None l = false
is_aside (Some there) l = not (dominates l there) && not (dominates there l)

-- Whether a label dominates the one that is there, and is another one. (own)
abbrev pub is_up : Option Label → Label → Bool
is_up None l = false
is_up (Some there) l = dominates l there && not (same_label there l)

-- Whether a subject may take a label itself, or give it to an object: one below the present label, one that is neither
-- below nor above it, or one above it. (own)
abbrev pub may_take : State → ℕ → Relabeling → Label → Bool
may_take v s Level l = is_other (map.get v.current s) l && may v s (SubjectLevel l)
may_take v s (Down o) l = is_down (map.get v.object_label o) l && may v s (ObjectLevel o l)
may_take v s (Aside o) l = is_aside (map.get v.object_label o) l && may v s (ObjectLevel o l)
may_take v s (Up o) l = is_up (map.get v.object_label o) l && may v s (ObjectLevel o l)

-- Labels that a subject may take or give, where there are any. (own)
abbrev pub labels_taken : ℕ → Relabeling → List Label → List Granted
labels_taken s r [] = []
labels_taken s r (l ∷ ls) = relabels s r (l ∷ ls) ∷ []

-- Those of some labels that a subject may take or give, where there are any. (own)
abbrev pub relabelings : State → List Label → ℕ → Relabeling → List Granted
relabelings v labels s r = labels_taken s r (filter (may_take v s r) labels)

-- The labels that a subject may give to an object and that don't dominate the present one: those below it, and those
-- that are neither below nor above it. (own)
abbrev pub downgrades_of : State → List Label → ℕ → ℕ → List Granted
downgrades_of v labels s o = relabelings v labels s (Down o) ++ relabelings v labels s (Aside o)

-- The labels that a subject may give to an object: those that don't dominate the present one, and those above it. (own)
abbrev pub object_relabelings : State → List Label → ℕ → ℕ → List Granted
object_relabelings v labels s o = downgrades_of v labels s o ++ relabelings v labels s (Up o)

-- What a subject may change: in the order of the rules, and by object. (own)
abbrev pub subject_powers : State → List Label → ℕ → List Granted
subject_powers v labels s =
    flat_map (power_over v s Gives) (objects v) ++ flat_map (power_over v s Creates) (objects v)
    ++ flat_map (power_over v s Deletes) (objects v) ++ relabelings v labels s Level
    ++ flat_map (object_relabelings v labels s) (objects v)

-- What a subject may downgrade, by object. (own)
abbrev pub subject_downgrades : State → List Label → ℕ → List Granted
subject_downgrades v labels s = flat_map (downgrades_of v labels s) (objects v)

-- The subjects that are asked for: one, where it is known, or all. (own)
abbrev pub asked_subjects : State → Option ℕ → List ℕ
asked_subjects v None = subjects v
asked_subjects v (Some s) = if is_subject v s then s ∷ [] else []

-- What is asked for of a subject, with the labels that are in use. (own)
abbrev pub granted_of : State → Bool → ℕ → List Granted
granted_of v downgrades s =
    if downgrades then subject_downgrades v (distinct v) s else subject_powers v (distinct v) s

-- What subjects may change, as far as it is asked for. (own)
abbrev pub powers : State → Asked → List Granted
powers v asked = flat_map (granted_of v asked.downgrades) (asked_subjects v asked.subject)
