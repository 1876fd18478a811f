-- What the conditions of a request rest on: which values are compared in each of them.
use Rattle.std.specs.Prelude.{ℕ, Bool, ◌==◌, List, [], ◌∷◌, map, Option, Some, None, unwrap_or, if◌then◌else◌}
use Rattle.std.specs.Ordering.{nat_cmp}
use Rattle.std.specs.FinSet as set
use Rattle.std.specs.FinMap as table
use Rattle.std.specs.FinMap.{FinMap}
use Rattle.mls_labels.specs.Label.{Label, dominates}
use Rattle.mls_tables.specs.Mode.{observes}
use Rattle.mls_tables.specs.declared.mode.Mode.{Mode}
use Rattle.mls_tables.specs.declared.mode.Mode.TheVariants.{Execute, Read, Append, Write}
use Rattle.mls_requests.specs.declared.action.Action.{Action}
use Rattle.mls_requests.specs.declared.action.Action.TheVariants as action
use Rattle.mls_requests.specs.declared.reason.Reason.{Reason}
use Rattle.mls_state.specs.State.{State, is_above}
use Rattle.mls_rules.specs.Levels.{each_child}
use Rattle.mls_rules.specs.Rules.{writes_parent}
use Rattle.mls_explain.specs.declared.condition.Condition.{Condition}
use Rattle.mls_explain.specs.declared.ground.Ground.{Ground}
use Rattle.mls_explain.specs.declared.ground.Ground.TheVariants as rests
use Rattle.mls_explain.specs.declared.ground.Relabelling.{Relabelling}
use Rattle.mls_explain.specs.declared.ground.Place.{Place}
use Rattle.mls_explain.specs.declared.term.Term.{Term}
use Rattle.mls_explain.specs.declared.term.Term.TheVariants as term

-- The label without height: level 0 and no category. (own)
abbrev pub lowest : Label
lowest = record { level = 0; categories = set.empty }

-- The label that a table has of a number, the lowest where it has none. (own)
abbrev pub label_at : FinMap nat_cmp Label → ℕ → Label
label_at labels n = unwrap_or (table.get labels n) lowest

-- The parent of an object, the root where it has none. (own)
abbrev pub parent_of : State → ℕ → ℕ
parent_of v o = unwrap_or (table.get v.parent o) 0

-- A subject's maximum label, as a term that is compared. (own)
abbrev pub maximum_of : State → ℕ → Term
maximum_of v s = term.Maximum (label_at v.maximum s)

-- A subject's current label. (own)
abbrev pub current_of : State → ℕ → Term
current_of v s = term.Current (label_at v.current s)

-- An object's security label. (own)
abbrev pub security_of : State → ℕ → Term
security_of v o = term.Object (label_at v.object_label o) o

-- A subject's integrity label. (own)
abbrev pub trust_of_subject : State → ℕ → Term
trust_of_subject v s = term.SubjectIntegrity (label_at v.subject_integrity s) s

-- An object's integrity label. (own)
abbrev pub trust_of_object : State → ℕ → Term
trust_of_object v o = term.ObjectIntegrity (label_at v.object_integrity o) o

-- What simple security of an access rests on. (MTR-2997, ss-property)
abbrev pub simple_ground : State → ℕ → ℕ → Mode → Ground
simple_ground v s o x = if observes x then rests.Dominance (maximum_of v s) (security_of v o) else rests.Unobserving x

-- What the star property of an untrusted subject's access rests on. (MTR-2997, *-property)
abbrev pub star_between_ground : Term → Term → Mode → Ground
star_between_ground current label Execute = rests.Inert
star_between_ground current label Read = rests.Dominance current label
star_between_ground current label Append = rests.Dominance label current
star_between_ground current label Write = rests.Equality current label

-- What the star property of an access rests on. (MTR-2997, *-property relative to the untrusted subjects)
abbrev pub star_ground : State → ℕ → ℕ → Mode → Ground
star_ground v s o x =
    if set.contains v.trusted s then rests.Trust s else star_between_ground (current_of v s) (security_of v o) x

-- What strict integrity of an access rests on, between the terms of the subject and of the object. (MTR-3153, strict
-- integrity policy)
abbrev pub integrity_between_ground : Term → Term → Mode → Ground
integrity_between_ground own label Execute = rests.Dominance label own
integrity_between_ground own label Read = rests.Dominance label own
integrity_between_ground own label Append = rests.Dominance own label
integrity_between_ground own label Write = rests.Equality own label

-- What strict integrity of an access rests on. (MTR-3153, strict integrity policy)
abbrev pub integrity_ground : State → ℕ → ℕ → Mode → Ground
integrity_ground v s o x = integrity_between_ground (trust_of_subject v s) (trust_of_object v o) x

-- What the control of an object rests on. (own)
abbrev pub control_ground : State → ℕ → ℕ → Ground
control_ground v s o = if o == 0 then rests.Trust s else rests.Writing s (parent_of v o)

-- What authority to delete an object rests on. (own)
abbrev pub delete_ground : State → ℕ → ℕ → Option ℕ → Ground
delete_ground v s o None = rests.Parentless o
delete_ground v s o (Some p) = rests.Writing s p

-- What the star property of all that a subject holds rests on, with another current label. (own)
abbrev pub holdings_ground : State → ℕ → Label → Ground
holdings_ground v s l = if set.contains v.trusted s then rests.Trust s else rests.Holdings s l

-- What authority of a subject without trust to give an object a label rests on. (own)
abbrev pub plain_relabel_ground : State → ℕ → ℕ → Label → Ground
plain_relabel_ground v s o l =
    if o == 0 then rests.Trust s
    else rests.Relabelling (record {
      subject = s;
      parent = parent_of v o;
      writes = writes_parent v s (table.get v.parent o);
      object = o;
      current = label_at v.current s;
      label = label_at v.object_label o;
      new = l;
    })

-- What authority to give an object a label rests on. (own)
abbrev pub relabel_ground : State → ℕ → ℕ → Label → Ground
relabel_ground v s o l = if set.contains v.trusted s then rests.Trust s else plain_relabel_ground v s o l

-- Whether the label of each child of an object dominates a label. (MTR-2997, compatibility)
abbrev pub children_fit : State → ℕ → Label → Bool
children_fit v o l = each_child v o (λ c. is_above (table.get v.object_label c) (Some l))

-- What the fit of a label to the place of an object rests on. (MTR-2997, compatibility)
abbrev pub place_ground : State → ℕ → Label → Option ℕ → Ground
place_ground v o l None = rests.Children o l
place_ground v o l (Some p) = rests.Place (record {
  object = o;
  new = l;
  parent = p;
  label = label_at v.object_label p;
  below = children_fit v o l;
})

-- What each condition of an action rests on, in the order of the conditions. (own)
abbrev pub grounds : State → ℕ → Action → List Ground
grounds v s (action.Get x o) =
    rests.Permission s x o ∷ simple_ground v s o x ∷ star_ground v s o x ∷ integrity_ground v s o x ∷ []
grounds v s (action.Release x o) = []
grounds v s (action.Give x t o) = control_ground v s o ∷ []
grounds v s (action.Rescind x t o) = control_ground v s o ∷ []
grounds v s (action.Create p l i) =
    rests.Altering s p
    ∷ rests.Dominance (term.Security l) (security_of v p)
    ∷ rests.Dominance (trust_of_object v p) (term.Integrity i)
    ∷ rests.Number v.next
    ∷ []
grounds v s (action.Delete o) = rests.Root o ∷ delete_ground v s o (table.get v.parent o) ∷ []
grounds v s (action.SubjectLevel l) =
    rests.Dominance (maximum_of v s) (term.Security l) ∷ holdings_ground v s l ∷ []
grounds v s (action.ObjectLevel o l) =
    relabel_ground v s o l
    ∷ place_ground v o l (table.get v.parent o)
    ∷ rests.Observers o l
    ∷ rests.Holders o l
    ∷ []

-- The conditions as the rules have them: the reason of each, and whether it holds. (own)
abbrev pub tests_of : List Condition → List (Reason × Bool)
tests_of conditions = map (λ c. (c.reason, c.holds)) conditions

-- What each of the conditions rests on. (own)
abbrev pub grounds_of : List Condition → List Ground
grounds_of conditions = map (λ c. c.basis) conditions
