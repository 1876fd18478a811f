-- How labels change along a journal.
use Rattle.std.proofs.Common.{◌≡◌, ℕ, zero, suc, Bool, true, false, not, ◌&&◌, ◌||◌, ◌⊎◌, inl, inr, List, [], ◌∷◌, Option, Some, None, is_some, refl, sym, ap, subst, ◌∙◌}
use Rattle.std.specs.Prelude.{◌==◌}
use Rattle.std.proofs.lemmas.Bool.{and_parts}
use Rattle.std.specs.FinMap as map
use Rattle.std.specs.FinSet as set
use Rattle.mls_facts.proofs.Entries.{by_number, at_new, elsewhere, has-kept, at_kept}
use Rattle.mls_labels.specs.Label.{Label}
use Rattle.mls_labels.proofs.Laws.{reflexive}
use Rattle.mls_requests.specs.declared.action.Action.{Action}
use Rattle.mls_requests.specs.declared.action.Action.TheVariants.{Get, Release, Give, Rescind, Create, Delete, SubjectLevel, ObjectLevel}
use Rattle.mls_requests.specs.declared.request.Request.{Request}
use Rattle.mls_requests.specs.declared.reply.Reply.TheVariants.{Yes}
use Rattle.mls_requests.specs.declared.entry.Entry.{Entry}
use Rattle.mls_state.specs.State.{State, is_active, is_above}
use Rattle.mls_state.specs.Changes.{stays}
use Rattle.mls_state.specs.Properties.{IsSecure, HasTree}
use Rattle.mls_rules.proofs.Laws.{after_secure}
use Rattle.mls_rules.specs.Rules.{conditions, AllHold, granted, reply, change, after, writes_parent}
use Rattle.mls_monitor.specs.Journal.{fold}
use Rattle.mls_laws.specs.Journals.{is_grant, StaysActive}
use Rattle.mls_laws.proofs.Answered.{granted_from, by_reply, IsRun}
use Rattle.mls_laws.specs.Labels.{LabelAfter, CurrentAfter, IsByUntrusted}
use Rattle.mls_laws.proofs.Kept.{Fixed, after_fixed, not_new}
use Rattle.mls_laws.proofs.FlowLabels.{above_trans}

-- an action changes the label of an object that stays only where it relabels that object
abbrev Relabelled : State → ℕ → Action → ℕ → Type 0
Relabelled v s a o =
    (map.get (change v s a).object_label o ≡ map.get v.object_label o)
    ⊎ ((l : Label) × (a ≡ ObjectLevel o l) × (granted v a ≡ Yes) × (map.get (change v s a).object_label o ≡ Some l))

change_label : (v : State) (s : ℕ) (a : Action) (o : ℕ) → HasTree v → AllHold (conditions v s a) → is_active v o ≡ true → is_active (change v s a) o ≡ true → Relabelled v s a o
change_label v s (Get x q) o h holds active there = inl refl
change_label v s (Release x q) o h holds active there = inl refl
change_label v s (Give x t q) o h holds active there = inl refl
change_label v s (Rescind x t q) o h holds active there = inl refl
change_label v s (Create p l i) o h (authority, (compatible, (integrity, (room, u)))) active there =
    inl (elsewhere v.object_label v.next l o (not_new v o h active room))
change_label v s (Delete q) o h holds active there =
    inl (at_kept v.object_label (stays v q) o ((and_parts (is_active v o) (stays v q o) (sym (has-kept v.object_label (stays v q) o) ∙ there)).1))
change_label v s (SubjectLevel l) o h holds active there = inl refl
change_label v s (ObjectLevel q l) o h holds active there =
    by_number q o (λ k. Relabelled v s (ObjectLevel q l) k)
    (inr (l, refl, refl, at_new v.object_label q l))
    (λ other. inl (elsewhere v.object_label q l o other))

-- an action changes a subject's current label only where it is that subject's change of level
abbrev Moved : State → ℕ → Action → ℕ → Type 0
Moved v s a t =
    (map.get (change v s a).current t ≡ map.get v.current t)
    ⊎ ((l : Label) × (s ≡ t) × (a ≡ SubjectLevel l) × (granted v a ≡ Yes) × (map.get (change v s a).current t ≡ Some l))

change_current : (v : State) (s : ℕ) (a : Action) (t : ℕ) → Moved v s a t
change_current v s (Get x q) t = inl refl
change_current v s (Release x q) t = inl refl
change_current v s (Give x r q) t = inl refl
change_current v s (Rescind x r q) t = inl refl
change_current v s (Create p l i) t = inl refl
change_current v s (Delete q) t = inl refl
change_current v s (SubjectLevel l) t =
    by_number s t (λ k. Moved v s (SubjectLevel l) k)
    (inr (l, refl, refl, refl, at_new v.current s l))
    (λ other. inl (elsewhere v.current s l t other))
change_current v s (ObjectLevel q l) t = inl refl

-- the same of a request, whatever its reply
abbrev StepTo : State → Request → ℕ → State → Type 0
StepTo v r o w =
    is_active w o ≡ true → (map.get w.object_label o ≡ map.get v.object_label o)
    ⊎ ((l : Label) × (r.action ≡ ObjectLevel o l) × (reply v r ≡ Yes) × (map.get w.object_label o ≡ Some l))

step_label : (v : State) (r : Request) (o : ℕ) → HasTree v → is_active v o ≡ true → StepTo v r o (after v r)
step_label v r o h active =
    by_reply (StepTo v r o) v r (λ there. inl refl) (λ is there. from is (change_label v r.subject r.action o h ((granted_from v r is).1) active there)) where
      from : is_grant (reply v r) ≡ true → Relabelled v r.subject r.action o
          → (map.get (change v r.subject r.action).object_label o ≡ map.get v.object_label o)
          ⊎ ((l : Label) × (r.action ≡ ObjectLevel o l) × (reply v r ≡ Yes) × (map.get (change v r.subject r.action).object_label o ≡ Some l))
      from is (inl same) = inl same
      from is (inr (l, action, grant, at)) = inr (l, action, (granted_from v r is).2 ∙ grant, at)

abbrev MoveTo : State → Request → ℕ → State → Type 0
MoveTo v r t w =
    (map.get w.current t ≡ map.get v.current t)
    ⊎ ((l : Label) × (r.subject ≡ t) × (r.action ≡ SubjectLevel l) × (reply v r ≡ Yes) × (map.get w.current t ≡ Some l))

step_current : (v : State) (r : Request) (t : ℕ) → MoveTo v r t (after v r)
step_current v r t = by_reply (MoveTo v r t) v r (inl refl) (λ is. from is (change_current v r.subject r.action t)) where
  from : is_grant (reply v r) ≡ true → Moved v r.subject r.action t → MoveTo v r t (change v r.subject r.action)
  from is (inl same) = inl same
  from is (inr (l, own, action, grant, at)) = inr (l, own, action, (granted_from v r is).2 ∙ grant, at)

-- what a journal does to the label of an object: nothing, or the label is that of a relabel that was granted
pub label_after : (v : State) (entries : List Entry) (o : ℕ) → IsRun v entries → IsSecure v → StaysActive v entries o → LabelAfter v entries o
label_after v [] o run h stays = inl refl
label_after v (e ∷ entries) o run h stays =
    from (label_after (after v e.request) entries o run.1 (after_secure v e.request h) (λ n. stays (suc n))) (step_label v e.request o h.tree (stays zero) (stays (suc zero))) where
      from : LabelAfter (after v e.request) entries o
          → (map.get (after v e.request).object_label o ≡ map.get v.object_label o)
          ⊎ ((l : Label) × (e.request.action ≡ ObjectLevel o l) × (reply v e.request ≡ Yes) × (map.get (after v e.request).object_label o ≡ Some l))
          → LabelAfter v (e ∷ entries) o
      from (inr (n, f, l, at, action, grant, is)) step = inr (suc n, f, l, at, action, grant, is)
      from (inl same) (inl first) = inl (same ∙ first)
      from (inl same) (inr (l, action, grant, is)) = inr (zero, e, l, refl, action, run.0 ∙ grant, same ∙ is)

-- what a journal does to a subject's current label
pub current_after : (v : State) (entries : List Entry) (s : ℕ) → IsRun v entries → CurrentAfter v entries s
current_after v [] s run = inl refl
current_after v (e ∷ entries) s run = from (current_after (after v e.request) entries s run.1) (step_current v e.request s) where
  from : CurrentAfter (after v e.request) entries s → MoveTo v e.request s (after v e.request) → CurrentAfter v (e ∷ entries) s
  from (inr (n, f, l, at, own, action, grant, is)) step = inr (suc n, f, l, at, own, action, grant, is)
  from (inl same) (inl first) = inl (same ∙ first)
  from (inl same) (inr (l, own, action, grant, is)) = inr (zero, e, l, refl, own, action, run.0 ∙ grant, same ∙ is)

-- a relabel by a subject that isn't trusted is to a label that dominates the object's
raises : (t root writes low high : Bool) → t ≡ false → (t || (root && (writes && (low && high)))) ≡ true → high ≡ true
raises true root writes low high untrusted may = cc
raises false root writes low high untrusted may =
    (and_parts low high ((and_parts writes (low && high) ((and_parts root (writes && (low && high)) may).1)).1)).1

-- a label that is there dominates itself
pub above_itself : (e : Option Label) → is_some e ≡ true → is_above e e ≡ true
above_itself None there = cc
above_itself (Some l) there = reflexive l

relabel_up : (v : State) (s : ℕ) (a : Action) (o : ℕ) (l : Label) → a ≡ ObjectLevel o l → AllHold (conditions v s a) → set.contains v.trusted s ≡ false
    → is_above (Some l) (map.get v.object_label o) ≡ true
relabel_up v s a o l action holds untrusted =
    let all : AllHold (conditions v s (ObjectLevel o l)) = subst (λ b. AllHold (conditions v s b)) action holds in
    raises (set.contains v.trusted s) (not (o == 0)) (writes_parent v s (map.get v.parent o)) (is_above (map.get v.current s) (map.get v.object_label o))
    (is_above (Some l) (map.get v.object_label o)) untrusted all.0

-- a request of a subject that isn't trusted lets no object's label fall
pub step_up : (v : State) (r : Request) (o : ℕ) → set.contains v.trusted r.subject ≡ false → HasTree v → is_active v o ≡ true
    → is_active (after v r) o ≡ true → is_above (map.get (after v r).object_label o) (map.get v.object_label o) ≡ true
step_up v r o untrusted h active there = from (step_label v r o h active there) where
  from : (map.get (after v r).object_label o ≡ map.get v.object_label o)
      ⊎ ((l : Label) × (r.action ≡ ObjectLevel o l) × (reply v r ≡ Yes) × (map.get (after v r).object_label o ≡ Some l))
      → is_above (map.get (after v r).object_label o) (map.get v.object_label o) ≡ true
  from (inl same) = ap (λ e. is_above e (map.get v.object_label o)) same ∙ above_itself (map.get v.object_label o) active
  from (inr (l, action, grant, is)) =
      ap (λ e. is_above e (map.get v.object_label o)) is
      ∙ relabel_up v r.subject r.action o l action ((granted_from v r (ap is_grant grant)).1) untrusted

pub never_falls : (v : State) (entries : List Entry) (o : ℕ) → IsSecure v → IsByUntrusted v entries → StaysActive v entries o
    → is_above (map.get (fold v entries).object_label o) (map.get v.object_label o) ≡ true
never_falls v [] o h untrusted stays = above_itself (map.get v.object_label o) (stays zero)
never_falls v (e ∷ entries) o h untrusted stays =
    let trusted : (after v e.request).trusted ≡ v.trusted = ap (λ (f : Fixed). f.2) (after_fixed v e.request) in
    above_trans (map.get (fold v (e ∷ entries)).object_label o) (map.get (after v e.request).object_label o) (map.get v.object_label o)
    (never_falls (after v e.request) entries o (after_secure v e.request h) (λ n f at. ap (λ t. set.contains t f.request.subject) trusted ∙ untrusted (suc n) f at) (λ n. stays (suc n)))
    (step_up v e.request o (untrusted zero e refl) h.tree (stays zero) (stays (suc zero)))
