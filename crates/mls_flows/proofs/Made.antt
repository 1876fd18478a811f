-- Objects that a request makes.
use Rattle.std.proofs.Common.{◌≡◌, ℕ, ◌<◌, ◌≤◌, Bool, true, false, ◌&&◌, ◌⊎◌, inl, inr, Option, Some, None, refl, sym, ap, subst, ◌∙◌, if◌then◌else◌, arith}
use Rattle.std.specs.Prelude.{◌==◌, nat_lt}
use Rattle.std.proofs.lemmas.Bool.{and_parts, eqb-true}
use Rattle.std.proofs.lemmas.Bool.Decides.{nat_tests}
use Rattle.std.specs.FinMap as map
use Rattle.std.specs.FinSet as set
use Rattle.mls_facts.proofs.Entries.{by_number, at_new, elsewhere, has-kept, has-replaced, was_there}
use Rattle.mls_labels.specs.Label.{has_label}
use Rattle.mls_tables.specs.declared.limits.TheConstants.{MAX_OBJECTS}
use Rattle.mls_tables.specs.declared.mode.Mode.{Mode}
use Rattle.mls_tree.specs.Tree.{next_number}
use Rattle.mls_tree.specs.declared.profile.Profile.{Profile}
use Rattle.mls_tree.specs.declared.profile.Profile.TheVariants.{One}
use Rattle.mls_requests.specs.declared.action.Action.{Action}
use Rattle.mls_requests.specs.declared.action.Action.TheVariants.{Get, Release, Give, Rescind, Create, Delete, SubjectLevel, ObjectLevel}
use Rattle.mls_requests.specs.declared.request.Request.{Request}
use Rattle.mls_state.specs.State.{State, is_subject, is_active}
use Rattle.mls_state.specs.Properties.{HasTree}
use Rattle.mls_state.specs.Changes.{stays}
use Rattle.mls_rules.specs.Rules.{conditions, AllHold, change, after, names_known, controls, writes_parent}
use Rattle.mls_rules.proofs.Laws.{after_keeps}
use Rattle.mls_futures.proofs.Laws.{after_matrix}
use Rattle.mls_flows.specs.Reaching.{IsFull}

some_same : (a b : ℕ) → Some a ≡ Some b → a ≡ b
some_same a b is = cc

-- what is below an object after a request is below one that was there
change_above : (v : State) (s : ℕ) (a : Action) (o p : ℕ) → HasTree v → (is_subject v s && names_known v a) ≡ true → map.get (change v s a).parent o ≡ Some p
    → is_active v p ≡ true
change_above v s (Get x q) o p h known at = (h.objects.children_active o p at).1
change_above v s (Release x q) o p h known at = (h.objects.children_active o p at).1
change_above v s (Give x t q) o p h known at = (h.objects.children_active o p at).1
change_above v s (Rescind x t q) o p h known at = (h.objects.children_active o p at).1
change_above v s (Create q l i) o p h known at =
    by_number v.next o (λ k. map.get (map.insert v.parent v.next q) k ≡ Some p → is_active v p ≡ true)
    (λ is. ap (is_active v) (sym (some_same q p (sym (at_new v.parent v.next q) ∙ is)))
    ∙ (and_parts (is_active v q) (has_label v.security l && has_label v.integrity i) ((and_parts (is_subject v s) (names_known v (Create q l i)) known).1)).0)
    (λ other is. (h.objects.children_active o p (sym (elsewhere v.parent v.next q o other) ∙ is)).1) at
change_above v s (Delete q) o p h known at = (h.objects.children_active o p ((was_there v.parent (stays v q) o p at).1)).1
change_above v s (SubjectLevel l) o p h known at = (h.objects.children_active o p at).1
change_above v s (ObjectLevel q l) o p h known at = (h.objects.children_active o p at).1

pub after_above : (v : State) (r : Request) (o p : ℕ) → HasTree v → map.get (after v r).parent o ≡ Some p → is_active v p ≡ true
after_above v r o p h =
    after_keeps (λ w. map.get w.parent o ≡ Some p → is_active v p ≡ true) v r (λ at. (h.objects.children_active o p at).1)
    (λ granted. change_above v r.subject r.action o p h granted.0)

-- what is there after a request was there, or a number was free
room_from : (n : ℕ) → nat_lt n MAX_OBJECTS ≡ true → n < MAX_OBJECTS
room_from n room = grind (arith, nat_tests, room)

change_room : (v : State) (s : ℕ) (a : Action) (o : ℕ) → (is_subject v s && names_known v a) ≡ true → AllHold (conditions v s a) → is_active (change v s a) o ≡ true
    → (is_active v o ≡ true) ⊎ (v.next < MAX_OBJECTS)
change_room v s (Get x q) o known holds there = inl there
change_room v s (Release x q) o known holds there = inl there
change_room v s (Give x t q) o known holds there = inl there
change_room v s (Rescind x t q) o known holds there = inl there
change_room v s (Create q l i) o known (authority, (compatible, (integrity, (room, u)))) there = inr (room_from v.next room)
change_room v s (Delete q) o known holds there = inl ((and_parts (is_active v o) (stays v q o) (sym (has-kept v.object_label (stays v q) o) ∙ there)).0)
change_room v s (SubjectLevel l) o known holds there = inl there
change_room v s (ObjectLevel q l) o known holds there =
    inl (sym (has-replaced v.object_label q l o ((and_parts (is_active v q) (has_label v.security l) ((and_parts (is_subject v s) (names_known v (ObjectLevel q l)) known).1)).0)) ∙ there)

pub after_room : (v : State) (r : Request) (o : ℕ) → is_active (after v r) o ≡ true → (is_active v o ≡ true) ⊎ (v.next < MAX_OBJECTS)
after_room v r o =
    after_keeps (λ w. is_active w o ≡ true → (is_active v o ≡ true) ⊎ (v.next < MAX_OBJECTS)) v r (λ there. inl there)
    (λ granted. change_room v r.subject r.action o granted.0 granted.1)

-- where no object can ever be made, none can be after a request
next_one : (profile : Profile) (given : ℕ) (active : ℕ → Bool) → profile ≡ One → next_number profile given active ≡ given
next_one profile given active is = ap (λ p. next_number p given active) is

change_full : (v : State) (s : ℕ) (a : Action) → AllHold (conditions v s a) → IsFull v → IsFull (change v s a)
change_full v s (Get x q) holds full = record { profile = full.profile; none = full.none }
change_full v s (Release x q) holds full = record { profile = full.profile; none = full.none }
change_full v s (Give x t q) holds full = record { profile = full.profile; none = full.none }
change_full v s (Rescind x t q) holds full = record { profile = full.profile; none = full.none }
change_full v s (Create q l i) (authority, (compatible, (integrity, (room, u)))) full =
    let free = room_from v.next room in let none = full.none in absurd (omega (arith, free, none))
change_full v s (Delete q) holds full = record {
  profile = full.profile;
  none = subst (λ n. MAX_OBJECTS ≤ n) (sym (next_one v.profile v.next _ full.profile)) full.none;
}
change_full v s (SubjectLevel l) holds full = record { profile = full.profile; none = full.none }
change_full v s (ObjectLevel q l) holds full = record { profile = full.profile; none = full.none }

pub after_full : (v : State) (r : Request) → IsFull v → IsFull (after v r)
after_full v r full = after_keeps IsFull v r full (λ granted. change_full v r.subject r.action granted.1 full)

-- nobody is permitted anything of an object that is new
module _ (v : State) (h : HasTree v) (o : ℕ) (new : is_active v o ≡ false) where
  no_control_by : (s : ℕ) (e : Option ℕ) → map.get v.parent o ≡ e → writes_parent v s e ≡ true → ⊥
  no_control_by s None at writes = cc
  no_control_by s (Some p) at writes = let no : true ≡ false = sym ((h.objects.children_active o p at).0) ∙ new in cc

  no_control_at : (s : ℕ) (b : Bool) → (o == 0) ≡ b → (if b then set.contains v.trusted s else writes_parent v s (map.get v.parent o)) ≡ true → ⊥
  no_control_at s true is trusted = let no : true ≡ false = sym h.objects.root_active ∙ ap (is_active v) (sym (eqb-true o 0 is)) ∙ new in cc
  no_control_at s false is writes = no_control_by s (map.get v.parent o) refl writes

  pub unpermitted : (r : Request) (s : ℕ) (x : Mode) → set.contains (after v r).matrix (s, o, x) ≡ true → ⊥
  unpermitted r s x there = from (after_matrix v r (s, o, x) there) where
    from : (set.contains v.matrix (s, o, x) ≡ true) ⊎ (controls v r.subject o ≡ true) → ⊥
    from (inl was) = let no : true ≡ false = sym ((and_parts (is_subject v s) (is_active v o) (h.matrix_known (s, o, x) was)).1) ∙ new in cc
    from (inr has) = no_control_at r.subject (o == 0) refl has
