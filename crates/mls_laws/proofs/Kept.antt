-- What no request changes.
use Rattle.std.proofs.Common.{◌≡◌, ℕ, zero, suc, ◌+◌, ◌<◌, Bool, true, false, List, [], ◌∷◌, take, drop, take-append-drop, nat_eq, is_some, ◌&&◌, refl, sym, ap, subst, ◌∙◌, arith}
use Rattle.std.specs.Prelude.{nat_lt}
use Rattle.std.proofs.lemmas.Bool.{and_parts, ne_eqb}
use Rattle.std.proofs.lemmas.Bool.Decides.{nat_tests}
use Rattle.std.specs.FinMap as map
use Rattle.std.specs.FinMap.{FinMap}
use Rattle.std.specs.FinSet.{FinSet}
use Rattle.std.specs.Ordering.{nat_cmp}
use Rattle.mls_facts.proofs.Entries.{elsewhere, has-kept, has-replaced, at_kept}
use Rattle.mls_labels.specs.Label.{Label, Bounds, has_label}
use Rattle.mls_tables.specs.declared.limits.TheConstants.{MAX_OBJECTS}
use Rattle.mls_tree.specs.Tree.{HasNext, next_number}
use Rattle.mls_tree.specs.declared.profile.Profile.{Profile}
use Rattle.mls_tree.specs.declared.profile.Profile.TheVariants.{One}
use Rattle.mls_tree.proofs.Laws.{next_free}
use Rattle.mls_requests.specs.declared.action.Action.{Action}
use Rattle.mls_requests.specs.declared.action.Action.TheVariants.{Get, Release, Give, Rescind, Create, Delete, SubjectLevel, ObjectLevel}
use Rattle.mls_requests.specs.declared.request.Request.{Request}
use Rattle.mls_requests.specs.declared.reply.Reply.TheVariants.{Created}
use Rattle.mls_requests.specs.declared.entry.Entry.{Entry}
use Rattle.mls_state.specs.State.{State, is_subject, is_active}
use Rattle.mls_state.specs.Properties.{IsSecure, HasTree}
use Rattle.mls_state.specs.Changes.{stays}
use Rattle.mls_rules.specs.Rules.{conditions, AllHold, granted, reply, change, after, names_known}
use Rattle.mls_rules.proofs.Laws.{after_keeps, after_secure}
use Rattle.mls_monitor.specs.Journal.{fold}
use Rattle.mls_laws.specs.Journals.{is_grant, StaysActive}
use Rattle.mls_laws.proofs.Answered.{granted_from, by_reply, fold_keeps, fold-append}

-- what is known of subjects, and the bounds
abbrev pub Fixed : Type 0
Fixed = FinMap nat_cmp Label × FinMap nat_cmp Label × FinSet nat_cmp × Bounds × Bounds × Profile

abbrev pub fixed_of : State → Fixed
fixed_of v = (v.maximum, v.subject_integrity, v.trusted, v.security, v.integrity, v.profile)

change_fixed : (v : State) (s : ℕ) (a : Action) → fixed_of (change v s a) ≡ fixed_of v
change_fixed v s (Get x o) = refl
change_fixed v s (Release x o) = refl
change_fixed v s (Give x t o) = refl
change_fixed v s (Rescind x t o) = refl
change_fixed v s (Create p l i) = refl
change_fixed v s (Delete o) = refl
change_fixed v s (SubjectLevel l) = refl
change_fixed v s (ObjectLevel o l) = refl

pub after_fixed : (v : State) (r : Request) → fixed_of (after v r) ≡ fixed_of v
after_fixed v r = after_keeps (λ u. fixed_of u ≡ fixed_of v) v r refl (λ _. change_fixed v r.subject r.action)

pub fold_fixed : (v : State) (entries : List Entry) → fixed_of (fold v entries) ≡ fixed_of v
fold_fixed v entries = fold_keeps (λ w. fixed_of w ≡ fixed_of v) (λ w r h. after_fixed w r ∙ h) v entries refl

pub fold_profile : (v : State) (entries : List Entry) → (fold v entries).profile ≡ v.profile
fold_profile v entries = ap (λ (f : Fixed). f.5) (fold_fixed v entries)

-- the next number of profile 1
pub next_one : (profile : Profile) (given : ℕ) (active : ℕ → Bool) → profile ≡ One → next_number profile given active ≡ given
next_one profile given active is = ap (λ p. next_number p given active) is

pub below_one : (v : State) (o : ℕ) → v.profile ≡ One → HasTree v → is_active v o ≡ true → o < v.next
below_one v o one h active = (subst (λ p. HasNext p (is_active v) v.next) one h.next).right o active

-- an object number of profile 1 that was given out: where it is active it was before
pub record IsKept (v : State) (o : ℕ) (w : State) : Type 0 where
  pub one : w.profile ≡ One
  pub given : o < w.next
  pub was : is_active w o ≡ true → is_active v o ≡ true

change_kept : (v : State) (o : ℕ) (w : State) (s : ℕ) (a : Action) → (is_subject w s && names_known w a) ≡ true → IsKept v o w → IsKept v o (change w s a)
change_kept v o w s (Get x q) known h = record { one = h.one; given = h.given; was = h.was }
change_kept v o w s (Release x q) known h = record { one = h.one; given = h.given; was = h.was }
change_kept v o w s (Give x t q) known h = record { one = h.one; given = h.given; was = h.was }
change_kept v o w s (Rescind x t q) known h = record { one = h.one; given = h.given; was = h.was }
change_kept v o w s (Create p l i) known h =
    let below : o < w.next = h.given in
    let other : nat_eq o w.next ≡ false = grind (arith, nat_tests) in
    let active : is_active (change w s (Create p l i)) o ≡ is_active w o = ap is_some (elsewhere w.object_label w.next l o other) in
    let next : (change w s (Create p l i)).next ≡ w.next + 1 = next_one w.profile (w.next + 1) _ h.one in
    record {
      one = h.one;
      given = omega (arith, next, below);
      was = λ there. h.was (sym active ∙ there);
    }
change_kept v o w s (Delete q) known h =
    let below : o < w.next = h.given in
    let active : is_active (change w s (Delete q)) o ≡ (is_active w o && stays w q o) = has-kept w.object_label (stays w q) o in
    let next : (change w s (Delete q)).next ≡ w.next = next_one w.profile w.next _ h.one in
    record {
      one = h.one;
      given = omega (arith, next, below);
      was = λ there. h.was ((and_parts (is_active w o) (stays w q o) (sym active ∙ there)).0);
    }
change_kept v o w s (SubjectLevel l) known h = record { one = h.one; given = h.given; was = h.was }
change_kept v o w s (ObjectLevel q l) known h =
    let named : is_active w q ≡ true = (and_parts (is_active w q) (has_label w.security l) ((and_parts (is_subject w s) (is_active w q && has_label w.security l) known).1)).0 in
    let active : is_active (change w s (ObjectLevel q l)) o ≡ is_active w o = has-replaced w.object_label q l o named in
    record { one = h.one; given = h.given; was = λ there. h.was (sym active ∙ there) }

pub after_kept : (v : State) (o : ℕ) (w : State) (r : Request) → IsKept v o w → IsKept v o (after w r)
after_kept v o w r h = after_keeps (IsKept v o) w r h (λ granted. change_kept v o w r.subject r.action granted.0 h)

pub fold_kept : (v : State) (entries : List Entry) (o : ℕ) → v.profile ≡ One → o < v.next → IsKept v o (fold v entries)
fold_kept v entries o one below =
    fold_keeps (IsKept v o) (λ w r h. after_kept v o w r h) v entries (record { one = one; given = below; was = λ there. there })

-- what is there at both ends of a journal was there all along
pub stays_between : (v : State) (entries : List Entry) (o : ℕ) → v.profile ≡ One → HasTree v → is_active v o ≡ true → is_active (fold v entries) o ≡ true → StaysActive v entries o
stays_between v entries o one h active there n =
    let kept = fold_kept v (take n entries) o one (below_one v o one h active) in
    let whole : fold v entries ≡ fold (fold v (take n entries)) (drop n entries) = ap (fold v) (sym (take-append-drop n entries)) ∙ fold-append v (take n entries) (drop n entries) in
    (fold_kept (fold v (take n entries)) (drop n entries) o kept.one kept.given).was (sym (ap (λ (w : State). is_active w o) whole) ∙ there)

-- what is active has another number than what is made
pub not_new : (v : State) (o : ℕ) → HasTree v → is_active v o ≡ true → nat_lt v.next MAX_OBJECTS ≡ true → nat_eq o v.next ≡ false
not_new v o h active room =
    ne_eqb o v.next (λ same.
    let less : v.next < MAX_OBJECTS = grind (arith, nat_tests, room) in
    let no : true ≡ false = sym active ∙ ap (is_active v) same ∙ next_free v.profile (is_active v) v.next h.next less in cc)

-- an action keeps the integrity label of an object that stays
change_integrity : (v : State) (s : ℕ) (a : Action) (o : ℕ) → HasTree v → AllHold (conditions v s a) → is_active v o ≡ true → is_active (change v s a) o ≡ true
    → map.get (change v s a).object_integrity o ≡ map.get v.object_integrity o
change_integrity v s (Get x q) o h holds active there = refl
change_integrity v s (Release x q) o h holds active there = refl
change_integrity v s (Give x t q) o h holds active there = refl
change_integrity v s (Rescind x t q) o h holds active there = refl
change_integrity v s (Create p l i) o h (authority, (compatible, (integrity, (room, u)))) active there =
    elsewhere v.object_integrity v.next i o (not_new v o h active room)
change_integrity v s (Delete q) o h holds active there =
    at_kept v.object_integrity (stays v q) o ((and_parts (is_active v o) (stays v q o) (sym (has-kept v.object_label (stays v q) o) ∙ there)).1)
change_integrity v s (SubjectLevel l) o h holds active there = refl
change_integrity v s (ObjectLevel q l) o h holds active there = refl

-- the same of a request
pub after_integrity : (v : State) (r : Request) (o : ℕ) → HasTree v → is_active v o ≡ true → is_active (after v r) o ≡ true
    → map.get (after v r).object_integrity o ≡ map.get v.object_integrity o
after_integrity v r o h active =
    by_reply (λ w. is_active w o ≡ true → map.get w.object_integrity o ≡ map.get v.object_integrity o) v r (λ there. refl)
    (λ is there. change_integrity v r.subject r.action o h ((granted_from v r is).1) active there)

pub integrity_kept : (v : State) (entries : List Entry) (o : ℕ) → IsSecure v → StaysActive v entries o
    → map.get (fold v entries).object_integrity o ≡ map.get v.object_integrity o
integrity_kept v [] o h stays = refl
integrity_kept v (e ∷ entries) o h stays =
    integrity_kept (after v e.request) entries o (after_secure v e.request h) (λ n. stays (suc n))
    ∙ after_integrity v e.request o h.tree (stays zero) (stays (suc zero))

-- an object that is gone stays gone
not_true : (b : Bool) → (b ≡ true → ⊥) → b ≡ false
not_true true never = absurd (never refl)
not_true false never = refl

pub stays_gone : (v : State) (front rest : List Entry) (o : ℕ) → IsSecure v → v.profile ≡ One → is_active v o ≡ true → is_active (fold v front) o ≡ false
    → is_active (fold (fold v front) rest) o ≡ false
stays_gone v front rest o h one active gone =
    let kept = fold_kept v front o one (below_one v o one h.tree active) in
    not_true (is_active (fold (fold v front) rest) o) (λ there.
    let back : is_active (fold v front) o ≡ true = (fold_kept (fold v front) rest o kept.one kept.given).was there in cc)

-- the number that a creation gives is the next one
pub created_next : (v : State) (a : Action) (o : ℕ) → granted v a ≡ Created o → v.next ≡ o
created_next v (Get x q) o is = cc
created_next v (Release x q) o is = cc
created_next v (Give x t q) o is = cc
created_next v (Rescind x t q) o is = cc
created_next v (Create p l i) o is = cc
created_next v (Delete q) o is = cc
created_next v (SubjectLevel l) o is = cc
created_next v (ObjectLevel q l) o is = cc

-- and nothing had it before
pub never_before : (v : State) (rest : List Entry) (r : Request) (o : ℕ) → IsSecure v → v.profile ≡ One → reply (fold v rest) r ≡ Created o → is_active v o ≡ false
never_before v rest r o h one made =
    let next : (fold v rest).next ≡ o = created_next (fold v rest) r.action o (sym (granted_from (fold v rest) r (ap is_grant made)).2 ∙ made) in
    not_true (is_active v o) (λ active.
    let given : o < (fold v rest).next = (fold_kept v rest o one (below_one v o one h.tree active)).given in
    omega (arith, given, next))
