-- Whose gets of an object turn with a request: only those that are reached.
use Rattle.std.proofs.Common.{◌≡◌, ℕ, Bool, true, false, cond, [], ◌∷◌, Option, Some, None, is_some, refl, sym, ap, ◌∙◌}
use Rattle.std.specs.Prelude.{not, ◌&&◌, ◌||◌, ◌==◌}
use Rattle.std.specs.FinSet as set
use Rattle.std.specs.FinMap as map
use Rattle.mls_facts.proofs.Entries.{elsewhere, at_kept, has-kept}
use Rattle.mls_labels.specs.Label.{Label}
use Rattle.mls_requests.specs.declared.action.Action.{Action}
use Rattle.mls_requests.specs.declared.action.Action.TheVariants.{Get, Release, Give, Rescind, Create, Delete, SubjectLevel, ObjectLevel}
use Rattle.mls_requests.specs.declared.reason.Reason.{Reason}
use Rattle.mls_requests.specs.declared.reason.Reason.TheVariants.{Discretionary, Simple, Star, Integrity}
use Rattle.mls_requests.specs.declared.reply.Reply.{Reply}
use Rattle.mls_requests.specs.declared.reply.Reply.TheVariants.{Yes, No, Undefined}
use Rattle.mls_requests.specs.declared.request.Request.{Request}
use Rattle.mls_rules.specs.Rules.{conditions, first_failing, granted, reply_unless, is_defined, reply, change, after_reply, after}
use Rattle.mls_state.specs.Changes.{stays}
use Rattle.mls_state.specs.State.{State, is_subject, is_active}
use Rattle.mls_state.specs.Properties.{simple_between, star_between, integrity_between}
use Rattle.mls_tables.specs.Triples.{Triple, is_triple}
use Rattle.mls_tables.specs.declared.mode.Mode.{Mode}
use Rattle.mls_tables.proofs.Laws.{contains-insert-triple, contains-remove-triple, contains-retain-triple}
use Rattle.mls_spans.specs.Sweeping.{is_granted}
use Rattle.mls_spans.specs.Turning.{differ, is_reached, just_where, everyone_where, reach}
use Rattle.mls_spans.specs.Windows.{would_grant}

-- the answer to a get by what it rests on: the labels of the subject and of the object, trust and the permission
abbrev by_parts : Option Label → Option Label → Option Label → Bool → Option Label → Option Label → Bool → Mode → Bool
by_parts maximum current own trusted label kind permitted x =
    is_granted (cond (is_some maximum && is_some label)
    (reply_unless (first_failing ((Discretionary, permitted) ∷ (Simple, simple_between maximum label x)
    ∷ (Star, trusted || star_between current label x) ∷ (Integrity, integrity_between own kind x) ∷ [])) Yes) Undefined)

grants_by : (v : State) (t : Triple) → would_grant v t
    ≡ by_parts (map.get v.maximum t.0) (map.get v.current t.0) (map.get v.subject_integrity t.0) (set.contains v.trusted t.0)
    (map.get v.object_label t.1) (map.get v.object_integrity t.1) (set.contains v.matrix t) t.2
grants_by v t = refl

-- what isn't active is granted to nobody
inactive_never : (a : Bool) (given : Reply) → is_granted (cond (a && false) given Undefined) ≡ false
inactive_never true given = refl
inactive_never false given = refl

never : (v : State) (t : Triple) → is_active v t.1 ≡ false → would_grant v t ≡ false
never v t inactive =
    ap (λ b. is_granted (cond (is_subject v t.0 && b) (reply_unless (first_failing (conditions v t.0 (Get t.2 t.1))) Yes) Undefined)) inactive
    ∙ inactive_never (is_subject v t.0) (reply_unless (first_failing (conditions v t.0 (Get t.2 t.1))) Yes)

-- what a request may leave to be looked at
abbrev Stays : State → ℕ → ℕ → Action → Triple → Reply → State → Type 0
Stays v o s a t answer w =
    (changed : Bool) → changed ≡ differ (is_active v o) (is_active w o) → is_reached (reach answer changed o s a) t.0 ≡ false
    → would_grant w t ≡ would_grant v t

-- an access of another subject, or to another object
aside_subject : (b c : Bool) → b ≡ false → (b && c) ≡ false
aside_subject true c is = absurd (let no : true ≡ false = is in cc)
aside_subject false c is = refl

aside_object : (a b c : Bool) → b ≡ false → (a && (b && c)) ≡ false
aside_object true true c is = absurd (let no : true ≡ false = is in cc)
aside_object true false c is = refl
aside_object false b c is = refl

-- the permission of a subject that isn't reached is no other's
other_cell : (t : Triple) (o r : ℕ) (p : ℕ) (x : Mode) → t.1 ≡ o → is_reached (just_where (o == p) r) t.0 ≡ false → is_triple t (r, p, x) ≡ false
other_cell t o r p x at none = from (o == p) refl where
  from : (b : Bool) → (o == p) ≡ b → is_triple t (r, p, x) ≡ false
  from true is =
      let apart : (t.0 == r) ≡ false = ap (λ b. is_reached (just_where b r) t.0) (sym is) ∙ none in
      aside_subject (t.0 == r) _ apart
  from false is = let apart : (t.1 == p) ≡ false = ap (λ k. k == p) at ∙ is in aside_object (t.0 == r) (t.1 == p) _ apart

reached_all : (b : Bool) (s : ℕ) → is_reached (everyone_where b) s ≡ false → b ≡ false
reached_all true s is = absurd (let no : true ≡ false = is in cc)
reached_all false s is = refl

unchanged_inactive : (a b : Bool) → differ a b ≡ false → b ≡ false → a ≡ false
unchanged_inactive true true is gone = absurd (let no : true ≡ false = gone in cc)
unchanged_inactive true false is gone = absurd (let no : true ≡ false = is in cc)
unchanged_inactive false b is gone = refl

-- the permission in a matrix that has one more, or one less, elsewhere
more_matrix : (b e : Bool) → b ≡ false → (b || e) ≡ e
more_matrix true e is = absurd (let no : true ≡ false = is in cc)
more_matrix false e is = refl

less_matrix : (b e : Bool) → b ≡ false → (not b && e) ≡ e
less_matrix true e is = absurd (let no : true ≡ false = is in cc)
less_matrix false e is = refl

kept_matrix : (b e : Bool) → b ≡ true → (e && b) ≡ e
kept_matrix true true is = refl
kept_matrix true false is = refl
kept_matrix false e is = absurd (let no : false ≡ true = is in cc)

lost_active : (e b : Bool) → b ≡ false → (e && b) ≡ false
lost_active true b is = is
lost_active false b is = refl

module _ (v : State) (t : Triple) where
  -- with another permission, current label, label of the object or integrity of it: in their places
  abbrev parts : Option Label → Option Label → Option Label → Bool → Bool
  parts current label kind permitted =
      by_parts (map.get v.maximum t.0) current (map.get v.subject_integrity t.0) (set.contains v.trusted t.0) label kind permitted t.2

  granted_stays : (o s : ℕ) (a : Action) → t.1 ≡ o → Stays v o s a t (granted v a) (after_reply (granted v a) v (change v s a))
  granted_stays o s (Get x p) at changed is none = refl
  granted_stays o s (Release x p) at changed is none = refl
  granted_stays o s (Give x r p) at changed is none =
      ap (parts (map.get v.current t.0) (map.get v.object_label t.1) (map.get v.object_integrity t.1))
      (contains-insert-triple v.matrix (r, p, x) t
      ∙ more_matrix (is_triple t (r, p, x)) (set.contains v.matrix t) (other_cell t o r p x at none))
  granted_stays o s (Rescind x r p) at changed is none =
      ap (parts (map.get v.current t.0) (map.get v.object_label t.1) (map.get v.object_integrity t.1))
      (contains-remove-triple v.matrix (r, p, x) t
      ∙ less_matrix (is_triple t (r, p, x)) (set.contains v.matrix t) (other_cell t o r p x at none))
  granted_stays o s (Create p l i) at changed is none =
      let apart : (t.1 == v.next) ≡ false = ap (λ k. k == v.next) at ∙ reached_all (o == v.next) t.0 none in
      λ k. parts (map.get v.current t.0) (elsewhere v.object_label v.next l t.1 apart k) (elsewhere v.object_integrity v.next i t.1 apart k)
      (set.contains v.matrix t)
  granted_stays o s (Delete d) at changed is none = from (stays v d t.1) refl where
    w : State
    w = change v s (Delete d)

    same : differ (is_active v o) (is_active w o) ≡ false
    same = sym is ∙ reached_all changed t.0 none

    from : (b : Bool) → stays v d t.1 ≡ b → would_grant w t ≡ would_grant v t
    from true there =
        let permitted : set.contains w.matrix t ≡ set.contains v.matrix t =
        contains-retain-triple v.matrix (λ u. stays v d u.1) t ∙ kept_matrix (stays v d t.1) (set.contains v.matrix t) there in
        λ k. parts (map.get v.current t.0) (at_kept v.object_label (stays v d) t.1 there k) (at_kept v.object_integrity (stays v d) t.1 there k)
        (permitted k)
    from false gone =
        let after_it : is_active w t.1 ≡ false = has-kept v.object_label (stays v d) t.1 ∙ lost_active (is_active v t.1) (stays v d t.1) gone in
        let before_it : is_active v t.1 ≡ false =
        ap (is_active v) at ∙ unchanged_inactive (is_active v o) (is_active w o) same (ap (is_active w) (sym at) ∙ after_it) in
        never w t after_it ∙ sym (never v t before_it)
  granted_stays o s (SubjectLevel l) at changed is none =
      ap (λ c. parts c (map.get v.object_label t.1) (map.get v.object_integrity t.1) (set.contains v.matrix t))
      (elsewhere v.current s l t.0 none)
  granted_stays o s (ObjectLevel p l) at changed is none =
      let apart : (t.1 == p) ≡ false = ap (λ k. k == p) at ∙ reached_all (o == p) t.0 none in
      ap (λ c. parts (map.get v.current t.0) c (map.get v.object_integrity t.1) (set.contains v.matrix t))
      (elsewhere v.object_label p l t.1 apart)

-- a property of the reply and the state after it
by_reply : (P : Reply → State → Type 0) (defined : Bool) (f : Option Reason) (grant : Reply) (v new : State) → P grant (after_reply grant v new)
    → ((answer : Reply) → P answer v)
    → P (cond defined (reply_unless f grant) Undefined) (after_reply (cond defined (reply_unless f grant) Undefined) v new)
by_reply P true None grant v new granted same = granted
by_reply P true (Some reason) grant v new granted same = same (No reason)
by_reply P false f grant v new granted same = same Undefined

-- the gets of those who aren't reached are answered as before
pub unreached : (v : State) (r : Request) (o : ℕ) (changed : Bool) (t : Triple) → t.1 ≡ o
    → changed ≡ differ (is_active v o) (is_active (after v r) o) → is_reached (reach (reply v r) changed o r.subject r.action) t.0 ≡ false
    → would_grant (after v r) t ≡ would_grant v t
unreached v r o changed t at is none =
    by_reply (Stays v o r.subject r.action t) (is_defined v r) (first_failing (conditions v r.subject r.action)) (granted v r.action) v
    (change v r.subject r.action) (granted_stays v t o r.subject r.action at) (λ answer c same apart. refl) changed is none
