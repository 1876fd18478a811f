-- At which labels within a subject's reach the get of a permission is granted.
use Rattle.std.proofs.Common.{◌≡◌, ℕ, zero, suc, ◌<◌, Bool, true, false, not, ◌&&◌, ◌↔◌, nat_le, IsTrue, Option, Some, None, if◌then◌else◌, is_some, refl, sym, ap, subst, ◌∙◌, arith}
use Rattle.std.specs.Ordering.{nat_cmp}
use Rattle.std.specs.Cmp.{nat_cmp_total}
use Rattle.std.specs.Cmp.Derive.{both_true}
use Rattle.std.specs.FinMap as table
use Rattle.std.specs.FinSet as set
use Rattle.std.specs.FinSet.{contains-is_subset, contains-empty}
use Rattle.std.proofs.lemmas.Bool.{and_parts, and_from, or_right, false≢true}
use Rattle.std.proofs.lemmas.Bool.Decides.{nat_tests}
use Rattle.mls_facts.proofs.Entries.{at_new}
use Rattle.mls_labels.specs.Label.{Label, dominates}
use Rattle.mls_labels.proofs.Laws.{reflexive}
use Rattle.mls_tables.specs.Triples.{Triple}
use Rattle.mls_tables.specs.declared.mode.Mode.{Mode}
use Rattle.mls_tables.specs.declared.mode.Mode.TheVariants.{Execute, Read, Append, Write}
use Rattle.mls_requests.specs.declared.reason.Reason.{Reason}
use Rattle.mls_requests.specs.declared.reason.Reason.TheVariants.{Simple, Integrity}
use Rattle.mls_requests.specs.declared.reply.Reply.{Reply}
use Rattle.mls_requests.specs.declared.reply.Reply.TheVariants.{Yes, Undefined}
use Rattle.mls_state.specs.State.{State, is_subject, is_active, is_above}
use Rattle.mls_state.specs.Properties.{discretionary_holds, simple_holds, star_between, star_holds, integrity_holds, HasTree}
use Rattle.mls_rules.specs.Rules.{is_defined, conditions, AllHold, reply}
use Rattle.mls_rules.proofs.Laws.{grant_holds}
use Rattle.mls_review.specs.Dead.{get_of, bare, IsWithinReach, IsDead, FailsThroughout, IsReason, obstacle}

-- what replies granted is in the domain
in_domain : (b : Bool) (r : Reply) → (if b then r else Undefined) ≡ Yes → b ≡ true
in_domain true r h = refl
in_domain false r h = cc

-- what all conditions of a get are
record Gets (v : State) (t : Triple) : Type 0 where
  pub known : is_subject v t.0 ≡ true
  pub active : is_active v t.1 ≡ true
  pub discretionary : discretionary_holds v t ≡ true
  pub simple : simple_holds v t ≡ true
  pub star : star_holds v t ≡ true
  pub integrity : integrity_holds v t ≡ true

gets_from : (v : State) (s o : ℕ) (x : Mode) → reply v (get_of (s, o, x)) ≡ Yes → Gets v (s, o, x)
gets_from v s o x granted =
    let domain = and_parts (is_subject v s) (is_active v o) (in_domain (is_defined v (get_of (s, o, x))) _ granted) in
    let all : AllHold (conditions v s (get_of (s, o, x)).action) = grant_holds v (get_of (s, o, x)) (rw granted refl) in
    record { known = domain.0; active = domain.1; discretionary = all.0; simple = all.1.0; star = all.1.1.0; integrity = all.1.1.1.0 }

gets_yes : (v : State) (s o : ℕ) (x : Mode) → Gets v (s, o, x) → reply v (get_of (s, o, x)) ≡ Yes
gets_yes v s o x gets = rw (gets.known, gets.active, gets.discretionary, gets.simple, gets.star, gets.integrity) refl

-- each label dominates the lowest
lowest : Label
lowest = record { level = 0; categories = set.empty }

lowest_below : (m : Label) → IsTrue (dominates m lowest)
unfolding lowest
lowest_below m =
    let level : nat_le 0 m.level ≡ true = grind (arith, nat_tests) in
    both_true level (contains-is_subset nat_cmp_total set.empty m.categories (λ q there. absurd (false≢true (sym (contains-empty nat_cmp q) ∙ there))))

-- what is there
some_of : {X : Type 0} (m : Option X) → is_some m ≡ true → (x : X) × (m ≡ Some x)
some_of None h = absurd (false≢true h)
some_of (Some x) h = (x, refl)

-- a label within a subject's reach at which star holds
record Witness (v : State) (t : Triple) : Type 0 where
  pub label : Label
  pub reach : IsWithinReach v t.0 label
  pub star : star_holds (bare v t.0 label) t ≡ true

star_at : (v : State) (s o : ℕ) (x : Mode) (w : Label) → star_between (Some w) (table.get v.object_label o) x ≡ true → star_holds (bare v s w) (s, o, x) ≡ true
star_at v s o x w star =
    or_right (set.contains v.trusted s) (star_between (table.get (table.insert v.current s w) s) (table.get v.object_label o) x)
    (ap (λ e. star_between e (table.get v.object_label o) x) (at_new v.current s w) ∙ star)

top_reach : (v : State) (s : ℕ) (m : Label) → table.get v.maximum s ≡ Some m → IsWithinReach v s m
top_reach v s m there = ap (λ e. is_above e (Some m)) there ∙ reflexive m

witness : (v : State) (s o : ℕ) (x : Mode) (m l : Label) → table.get v.maximum s ≡ Some m → table.get v.object_label o ≡ Some l
    → simple_holds v (s, o, x) ≡ true → Witness v (s, o, x)
witness v s o Execute m l maximum label simple = record { label = m; reach = top_reach v s m maximum; star = star_at v s o Execute m refl }
witness v s o Read m l maximum label simple = record {
  label = l;
  reach = ap (is_above (table.get v.maximum s)) (sym label) ∙ simple;
  star = star_at v s o Read l (ap (is_above (Some l)) label ∙ reflexive l);
}
witness v s o Append m l maximum label simple = record {
  label = lowest;
  reach = ap (λ e. is_above e (Some lowest)) maximum ∙ lowest_below m;
  star = star_at v s o Append lowest (ap (λ e. is_above e (Some lowest)) label ∙ lowest_below l);
}
witness v s o Write m l maximum label simple = record {
  label = l;
  reach = ap (is_above (table.get v.maximum s)) (sym label) ∙ simple;
  star = star_at v s o Write l
      (ap (λ e. is_above e (Some l) && is_above (Some l) e) label ∙ and_from (dominates l l) (dominates l l) (reflexive l) (reflexive l));
}

module _ (v : State) (s o : ℕ) (x : Mode) (tree : HasTree v) (permitted : set.contains v.matrix (s, o, x) ≡ true) where
  known : (is_subject v s ≡ true) × (is_active v o ≡ true)
  known = and_parts (is_subject v s) (is_active v o) (tree.matrix_known (s, o, x) permitted)

  found : simple_holds v (s, o, x) ≡ true → Witness v (s, o, x)
  found simple =
      let m = some_of (table.get v.maximum s) known.0 in
      let l = some_of (table.get v.object_label o) known.1 in
      witness v s o x m.0 l.0 m.1 l.1 simple

  top : (m : Label) × IsWithinReach v s m
  top = let m = some_of (table.get v.maximum s) known.0 in (m.0, top_reach v s m.0 m.1)

  granted : simple_holds v (s, o, x) ≡ true → integrity_holds v (s, o, x) ≡ true → IsDead v (s, o, x) → ⊥
  granted simple integrity dead =
      let w = found simple in
      dead w.label w.reach (gets_yes (bare v s w.label) s o x
      (record { known = known.0; active = known.1; discretionary = permitted; simple = simple; star = w.star; integrity = integrity }))

  -- where there is an obstacle, and only there, a permission is dead
  blocked : (a b : Bool) → simple_holds v (s, o, x) ≡ a → integrity_holds v (s, o, x) ≡ b
      → is_some (if not a then Some Simple else if not b then Some Integrity else None) ≡ true → IsDead v (s, o, x)
  blocked true true simple integrity is = absurd (false≢true is)
  blocked false b simple integrity is = λ l reach yes. absurd (false≢true (sym simple ∙ (gets_from (bare v s l) s o x yes).simple))
  blocked true false simple integrity is = λ l reach yes. absurd (false≢true (sym integrity ∙ (gets_from (bare v s l) s o x yes).integrity))

  dead_blocked : (a b : Bool) → simple_holds v (s, o, x) ≡ a → integrity_holds v (s, o, x) ≡ b → IsDead v (s, o, x)
      → is_some (if not a then Some Simple else if not b then Some Integrity else None) ≡ true
  dead_blocked true true simple integrity dead = absurd (granted simple integrity dead)
  dead_blocked false b simple integrity dead = refl
  dead_blocked true false simple integrity dead = refl

  pub obstacle_dead : is_some (obstacle v (s, o, x)) ≡ true ↔ IsDead v (s, o, x)
  obstacle_dead = (
    blocked (simple_holds v (s, o, x)) (integrity_holds v (s, o, x)) refl refl,
    dead_blocked (simple_holds v (s, o, x)) (integrity_holds v (s, o, x)) refl refl,
  )

  -- which conditions don't fail at each label
  not_permission : FailsThroughout v (s, o, x) 0 → ⊥
  not_permission fails = false≢true (sym (ap not permitted) ∙ fails top.0 top.1)

  not_simple : simple_holds v (s, o, x) ≡ true → FailsThroughout v (s, o, x) 1 → ⊥
  not_simple simple fails = false≢true (sym (ap not simple) ∙ fails top.0 top.1)

  not_star : simple_holds v (s, o, x) ≡ true → FailsThroughout v (s, o, x) 2 → ⊥
  not_star simple fails = let w = found simple in false≢true (sym (ap not w.star) ∙ fails w.label w.reach)

  before_simple : (k : ℕ) → k < 1 → FailsThroughout v (s, o, x) k → ⊥
  before_simple zero h fails = not_permission fails
  before_simple (suc k) h fails = absurd (omega arith)

  before_integrity : simple_holds v (s, o, x) ≡ true → (k : ℕ) → k < 3 → FailsThroughout v (s, o, x) k → ⊥
  before_integrity simple zero h fails = not_permission fails
  before_integrity simple (suc zero) h fails = not_simple simple fails
  before_integrity simple (suc (suc zero)) h fails = not_star simple fails
  before_integrity simple (suc (suc (suc k))) h fails = absurd (omega arith)

  first_failing : (a b : Bool) (reason : Reason) → simple_holds v (s, o, x) ≡ a → integrity_holds v (s, o, x) ≡ b
      → (if not a then Some Simple else if not b then Some Integrity else None) ≡ Some reason → IsReason v (s, o, x) reason
  first_failing false b reason simple integrity is = subst (IsReason v (s, o, x)) (reason_of is) (record {
    place = 1;
    named = refl;
    fails = λ l reach. ap not simple;
    first = before_simple;
  }) where
    reason_of : Some Simple ≡ Some reason → Simple ≡ reason
    reason_of h = cc
  first_failing true false reason simple integrity is = subst (IsReason v (s, o, x)) (reason_of is) (record {
    place = 3;
    named = refl;
    fails = λ l reach. ap not integrity;
    first = before_integrity simple;
  }) where
    reason_of : Some Integrity ≡ Some reason → Integrity ≡ reason
    reason_of h = cc
  first_failing true true reason simple integrity is = absurd (no is) where
    no : {R : Type 0} {r : R} → None ≡ Some r → ⊥
    no h = cc

  pub obstacle_first : (reason : Reason) → obstacle v (s, o, x) ≡ Some reason → IsReason v (s, o, x) reason
  obstacle_first reason is = first_failing (simple_holds v (s, o, x)) (integrity_holds v (s, o, x)) reason refl refl is
