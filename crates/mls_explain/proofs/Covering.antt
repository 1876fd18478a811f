-- How far a label covers what a subject observes, over the first of its objects.
use Rattle.std.proofs.Common.{◌≡◌, ℕ, ◌+◌, ◌<◌, ◌≤◌, ◌⊎◌, inl, inr, Bool, true, false, not, ◌||◌, IsTrue, Option, Some, None, List, length, get_or, eqb, refl, sym, ap, subst, ◌∙◌, arith}
use Rattle.std.specs.FinMap as map
use Rattle.std.specs.FinSet as set
use Rattle.std.specs.List.{list_any, list_all}
use Rattle.std.proofs.lemmas.Bool.{or_left, or_right, or_cases, cases_lt, false≢true}
use Rattle.std.proofs.lemmas.Grind.{get_or_default_zero}
use Rattle.mls_labels.specs.Label.{Label, dominates}
use Rattle.mls_labels.proofs.Laws.{reflexive, transitive}
use Rattle.mls_tables.specs.declared.mode.Mode.TheVariants.{Execute, Read, Append, Write}
use Rattle.mls_tables.specs.Held.{is_held}
use Rattle.mls_tables.proofs.Laws.{held_at, all_one}
use Rattle.mls_state.specs.State.{State, is_above}
use Rattle.mls_explain.specs.Remedy.{HasCategories, is_observing, Covers}
use Rattle.mls_explain.proofs.Lists.{all_at}

-- a label from which it began, joined with those of the observed ones of so many objects
pub record Joined (v : State) (s : ℕ) (from : Label) (os : List ℕ) (k : ℕ) (level : Label) : Type 0 where
  pub least : (m : Label) → IsTrue (dominates m from) → Covers v s m → IsTrue (dominates m level)
  pub from_below : (m : Label) → HasCategories m → IsTrue (dominates m from) → Covers v s m → IsTrue (dominates level from)
  pub so_far : (m : Label) → HasCategories m → IsTrue (dominates m from) → Covers v s m → (i : ℕ) → i < k
      → IsTrue (is_observing v s (get_or os i 0)) → IsTrue (is_above (Some level) (map.get v.object_label (get_or os i 0)))

pub joined_none : (v : State) (s : ℕ) (from : Label) (os : List ℕ) → Joined v s from os 0 from
joined_none v s from os = record {
  least = λ m h covers. h;
  from_below = λ m few h covers. reflexive from;
  so_far = λ m few h covers i none. absurd (omega (arith, none));
}

above_more : (j level : Label) (label : Option Label) → IsTrue (dominates j level) → IsTrue (is_above (Some level) label) → IsTrue (is_above (Some j) label)
above_more j level None h k = k
above_more j level (Some l) h k = transitive j level l h k

module _ (v : State) (s : ℕ) (from : Label) (os : List ℕ) (k o : ℕ) (level j : Label) (within : k < length os) (is : o ≡ get_or os k o) where
  -- with one object more
  pub joined_more : Joined v s from os k level
      → ((m : Label) → IsTrue (dominates m level) → Covers v s m → IsTrue (dominates m j))
      → ((m : Label) → HasCategories m → IsTrue (dominates m level) → Covers v s m → IsTrue (dominates j level))
      → ((m : Label) → HasCategories m → IsTrue (dominates m level) → Covers v s m → IsTrue (is_observing v s o) → IsTrue (is_above (Some j) (map.get v.object_label o)))
      → Joined v s from os (k + 1) j
  joined_more old least above here = record {
    least = λ m h covers. least m (old.least m h covers) covers;
    from_below = λ m few h covers. transitive j level from (above m few (old.least m h covers) covers) (old.from_below m few h covers);
    so_far = λ m few h covers i before. from_place m few h covers i (place i before);
  } where
    place : (i : ℕ) → i < k + 1 → (i < k) ⊎ (i ≡ k)
    place i before = elim (cases_lt i k) [ inl earlier ↦ inl earlier | inr past ↦ inr (omega arith) ]

    from_place : (m : Label) → HasCategories m → IsTrue (dominates m from) → Covers v s m → (i : ℕ) → (i < k) ⊎ (i ≡ k)
        → IsTrue (is_observing v s (get_or os i 0)) → IsTrue (is_above (Some j) (map.get v.object_label (get_or os i 0)))
    from_place m few h covers i (inl earlier) sees =
        above_more j level _ (above m few (old.least m h covers) covers) (old.so_far m few h covers i earlier sees)
    from_place m few h covers i (inr last) sees =
        let there : get_or os i 0 ≡ o = ap (λ n. get_or os n 0) last ∙ sym (get_or_default_zero os k o within) ∙ sym is in
        subst (λ n. IsTrue (is_above (Some j) (map.get v.object_label n))) (sym there)
        (here m few (old.least m h covers) covers (subst (λ n. IsTrue (is_observing v s n)) there sees))

observed : (v : State) (s o : ℕ) → IsTrue (is_observing v s o) → is_held v.accesses s o ≡ true
observed v s o sees = elim (or_cases (set.contains v.accesses (s, o, Read)) (set.contains v.accesses (s, o, Write)) sees) [
  | inl reads ↦ held_at v.accesses s o Read reads
  | inr writes ↦ held_at v.accesses s o Write writes
]

implied : (b c : Bool) → (b ≡ true → c ≡ true) → (not b || c) ≡ true
implied true c known = known refl
implied false c known = refl

if_true : (b c : Bool) → (not b || c) ≡ true → b ≡ true → c ≡ true
if_true true c h is = h
if_true false c h is = absurd (false≢true is)

-- with all objects
pub joined_all : (v : State) (s : ℕ) (from : Label) (os : List ℕ) (level : Label) → ((o : ℕ) → list_any (eqb o) os ≡ is_held v.accesses s o)
    → (k : ℕ) → length os ≤ k → Joined v s from os k level
    → (m : Label) → HasCategories m → IsTrue (dominates m from) → Covers v s m → Covers v s level
joined_all v s from os level listed k past joined m few h covers o sees =
    let test : ℕ → Bool = λ n. not (is_observing v s n) || is_above (Some level) (map.get v.object_label n) in
    let all : list_all test os ≡ true = all_at test os (λ i inside. implied _ _ (joined.so_far m few h covers i (omega arith))) in
    if_true (is_observing v s o) _ (all_one test o os all (listed o ∙ observed v s o sees)) sees
