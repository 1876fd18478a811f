-- Tables of labels and of subjects.
use Rattle.std.proofs.Common.{◌≡◌, ℕ, zero, suc, ◌+◌, ◌<◌, ◌≤◌, Bool, true, false, List, [], ◌∷◌, ◌++◌, Option, Some, None, length, map, set, get_or, refl, sym, ap, ◌∙◌, subst, arith}
use Rattle.std.specs.Prelude.{nat_lt, slice_get}
use Rattle.std.proofs.lemmas.Bool.Decides.{nat_tests}
use Rattle.std.specs.List.{range_with_len}
use Rattle.std.proofs.lemmas.List.Elements.{All-nil, All-cons, All-append, All-set}
use Rattle.std.proofs.lemmas.List.FromFn.{get_or-map-range_with_len, length-map-range_with_len, map-range_with_len_more}
use Rattle.mls_labels.specs.Scheme.{Scheme}
use Rattle.mls_compare.specs.Carriers.{IsKept, AreKept}
use Rattle.mls_differences.specs.Alike.{carried_label}
use Rattle.mls_differences.specs.Counterparts.{counterpart, counterparts, place_where}
use Rattle.mls_compare.specs.declared.carried.Carried.{Carried}

-- a place more in which no label is kept
pub none_more : (scheme other : Scheme) (slots new : List (Option Carried)) → new ≡ slots ++ None ∷ [] → AreKept scheme other slots
    → AreKept scheme other new
none_more scheme other slots new added kept =
    subst (AreKept scheme other) (sym added)
    (All-append (IsKept scheme other) slots (None ∷ []) kept (All-cons (IsKept scheme other) None [] tt (All-nil (IsKept scheme other))))

-- what is kept for schemes is kept for the same schemes
pub kept_same : (scheme here other there : Scheme) (slots : List (Option Carried)) → scheme ≡ here → other ≡ there → AreKept scheme other slots
    → AreKept here there slots
kept_same scheme here other there slots first second kept =
    subst (λ s. AreKept s there slots) first (subst (λ s. AreKept scheme s slots) second kept)

-- a label is kept in a place
pub kept_more : (scheme other : Scheme) (slots new : List (Option Carried)) (i : ℕ) (c : Carried) → new ≡ set slots i (Some c)
    → c.to ≡ carried_label scheme other c.label → AreKept scheme other slots → AreKept scheme other new
kept_more scheme other slots new i c put right kept = subst (AreKept scheme other) (sym put) (All-set (IsKept scheme other) slots i (Some c) right kept)

-- past the end there is nothing
past_get : {X : Type 0} (xs : List X) (i : ℕ) → length xs ≤ i → slice_get xs i ≡ None
past_get [] i h = refl
past_get (x ∷ xs) zero h = absurd (omega (arith, h))
past_get (x ∷ xs) (suc i) h = past_get xs i (omega (arith, h))

past_or : {X : Type 0} (xs : List X) (i : ℕ) (d : X) → length xs ≤ i → get_or xs i d ≡ d
past_or [] i d h = refl
past_or (x ∷ xs) zero d h = absurd (omega (arith, h))
past_or (x ∷ xs) (suc i) d h = past_or xs i d (omega (arith, h))

-- the counterparts of no number, and of one more
pub counterparts_none : (names others : List (List ℕ)) → counterparts names others 0 ≡ []
unfolding counterparts
counterparts_none names others = refl

pub counterparts_next : (names others : List (List ℕ)) (n : ℕ) → counterparts names others (n + 1) ≡ counterparts names others n ++ counterpart names others n ∷ []
unfolding counterparts
counterparts_next names others n = map-range_with_len_more (counterpart names others) 0 n n (omega arith)

pub counterparts_more : (names others : List (List ℕ)) (n : ℕ) (found new : List (Option ℕ)) (o : Option ℕ) → found ≡ counterparts names others n
    → new ≡ found ++ o ∷ [] → o ≡ counterpart names others n → new ≡ counterparts names others (n + 1)
counterparts_more names others n found new o so_far added is =
    added ∙ (λ i. so_far i ++ is i ∷ []) ∙ sym (counterparts_next names others n)

-- what a table has of the numbers below a count is what each number has, where there are no more names
at_place : (names others : List (List ℕ)) (n s : ℕ) → length names ≤ n → get_or (counterparts names others n) s None ≡ counterpart names others s
unfolding counterparts
at_place names others n s few = by_place (nat_lt s n) refl where
  by_place : (b : Bool) → nat_lt s n ≡ b → get_or (map (counterpart names others) (range_with_len 0 n)) s None ≡ counterpart names others s
  by_place true below =
      let within : s < n = grind (arith, nat_tests, below) in
      get_or-map-range_with_len (counterpart names others) 0 n s s None within (omega arith)
  by_place false past =
      let out : n ≤ s = grind (arith, nat_tests, past) in
      past_or (map (counterpart names others) (range_with_len 0 n)) s None
      (omega (arith, out, length-map-range_with_len (counterpart names others) 0 n))
      ∙ sym (ap (place_where others) (past_get names s (omega (arith, out, few))))

pub by_table : (names others : List (List ℕ)) (n s : ℕ) (table : List (Option ℕ)) → length names ≤ n → table ≡ counterparts names others n
    → get_or table s None ≡ counterpart names others s
by_table names others n s table few is = ap (λ t. get_or t s None) is ∙ at_place names others n s few
