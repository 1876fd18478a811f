-- Numbers below one more that pass a test, and what passes.
use Rattle.std.proofs.Common.{◌≡◌, ℕ, ◌+◌, ◌≤◌, Bool, true, cond, List, [], ◌∷◌, ◌++◌, filter, take, All, length, refl, sym, ap, subst, ◌∙◌, arith}
use Rattle.std.specs.List.{range_with_len}
use Rattle.std.proofs.lemmas.List.{take_all}
use Rattle.std.proofs.lemmas.List.Elements.{filter_passes, All-filter, All-take}
use Rattle.std.proofs.lemmas.List.FromFn.{length-range_with_len}
use Rattle.mls_facts.proofs.Lists.{length-filter-le}
use Rattle.mls_facts.proofs.Ranges.{filter_range_more}
use Rattle.mls_tables.specs.Rows.{listed}

-- with one number more
pub listed_more : (p : ℕ → Bool) (n : ℕ) → listed p (n + 1) ≡ listed p n ++ cond (p n) (n ∷ []) []
unfolding listed
listed_more p n = filter_range_more p n

pub listed_none : (p : ℕ → Bool) → listed p 0 ≡ []
unfolding listed
listed_none p = refl

-- all that are listed pass
pub listed_pass : (p : ℕ → Bool) (n : ℕ) → All (λ k. p k ≡ true) (listed p n)
unfolding listed
listed_pass p n = filter_passes p (range_with_len 0 n)

-- no more than there are numbers
pub listed_few : (p : ℕ → Bool) (n : ℕ) → length (listed p n) ≤ n
unfolding listed
listed_few p n = omega (arith, length-filter-le p (range_with_len 0 n), length-range_with_len 0 n)

-- what holds of all holds of those that were filtered
pub all_kept : (P : ℕ → Type 0) (p : ℕ → Bool) (xs ys : List ℕ) (i : ℕ) → ys ≡ filter p (take i xs) → All P xs → All P ys
all_kept P p xs ys i is all = subst (All P) (sym is) (All-filter p P (take i xs) (All-take P i xs all))

-- no more than there were
pub fewer : (p : ℕ → Bool) (xs ys : List ℕ) (i : ℕ) → length xs ≤ i → ys ≡ filter p (take i xs) → length ys ≤ length xs
fewer p xs ys i past is = subst (λ zs. length zs ≤ length xs) (sym (is ∙ ap (filter p) (take_all i xs past))) (length-filter-le p xs)
