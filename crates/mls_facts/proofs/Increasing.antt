-- Lists of numbers in strictly increasing order.
use Rattle.std.specs.Prelude.{◌≡◌, ℕ, suc, ◌+◌, ◌<◌, Bool, true, false, ◌||◌, List, [], ◌∷◌, length, filter, refl}
use Rattle.std.specs.List.{range_with_len, list_any}
use Rattle.std.specs.List.Sorted.{IsStrictlyIncreasing, IsStrictlySortedBy}
use Rattle.std.specs.Ordering.{nat_cmp}
use Rattle.std.proofs.Common.{◌⊎◌, inl, inr, arith, sym, ap, ◌∙◌, eqb, get_or}
use Rattle.std.proofs.lemmas.Bool.{cases_eq, eqb-true, eq-eqb, ne_eqb, or_cases, false_from_ne_true}
use Rattle.std.proofs.lemmas.List.Folds.{Any-from_list_any}
use Rattle.std.proofs.lemmas.List.FromFn.{length-range_with_len, get_or-range_with_len}
use Rattle.std.proofs.lemmas.List.Kept.{IsStrictlyIncreasing-filter}
use Rattle.std.proofs.lemmas.Map.Keys.{sorted_tail, below_from_sorted, sorted_from_strictly_increasing}

IsStrictlyIncreasing-range : (a n : ℕ) → IsStrictlyIncreasing (range_with_len a n)
IsStrictlyIncreasing-range a n k within =
    let long : length (range_with_len a n) ≡ n = length-range_with_len a n in
    let low : get_or (range_with_len a n) k 0 ≡ a + k = get_or-range_with_len a n k 0 (omega arith) in
    let high : get_or (range_with_len a n) (k + 1) 0 ≡ a + (k + 1) = get_or-range_with_len a n (k + 1) 0 (omega arith) in
    omega arith

-- the numbers of a range that pass a test
pub IsStrictlyIncreasing-filter_range : (p : ℕ → Bool) (a n : ℕ) → IsStrictlyIncreasing (filter p (range_with_len a n))
IsStrictlyIncreasing-filter_range p a n = IsStrictlyIncreasing-filter p (range_with_len a n) (IsStrictlyIncreasing-range a n)

self_listed : (x : ℕ) (xs : List ℕ) → list_any (eqb x) (x ∷ xs) ≡ true
self_listed x xs = ap (λ b. b || list_any (eqb x) xs) (eq-eqb x x refl)

-- what is listed behind the first is greater
head_below : (x : ℕ) (xs : List ℕ) (q : ℕ) → IsStrictlySortedBy nat_cmp (x ∷ xs) → list_any (eqb q) xs ≡ true → x < q
head_below x xs q sorted there =
    let at = Any-from_list_any (eqb q) xs there in
    let within : at.0 < length xs = at.2 in
    let less : x < get_or xs at.0 at.1 = below_from_sorted (x ∷ xs) 0 (suc at.0) at.1 sorted (omega arith) (omega arith) in
    let is : get_or xs at.0 at.1 ≡ q = at.3 ∙ sym (eqb-true q at.1 at.4) in
    omega arith

same_sorted : (xs ys : List ℕ) → IsStrictlySortedBy nat_cmp xs → IsStrictlySortedBy nat_cmp ys → ((q : ℕ) → list_any (eqb q) xs ≡ list_any (eqb q) ys) → xs ≡ ys
same_sorted [] [] up up' same = refl
same_sorted [] (y ∷ ys) up up' same = let no : false ≡ true = same y ∙ self_listed y ys in cc
same_sorted (x ∷ xs) [] up up' same = let no : false ≡ true = sym (same x) ∙ self_listed x xs in cc
same_sorted (x ∷ xs) (y ∷ ys) up up' same =
    let x_there : list_any (eqb x) (y ∷ ys) ≡ true = sym (same x) ∙ self_listed x xs in
    let y_there : list_any (eqb y) (x ∷ xs) ≡ true = same y ∙ self_listed y ys in
    let head : x ≡ y = first (or_cases (eqb x y) (list_any (eqb x) ys) x_there) (or_cases (eqb y x) (list_any (eqb y) xs) y_there) in
    let tail : xs ≡ ys = same_sorted xs ys (sorted_tail nat_cmp x xs up) (sorted_tail nat_cmp y ys up') (λ q. rest q head (cases_eq q x)) in
    λ i. head i ∷ tail i where
      first : (eqb x y ≡ true) ⊎ (list_any (eqb x) ys ≡ true) → (eqb y x ≡ true) ⊎ (list_any (eqb y) xs ≡ true) → x ≡ y
      first (inl same) other = eqb-true x y same
      first (inr later) (inl same) = sym (eqb-true y x same)
      first (inr later) (inr earlier) = let low : y < x = head_below y ys x up' later in let high : x < y = head_below x xs y up earlier in absurd (omega arith)

      gone : (z : ℕ) (zs : List ℕ) → IsStrictlySortedBy nat_cmp (z ∷ zs) → (q : ℕ) → q ≡ z → list_any (eqb q) zs ≡ false
      gone z zs sorted q at = false_from_ne_true _ (λ there. let low : z < q = head_below z zs q sorted there in absurd (omega arith))

      rest : (q : ℕ) → x ≡ y → (q ≡ x) ⊎ (q ≡ x → ⊥) → list_any (eqb q) xs ≡ list_any (eqb q) ys
      rest q head (inl at) = gone x xs up q at ∙ sym (gone y ys up' q (at ∙ head))
      rest q head (inr other) =
          let no : eqb q x ≡ false = ne_eqb q x other in
          let no' : eqb q y ≡ false = ap (eqb q) (sym head) ∙ no in
          sym (ap (λ b. b || list_any (eqb q) xs) no) ∙ same q ∙ ap (λ b. b || list_any (eqb q) ys) no'

-- two strictly increasing lists of the same numbers are equal
pub same_increasing : (xs ys : List ℕ) → IsStrictlyIncreasing xs → IsStrictlyIncreasing ys → ((q : ℕ) → list_any (eqb q) xs ≡ list_any (eqb q) ys) → xs ≡ ys
same_increasing xs ys up up' same = same_sorted xs ys (sorted_from_strictly_increasing xs up) (sorted_from_strictly_increasing ys up') same
