-- What passes a test among the numbers of a range, in order.
use Rattle.std.specs.Prelude.{◌≡◌, ℕ, zero, suc, ◌+◌, ◌<◌, ◌≤◌, Bool, true, false, cond, ◌&&◌, [], ◌∷◌, ◌++◌, length, filter, refl}
use Rattle.std.specs.Cmp.{both_ways}
use Rattle.std.specs.List.{range_with_len, list_any}
use Rattle.std.proofs.Common.{arith, sym, ap, ◌∙◌, eqb, ltb, get_or}
use Rattle.std.proofs.lemmas.Bool.{eqb-true, eq-eqb, lt-ltb, ltb-true}
use Rattle.std.proofs.lemmas.List.{map-id}
use Rattle.std.proofs.lemmas.List.Folds.{Any-from_list_any, list_any_at}
use Rattle.std.proofs.lemmas.List.FromFn.{filter_of_map_range_with_len_more, length-range_with_len, get_or-range_with_len}
use Rattle.std.proofs.lemmas.Map.Views.{any-filter_same}

-- one number more
pub filter_range_more : (p : ℕ → Bool) (n : ℕ) → filter p (range_with_len 0 (n + 1)) ≡ filter p (range_with_len 0 n) ++ cond (p n) (n ∷ []) []
filter_range_more p n =
    let whole : 0 + n ≡ n = omega arith in
    sym (ap (filter p) (map-id (range_with_len 0 (n + 1)))) ∙ filter_of_map_range_with_len_more p (λ (x : ℕ). x) 0 n n whole ∙ ap (λ l. filter p l ++ cond (p n) (n ∷ []) []) (map-id (range_with_len 0 n))

-- tests that agree on the numbers of a range
pub filter_range_same : (p q : ℕ → Bool) (a n : ℕ) → ((c : ℕ) → a ≤ c → c < a + n → p c ≡ q c) → filter p (range_with_len a n) ≡ filter q (range_with_len a n)
filter_range_same p q a zero same = refl
filter_range_same p q a (suc n) same =
    let first : p a ≡ q a = same a (omega arith) (omega arith) in
    let rest : filter p (range_with_len (a + 1) n) ≡ filter q (range_with_len (a + 1) n) = filter_range_same p q (a + 1) n (λ c low high. same c (omega arith) (omega arith)) in
    λ i. cond (first i) (a ∷ rest i) (rest i)

-- a test that none of the numbers passes
pub filter_range_none : (p : ℕ → Bool) (a n : ℕ) → ((c : ℕ) → a ≤ c → c < a + n → p c ≡ false) → filter p (range_with_len a n) ≡ []
filter_range_none p a zero none = refl
filter_range_none p a (suc n) none =
    let first : p a ≡ false = none a (omega arith) (omega arith) in
    let rest : filter p (range_with_len (a + 1) n) ≡ [] = filter_range_none p (a + 1) n (λ c low high. none c (omega arith) (omega arith)) in
    λ i. cond (first i) (a ∷ rest i) (rest i)

-- which numbers are below n
pub list_any-range : (q n : ℕ) → list_any (eqb q) (range_with_len 0 n) ≡ ltb q n
list_any-range q n = both_ways _ _ below listed where
  long : length (range_with_len 0 n) ≡ n
  long = length-range_with_len 0 n

  below : list_any (eqb q) (range_with_len 0 n) ≡ true → ltb q n ≡ true
  below there =
      let at = Any-from_list_any (eqb q) (range_with_len 0 n) there in
      let within : at.0 < n = omega (arith, at.2, long) in
      let value : at.1 ≡ 0 + at.0 = sym at.3 ∙ get_or-range_with_len 0 n at.0 at.1 within in
      let same : q ≡ at.1 = eqb-true q at.1 at.4 in
      lt-ltb q n (omega arith)

  listed : ltb q n ≡ true → list_any (eqb q) (range_with_len 0 n) ≡ true
  listed less =
      let within : q < n = ltb-true q n less in
      let value : q ≡ get_or (range_with_len 0 n) q 0 = let e : 0 + q ≡ q = omega arith in sym (get_or-range_with_len 0 n q 0 within ∙ e) in
      list_any_at (eqb q) (range_with_len 0 n) q 0 (omega (arith, long)) (eq-eqb q _ value)

-- which numbers are listed: those below n that pass
pub list_any-filter_range : (p : ℕ → Bool) (q n : ℕ) → list_any (eqb q) (filter p (range_with_len 0 n)) ≡ (p q && ltb q n)
list_any-filter_range p q n = any-filter_same (eqb q) p (p q) (λ k same. ap p (sym (eqb-true q k same))) (range_with_len 0 n) ∙ ap (λ b. p q && b) (list_any-range q n)
