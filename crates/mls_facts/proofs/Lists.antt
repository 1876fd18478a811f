-- How much a filter keeps.
use Rattle.std.specs.Prelude.{◌≡◌, ℕ, suc, ◌+◌, ◌≤◌, Bool, true, false, cond, not, ◌||◌, nat_lt, List, [], ◌∷◌, length, filter, refl}
use Rattle.std.specs.List.{list_any}
use Rattle.std.proofs.Common.{arith}
use Rattle.std.proofs.lemmas.Bool.Decides.{nat_tests}

module _ {X : Type 0} where
  length-kept : (b : Bool) (x : X) (kept : List X) (n : ℕ) → length kept ≤ n → length (cond b (x ∷ kept) kept) ≤ n + 1
  length-kept true x kept n h = omega arith
  length-kept false x kept n h = omega arith

  pub length-filter-le : (p : X → Bool) (xs : List X) → length (filter p xs) ≤ length xs
  length-filter-le p [] = omega arith
  length-filter-le p (x ∷ xs) = let less : length (cond (p x) (x ∷ filter p xs) (filter p xs)) ≤ length xs + 1 = length-kept (p x) x (filter p xs) (length xs) (length-filter-le p xs) in omega arith

  fewer_more : (b : Bool) (x : X) (kept : List X) (n : ℕ) (rest : Bool) → length kept ≤ n → nat_lt (length kept) n ≡ rest → nat_lt (length (cond (not b) (x ∷ kept) kept)) (suc n) ≡ (b || rest)
  fewer_more true x kept n rest h is = grind (arith, nat_tests)
  fewer_more false x kept n rest h is = grind (arith, nat_tests, is)

  -- a list is shorter without the items that pass a test where one passes
  pub fewer : (p : X → Bool) (xs : List X) → nat_lt (length (filter (λ x. not (p x)) xs)) (length xs) ≡ list_any p xs
  fewer p [] = refl
  fewer p (x ∷ xs) = fewer_more (p x) x (filter (λ y. not (p y)) xs) (length xs) (list_any p xs) (length-filter-le (λ y. not (p y)) xs) (fewer p xs)
