-- Lists that have no number twice.
use Rattle.std.specs.Prelude.{◌≡◌, ℕ, zero, suc, ◌<◌, true, false, ◌||◌, List, [], ◌∷◌, ◌++◌, length, take, refl}
use Rattle.std.specs.List.{list_any, IsDistinct, AllByRecursion}
use Rattle.std.specs.List.Sorted.{IsStrictlyIncreasing}
use Rattle.std.proofs.Common.{◌⊎◌, inl, inr, arith, sym, ap, ◌∙◌, eqb, get_or}
use Rattle.std.proofs.lemmas.Bool.{cases_Bool, eqb-true, eq-eqb, ne_eqb, or_left, or_right, or_cases}
use Rattle.std.proofs.lemmas.Map.Keys.{IsDistinct-from_apart, sorted_from_strictly_increasing, below_from_sorted}
use Rattle.std.proofs.lemmas.List.Folds.{list_any-append, list_any_at}

-- what is listed in the first of two lists is listed in both together
pub list_any-left : (q : ℕ) (xs ys : List ℕ) → list_any (eqb q) xs ≡ true → list_any (eqb q) (xs ++ ys) ≡ true
list_any-left q xs ys there = list_any-append (eqb q) xs ys ∙ or_left (list_any (eqb q) xs) (list_any (eqb q) ys) there

-- and so is what is listed in the second
pub list_any-right : (q : ℕ) (xs ys : List ℕ) → list_any (eqb q) ys ≡ true → list_any (eqb q) (xs ++ ys) ≡ true
list_any-right q xs ys there = list_any-append (eqb q) xs ys ∙ or_right (list_any (eqb q) xs) (list_any (eqb q) ys) there

-- what is listed in two lists together is listed in one of them
pub list_any-either : (q : ℕ) (xs ys : List ℕ) → list_any (eqb q) (xs ++ ys) ≡ true → (list_any (eqb q) xs ≡ true) ⊎ (list_any (eqb q) ys ≡ true)
list_any-either q xs ys there = or_cases (list_any (eqb q) xs) (list_any (eqb q) ys) (sym (list_any-append (eqb q) xs ys) ∙ there)

-- a number that differs from each that is listed is not listed
not_listed : (q : ℕ) (xs : List ℕ) → AllByRecursion (λ y. eqb q y ≡ false) xs → list_any (eqb q) xs ≡ true → ⊥
not_listed q [] all there = cc
not_listed q (x ∷ xs) all there = from (or_cases (eqb q x) (list_any (eqb q) xs) there) (not_listed q xs all.1) where
  from : (eqb q x ≡ true) ⊎ (list_any (eqb q) xs ≡ true) → (list_any (eqb q) xs ≡ true → ⊥) → ⊥
  from (inl same) rest = let no : true ≡ false = sym same ∙ all.0 in cc
  from (inr later) rest = rest later

-- a number that is not listed differs from each that is
pub missing : (q : ℕ) (xs : List ℕ) → (list_any (eqb q) xs ≡ true → ⊥) → AllByRecursion (λ y. eqb q y ≡ false) xs
missing q [] never = tt
missing q (x ∷ xs) never = from (cases_Bool (eqb q x)) (missing q xs (λ there. never (or_right (eqb q x) (list_any (eqb q) xs) there))) where
  from : (eqb q x ≡ true) ⊎ (eqb q x ≡ false) → AllByRecursion (λ y. eqb q y ≡ false) xs → (eqb q x ≡ false) × AllByRecursion (λ y. eqb q y ≡ false) xs
  from (inl same) rest = absurd (never (ap (λ b. b || list_any (eqb q) xs) same))
  from (inr other) rest = (other, rest)

-- a strictly increasing list has no number twice
pub IsDistinct-increasing : (xs : List ℕ) → IsStrictlyIncreasing xs → IsDistinct eqb xs
IsDistinct-increasing xs up = IsDistinct-from_apart eqb xs (λ i j d before within.
    let less : get_or xs i d < get_or xs j d = below_from_sorted xs i j d (sorted_from_strictly_increasing xs up) before within in
    ne_eqb _ _ (λ same. omega (arith, less, same)))

-- two lists without a number twice and with none in common
pub IsDistinct-append : (xs ys : List ℕ) → IsDistinct eqb xs → IsDistinct eqb ys → ((q : ℕ) → list_any (eqb q) xs ≡ true → list_any (eqb q) ys ≡ true → ⊥) → IsDistinct eqb (xs ++ ys)
unfolding IsDistinct
IsDistinct-append [] ys h k apart = k
IsDistinct-append (x ∷ xs) ys h k apart =
    (missing x (xs ++ ys) (λ there. from (list_any-either x xs ys there)), IsDistinct-append xs ys h.1 k (λ q a b. apart q (or_right (eqb q x) (list_any (eqb q) xs) a) b)) where
      from : (list_any (eqb x) xs ≡ true) ⊎ (list_any (eqb x) ys ≡ true) → ⊥
      from (inl there) = not_listed x xs h.0 there
      from (inr there) = apart x (or_left (eqb x x) (list_any (eqb x) xs) (eq-eqb x x refl)) there

-- no number of such a list is listed before its place
pub not_before : (xs : List ℕ) (i : ℕ) → IsDistinct eqb xs → i < length xs → list_any (eqb (get_or xs i 0)) (take i xs) ≡ true → ⊥
unfolding IsDistinct
not_before [] i h within there = absurd (omega arith)
not_before (x ∷ xs) zero h within there = cc
not_before (x ∷ xs) (suc i) h within there =
    let below : i < length xs = omega arith in
    from (or_cases (eqb (get_or xs i 0) x) (list_any (eqb (get_or xs i 0)) (take i xs)) there) (not_before xs i h.1 below) below where
      from : (eqb (get_or xs i 0) x ≡ true) ⊎ (list_any (eqb (get_or xs i 0)) (take i xs) ≡ true) → (list_any (eqb (get_or xs i 0)) (take i xs) ≡ true → ⊥) → i < length xs → ⊥
      from (inl same) rest below = not_listed x xs h.0 (list_any_at (eqb x) xs i 0 below (eq-eqb x (get_or xs i 0) (sym (eqb-true (get_or xs i 0) x same))))
      from (inr later) rest below = rest later
