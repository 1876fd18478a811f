-- What stands at the places of lists.
use Rattle.std.proofs.lemmas.Bool.Decides.{nat_tests}
use Rattle.std.specs.Prelude.{◌≡◌, ℕ, suc, ◌+◌, ◌<◌, ◌≤◌, Bool, true, false, nat_lt, List, [], ◌∷◌, length, Some, None, slice_get, refl}
use Rattle.std.proofs.Common.{inl, inr, arith, sym, ap, subst, ◌∙◌}
use Rattle.std.proofs.lemmas.Option.{same_Some, slice_get_within, slice_get_past, slice_get_cases}

-- lists that have the same at each place are one
pub same_gets : {X : Type 0} (xs ys : List X) → ((j : ℕ) → slice_get ys j ≡ slice_get xs j) → ys ≡ xs
same_gets [] [] same = refl
same_gets [] (y ∷ ys) same = absurd (let no : Some y ≡ None = same 0 in cc)
same_gets (x ∷ xs) [] same = absurd (let no : None ≡ Some x = same 0 in cc)
same_gets (x ∷ xs) (y ∷ ys) same =
    let first : y ≡ x = same_Some y x (same 0) in
    let rest : ys ≡ xs = same_gets xs ys (λ j. same (suc j)) in
    λ i. first i ∷ rest i

-- where nothing stands, nothing stands behind
pub none_behind : {X : Type 0} (xs : List X) (n j : ℕ) → slice_get xs n ≡ None → n ≤ j → slice_get xs j ≡ None
none_behind {X} xs n j none behind = elim (slice_get_cases {X = X} xs n).1 [
  | inl there ↦ absurd (let is : slice_get xs n ≡ Some there.0 = there.2 in let no : None ≡ Some there.0 = sym none ∙ is in cc)
  | inr past ↦ let many : length xs ≤ n = past.0 in slice_get_past xs j (omega arith)
]

-- lists that have the same at each place below one at which both end are one
pub same_until : {X : Type 0} (xs ys : List X) (n : ℕ) → ((j : ℕ) → j < n → slice_get ys j ≡ slice_get xs j) → slice_get xs n ≡ None → slice_get ys n ≡ None → ys ≡ xs
same_until xs ys n same first second = same_gets xs ys (λ j. at j (nat_lt j n) refl) where
  at : (j : ℕ) (b : Bool) → nat_lt j n ≡ b → slice_get ys j ≡ slice_get xs j
  at j true is = same j (grind (arith, nat_tests, is))
  at j false is =
      let behind : n ≤ j = grind (arith, nat_tests, is) in
      none_behind ys n j second behind ∙ sym (none_behind xs n j first behind)

module _ (order : List ℕ) (P : ℕ → ℕ → Type 0) where
  -- what holds of each object at the places below one, and of the one there, holds of one more
  pub place_more : (k o : ℕ) → ((j p : ℕ) → j < k → slice_get order j ≡ Some p → P j p) → slice_get order k ≡ Some o → P k o
      → (j p : ℕ) → j < k + 1 → slice_get order j ≡ Some p → P j p
  place_more k o below here holds j p within there = at (nat_lt j k) refl where
    at : (b : Bool) → nat_lt j k ≡ b → P j p
    at true is = below j p (grind (arith, nat_tests, is)) there
    at false is =
        let same : j ≡ k = grind (arith, nat_tests, is) in
        let one : o ≡ p = same_Some o p (sym here ∙ ap (slice_get order) (sym same) ∙ there) in
        subst (λ (q : ℕ). P j q) one (subst (λ (q : ℕ). P q o) (sym same) holds)

  -- what holds at each place below the length holds at each
  pub all_places : ((j p : ℕ) → j < length order → slice_get order j ≡ Some p → P j p) → (j p : ℕ) → slice_get order j ≡ Some p → P j p
  all_places below j p there = below j p (slice_get_within order j p there) there
