-- What a list has at a place after a change.
use Rattle.std.specs.Prelude.{◌≡◌, ℕ, zero, suc, ◌+◌, ◌<◌, ◌≤◌, true, false, cond, List, [], ◌∷◌, ◌++◌, length, map, refl}
use Rattle.std.proofs.Common.{◌⊎◌, inl, inr, arith, sym, ap, ◌∙◌, eqb, get_or, set, get_or-set_same, get_or-set_other, length-set, length-append}
use Rattle.std.proofs.lemmas.Bool.{cases_eq, cases_Bool, eqb-true, eq-eqb, ne_eqb}
use Rattle.std.proofs.lemmas.Bool.Decides.{nat_tests}
use Rattle.mls_facts.specs.Places.{placed}
use Rattle.std.proofs.lemmas.List.{same_lists, get_or-map, length-map}

-- an item is written at a place of the list
pub get_or-set : {X : Type 0} (xs : List X) (p : ℕ) (y : X) (q : ℕ) (d : X) → p < length xs → get_or (set xs p y) q d ≡ cond (eqb q p) y (get_or xs q d)
get_or-set xs p y q d within = from (cases_eq q p) where
  from : (q ≡ p) ⊎ (q ≡ p → ⊥) → get_or (set xs p y) q d ≡ cond (eqb q p) y (get_or xs q d)
  from (inl same) = ap (λ n. get_or (set xs p y) n d) same ∙ get_or-set_same xs p y d within ∙ sym (ap (λ b. cond b y (get_or xs q d)) (eq-eqb q p same))
  from (inr other) = get_or-set_other xs p q y d other ∙ sym (ap (λ b. cond b y (get_or xs q d)) (ne_eqb q p other))

-- the item that stands for a missing one is added at the end
pub get_or-spare : {X : Type 0} (xs : List X) (q : ℕ) (d : X) → get_or (xs ++ d ∷ []) q d ≡ get_or xs q d
get_or-spare [] zero d = refl
get_or-spare [] (suc q) d = refl
get_or-spare (x ∷ xs) zero d = refl
get_or-spare (x ∷ xs) (suc q) d = get_or-spare xs q d

-- One item of a list changes, and so does the function that is mapped, which gives the same of each other item.
pub map-set : {A B : Type 0} (f g : A → B) (xs : List A) (i : ℕ) (x a : A) (y : B) → i < length xs → g x ≡ y
    → ((j : ℕ) → j < length xs → (j ≡ i → ⊥) → g (get_or xs j a) ≡ f (get_or xs j a)) → map g (set xs i x) ≡ set (map f xs) i y
map-set {A = A} {B = B} f g xs i x a y within new kept =
    same_lists _ _ (length-map (set xs i x) g ∙ length-set xs i x ∙ sym (length-set (map f xs) i y ∙ length-map xs f)) at where
      longer : length (map g (set xs i x)) ≡ length xs
      longer = length-map (set xs i x) g ∙ length-set xs i x

      from : (k : ℕ) (d : B) → k < length xs → (k ≡ i) ⊎ (k ≡ i → ⊥) → get_or (map g (set xs i x)) k d ≡ get_or (set (map f xs) i y) k d
      from k d here (inl same) =
          let there : k < length (set xs i x) = let l : length (set xs i x) ≡ length xs = length-set xs i x in omega arith in
          let mapped : i < length (map f xs) = let l : length (map f xs) ≡ length xs = length-map xs f in omega arith in
          get_or-map g (set xs i x) k a d there
          ∙ ap (λ n. g (get_or (set xs i x) n a)) same
          ∙ ap g (get_or-set_same xs i x a within) ∙ new
          ∙ sym (ap (λ n. get_or (set (map f xs) i y) n d) same ∙ get_or-set_same (map f xs) i y d mapped)
      from k d here (inr other) =
          let there : k < length (set xs i x) = let l : length (set xs i x) ≡ length xs = length-set xs i x in omega arith in
          get_or-map g (set xs i x) k a d there
          ∙ ap g (get_or-set_other xs i k x a other) ∙ kept k here other
          ∙ sym (get_or-set_other (map f xs) i k y d other ∙ get_or-map f xs k a d here)

      at : (k : ℕ) (d : B) → k < length (map g (set xs i x)) → get_or (map g (set xs i x)) k d ≡ get_or (set (map f xs) i y) k d
      at k d h = let here : k < length xs = omega (arith, longer) in from k d here (cases_eq k i)

-- the length with an item at a place
pub length-placed : {X : Type 0} (xs : List X) (n : ℕ) (x : X) → n ≤ length xs → (length xs ≤ length (placed xs n x)) × (n < length (placed xs n x)) × (length (placed xs n x) ≡ cond (eqb n (length xs)) (length xs + 1) (length xs))
length-placed {X} xs n x within = from (cases_Bool (eqb n (length xs))) where
  from : (eqb n (length xs) ≡ true) ⊎ (eqb n (length xs) ≡ false) → (length xs ≤ length (placed xs n x)) × (n < length (placed xs n x)) × (length (placed xs n x) ≡ cond (eqb n (length xs)) (length xs + 1) (length xs))
  from (inl end) =
      let long : length (xs ++ x ∷ []) ≡ length xs + 1 = length-append xs (x ∷ []) in
      let same : n ≡ length xs = eqb-true n (length xs) end in
      rw end (omega (arith, long), omega (arith, long, same), long)
  from (inr inside) =
      let long : length (set xs n x) ≡ length xs = length-set xs n x in
      let low : n < length xs = grind (arith, nat_tests, inside, within) in
      rw inside (omega (arith, long), omega (arith, long, low), long)
