-- What is found of each item of a list, item by item.
use Rattle.std.proofs.Common.{◌≡◌, ℕ, suc, ◌+◌, ◌<◌, List, [], ◌∷◌, ◌++◌, map, length, take, get_or, ap, sym, ◌∙◌, append-nil, arith}
use Rattle.std.proofs.lemmas.List.{append_assoc, length-map, length-take-le, map_more, take_more}
use Rattle.mls_start_faults.specs.Each.{at_each}
use Rattle.mls_start_faults.specs.Places.{Located}

-- with one item more at the end
pub each_last : {A : Type 0} (f : ℕ → A → List Located) (n : ℕ) (items : List A) (a : A) → at_each f n (items ++ a ∷ []) ≡ at_each f n items ++ f (n + length items) a
each_last f n [] a = let e : n + 0 ≡ n = omega arith in rw e (append-nil (f n a))
each_last f n (b ∷ items) a =
    let e : suc n + length items ≡ n + suc (length items) = omega arith in
    ap (λ rest. f n b ++ rest) (each_last f (suc n) items a) ∙ sym (append_assoc (f n b) (at_each f (suc n) items) (f (suc n + length items) a)) ∙ ap (λ m. (f n b ++ at_each f (suc n) items) ++ f m a) e

-- the places of a list's first items, and those of the next
pub one_more : {A : Type 0} (f : ℕ → A → List Located) (n : ℕ) (xs : List A) (k : ℕ) (d : A) (m : ℕ) (old before after : List Located) → k < length xs → m ≡ n + k
    → before ≡ old ++ at_each f n (take k xs) → after ≡ before ++ f m (get_or xs k d) → after ≡ old ++ at_each f n (take (k + 1) xs)
one_more f n xs k d m old before after within same so step =
    let count : length (take k xs) ≡ k = length-take-le k xs (omega (arith, within)) in
    step ∙ ap (λ front. front ++ f m (get_or xs k d)) so
    ∙ append_assoc old (at_each f n (take k xs)) (f m (get_or xs k d))
    ∙ ap (λ i. old ++ (at_each f n (take k xs) ++ f i (get_or xs k d))) (same ∙ ap (λ i. n + i) (sym count))
    ∙ ap (λ lines. old ++ lines) (sym (each_last f n (take k xs) (get_or xs k d)) ∙ ap (at_each f n) (sym (take_more xs k d within)))

-- the same of a list that is seen by a view
pub one_more_seen : {X A : Type 0} (v : X → A) (f : ℕ → A → List Located) (n : ℕ) (xs : List X) (k : ℕ) (d : X) (m : ℕ) (old before after : List Located) → k < length xs → m ≡ n + k
    → before ≡ old ++ at_each f n (map v (take k xs)) → after ≡ before ++ f m (v (get_or xs k d)) → after ≡ old ++ at_each f n (map v (take (k + 1) xs))
one_more_seen v f n xs k d m old before after within same so step =
    let count : length (map v (take k xs)) ≡ k = length-map (take k xs) v ∙ length-take-le k xs (omega (arith, within)) in
    step ∙ ap (λ front. front ++ f m (v (get_or xs k d))) so
    ∙ append_assoc old (at_each f n (map v (take k xs))) (f m (v (get_or xs k d)))
    ∙ ap (λ i. old ++ (at_each f n (map v (take k xs)) ++ f i (v (get_or xs k d)))) (same ∙ ap (λ i. n + i) (sym count))
    ∙ ap (λ lines. old ++ lines) (sym (each_last f n (map v (take k xs)) (v (get_or xs k d))) ∙ ap (at_each f n) (sym (map_more v xs k d within)))
