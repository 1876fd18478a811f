-- What a function gives of the items of a list, or of the numbers of a range, one after the other: with one more.
use Rattle.std.proofs.Common.{◌≡◌, ℕ, zero, suc, ◌+◌, ◌<◌, List, [], ◌∷◌, ◌++◌, length, get_or, take, sym, ap, ◌∙◌, append-nil, arith}
use Rattle.std.specs.List.{flat_map, range_with_len}
use Rattle.std.proofs.lemmas.Grind.{flat_map-append}
use Rattle.std.proofs.lemmas.List.{append_assoc, take_more}
use Rattle.std.proofs.lemmas.List.Concat.{flat_map-cons}

-- one item more
pub flat_map_more : {X Y : Type 0} (f : X → List Y) (xs : List X) (i : ℕ) (d : X) → i < length xs
    → flat_map f (take (i + 1) xs) ≡ flat_map f (take i xs) ++ f (get_or xs i d)
flat_map_more f xs i d h =
    ap (flat_map f) (take_more xs i d h) ∙ flat_map-append f (take i xs) (get_or xs i d ∷ [])
    ∙ ap (λ t. flat_map f (take i xs) ++ t) (append-nil (f (get_or xs i d)))

module _ {Y : Type 0} where
  range_flat : (f : ℕ → List Y) (a n : ℕ) → flat_map f (range_with_len a (suc n)) ≡ flat_map f (range_with_len a n) ++ f (a + n)
  range_flat f a zero =
      let same : a ≡ a + 0 = omega arith in
      flat_map-cons f a [] ∙ append-nil (f a) ∙ ap f same
  range_flat f a (suc n) =
      let same : (a + 1) + n ≡ a + suc n = omega arith in
      flat_map-cons f a (range_with_len (a + 1) (suc n))
      ∙ ap (λ t. f a ++ t) (range_flat f (a + 1) n)
      ∙ sym (append_assoc (f a) (flat_map f (range_with_len (a + 1) n)) (f ((a + 1) + n)))
      ∙ (λ i. sym (flat_map-cons f a (range_with_len (a + 1) n)) i ++ f (same i))

  -- one number more
  pub range_flat_more : (f : ℕ → List Y) (n : ℕ) → flat_map f (range_with_len 0 (n + 1)) ≡ flat_map f (range_with_len 0 n) ++ f n
  range_flat_more f n =
      let next : n + 1 ≡ suc n = omega arith in
      let same : 0 + n ≡ n = omega arith in
      ap (λ k. flat_map f (range_with_len 0 k)) next ∙ range_flat f 0 n ∙ ap (λ k. flat_map f (range_with_len 0 n) ++ f k) same

  -- a list to which the items of one part more are added
  pub grows : (old now new part longer line : List Y) → now ≡ old ++ part → new ≡ now ++ line → longer ≡ part ++ line → new ≡ old ++ longer
  grows old now new part longer line so_far added more =
      added ∙ ap (λ t. t ++ line) so_far ∙ append_assoc old part line ∙ ap (λ t. old ++ t) (sym more)
