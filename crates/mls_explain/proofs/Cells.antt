-- What is picked of the four modes of a cell, one mode after the other.
use Rattle.std.proofs.Common.{◌≡◌, ℕ, zero, suc, ◌+◌, ◌<◌, Bool, true, false, cond, not, ◌&&◌, List, [], ◌∷◌, ◌++◌, length, get_or, take, map, filter, refl, sym, ap, ◌∙◌, append-nil, arith}
use Rattle.std.specs.List.{flat_map, range_with_len}
use Rattle.std.proofs.lemmas.List.Concat.{flat_map-cons}
use Rattle.std.proofs.lemmas.Grind.{flat_map-append}
use Rattle.std.proofs.lemmas.List.{append_assoc, take_more}

module _ {X : Type 0} (p q : X → Bool) where
  -- an item that passes two tests, and the others
  filter_both : (x : X) (xs : List X) → filter q (filter p (x ∷ xs)) ≡ cond (p x && q x) (x ∷ []) [] ++ filter q (filter p xs)
  filter_both x xs = elim (p x) as (λ b. filter q (cond b (x ∷ filter p xs) (filter p xs)) ≡ cond (b && q x) (x ∷ []) [] ++ filter q (filter p xs)) [
    | true ↦ elim (q x) as (λ c. cond c (x ∷ filter q (filter p xs)) (filter q (filter p xs)) ≡ cond c (x ∷ []) [] ++ filter q (filter p xs)) [
      | true ↦ refl
      | false ↦ refl
    ]
    | false ↦ refl
  ]

  -- four items, one after the other
  pub four_picked : (old : List X) (a b c d : X)
      → (((old ++ cond (p a && q a) (a ∷ []) []) ++ cond (p b && q b) (b ∷ []) []) ++ cond (p c && q c) (c ∷ []) []) ++ cond (p d && q d) (d ∷ []) []
      ≡ old ++ filter q (filter p (a ∷ b ∷ c ∷ d ∷ []))
  four_picked old a b c d =
      let A = cond (p a && q a) (a ∷ []) [] in
      let B = cond (p b && q b) (b ∷ []) [] in
      let C = cond (p c && q c) (c ∷ []) [] in
      let D = cond (p d && q d) (d ∷ []) [] in
      append_assoc ((old ++ A) ++ B) C D ∙ append_assoc (old ++ A) B (C ++ D) ∙ append_assoc old A (B ++ (C ++ D))
      ∙ ap (λ t. old ++ t) (sym (filter_both a (b ∷ c ∷ d ∷ [])
      ∙ ap (λ t. A ++ t) (filter_both b (c ∷ d ∷ [])
      ∙ ap (λ t. B ++ t) (filter_both c (d ∷ [])
      ∙ ap (λ t. C ++ t) (filter_both d [] ∙ append-nil D)))))

module _ {X Y : Type 0} (f : X → Y) (p : X → Bool) where
  -- an item that passes a test, and the others
  map_filter : (x : X) (xs : List X) → map f (filter p (x ∷ xs)) ≡ cond (p x) (f x ∷ []) [] ++ map f (filter p xs)
  map_filter x xs = elim (p x) as (λ b. map f (cond b (x ∷ filter p xs) (filter p xs)) ≡ cond b (f x ∷ []) [] ++ map f (filter p xs)) [
    | true ↦ refl
    | false ↦ refl
  ]

  pub four_mapped : (old : List Y) (a b c d : X)
      → (((old ++ cond (p a) (f a ∷ []) []) ++ cond (p b) (f b ∷ []) []) ++ cond (p c) (f c ∷ []) []) ++ cond (p d) (f d ∷ []) []
      ≡ old ++ map f (filter p (a ∷ b ∷ c ∷ d ∷ []))
  four_mapped old a b c d =
      let A = cond (p a) (f a ∷ []) [] in
      let B = cond (p b) (f b ∷ []) [] in
      let C = cond (p c) (f c ∷ []) [] in
      let D = cond (p d) (f d ∷ []) [] in
      append_assoc ((old ++ A) ++ B) C D ∙ append_assoc (old ++ A) B (C ++ D) ∙ append_assoc old A (B ++ (C ++ D))
      ∙ ap (λ t. old ++ t) (sym (map_filter a (b ∷ c ∷ d ∷ [])
      ∙ ap (λ t. A ++ t) (map_filter b (c ∷ d ∷ [])
      ∙ ap (λ t. B ++ t) (map_filter c (d ∷ [])
      ∙ ap (λ t. C ++ t) (map_filter d [] ∙ append-nil D)))))
