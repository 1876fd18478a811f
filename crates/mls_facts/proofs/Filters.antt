-- Lists of what passes a test.
use Rattle.std.specs.Prelude.{◌≡◌, Bool, true, false, cond, ◌&&◌, List, [], ◌∷◌, filter, refl}
use Rattle.std.proofs.Common.{ap, ◌∙◌}

module _ {X : Type 0} where
  filter_cond : (p : X → Bool) (b : Bool) (x : X) (xs : List X) → filter p (cond b (x ∷ xs) xs) ≡ cond (b && p x) (x ∷ filter p xs) (filter p xs)
  filter_cond p true x xs = refl
  filter_cond p false x xs = refl

  -- one filter after another
  pub filter-twice : (p q : X → Bool) (xs : List X) → filter p (filter q xs) ≡ filter (λ x. q x && p x) xs
  filter-twice p q [] = refl
  filter-twice p q (x ∷ xs) = filter_cond p (q x) x (filter q xs) ∙ ap (λ l. cond (q x && p x) (x ∷ l) l) (filter-twice p q xs)

  -- a test that each one passes
  pub filter_all : (p : X → Bool) (xs : List X) → ((x : X) → p x ≡ true) → filter p xs ≡ xs
  filter_all p [] all = refl
  filter_all p (x ∷ xs) all = λ i. cond (all x i) (x ∷ filter_all p xs all i) (filter_all p xs all i)
