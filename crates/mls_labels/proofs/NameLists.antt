-- Names in lists.
use Rattle.std.specs.Prelude.{◌≡◌, ℕ, ◌+◌, ◌<◌, ◌||◌, List, [], ◌∷◌, length, map, drop, refl}
use Rattle.std.specs.List.{list_any}
use Rattle.std.specs.Str.{bytes_eq}
use Rattle.std.proofs.Common.{Bor, ap, get_or, add-one, drop-cons}
use Rattle.mls_labels.specs.Names.{has_twice}

-- in the words of a slice's `contains`
pub any_other : (text : List ℕ) (xs : List (Bor (List ℕ))) → list_any (λ other. bytes_eq other.now text) xs ≡ list_any (λ other. bytes_eq other text) (map (λ x. x.now) xs)
any_other text [] = refl
any_other text (x ∷ xs) = ap (λ t. bytes_eq x.now text || t) (any_other text xs)

-- a text stands twice from a place on where the one there stands again, or one after it does twice
pub has_twice-drop : (xs : List (Bor (List ℕ))) (i : ℕ) (d : Bor (List ℕ)) → i < length xs
    → has_twice (map (λ x. x.now) (drop i xs)) ≡ (list_any (λ other. bytes_eq other (get_or xs i d).now) (map (λ x. x.now) (drop (i + 1) xs)) || has_twice (map (λ x. x.now) (drop (i + 1) xs)))
has_twice-drop xs i d h = rw (add-one, drop-cons xs i d h) refl
