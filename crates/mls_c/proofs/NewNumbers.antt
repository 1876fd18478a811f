-- Objects that are numbered by their places in an order.
use Rattle.std.specs.Prelude.{◌≡◌, ℕ, ◌==◌, ◌<◌, ◌+◌, List, ◌∷◌, [], ◌++◌, length, map, drop, Some}
use Rattle.std.proofs.Common.{get_or, set, sym, ap, subst, ◌∙◌, arith}
use Rattle.std.specs.List.{range_with_len}
use Rattle.std.proofs.Math.Seq.{set-append_seam}
use Rattle.std.proofs.lemmas.List.{append_assoc, drop_more}
use Rattle.std.proofs.lemmas.List.FromFn.{length-map-range_with_len, map-range_with_len_more}
use Rattle.std.proofs.lemmas.List.Quantifiers.{position-Some}
use Rattle.mls_snapshots.specs.Orders.{place_in}

-- a place is within its order
pub within : (order : List ℕ) (o k : ℕ) → place_in order o ≡ Some k → k < length order
within order o k is = (position-Some (λ x. x == o) order k 0 is).0

-- one number more
pub put_number : (f : ℕ → ℕ) (old now : List ℕ) (k : ℕ) → k < length old → now ≡ map f (range_with_len 0 k) ++ drop k old
    → set now k (f k) ≡ map f (range_with_len 0 (k + 1)) ++ drop (k + 1) old
put_number f old now k room so_far =
    let front = map f (range_with_len 0 k) in let rest = drop (k + 1) old in
    let many : length front ≡ k = length-map-range_with_len f 0 k in
    let now_is : now ≡ front ++ get_or old k (f k) ∷ rest = so_far ∙ ap (λ t. front ++ t) (drop_more old k (f k) room) in
    ap (λ t. set t k (f k)) now_is
    ∙ subst (λ n. set (front ++ get_or old k (f k) ∷ rest) n (f k) ≡ front ++ f k ∷ rest) many (set-append_seam front (get_or old k (f k)) rest (f k))
    ∙ sym (append_assoc front (f k ∷ []) rest)
    ∙ ap (λ t. t ++ rest) (sym (map-range_with_len_more f 0 k k (omega arith)))
