-- What is gathered of a list or of numbers, one item after the other.
use Rattle.std.proofs.Common.{◌≡◌, ℕ, zero, suc, ◌+◌, ◌<◌, ◌≤◌, All, Bool, true, false, cond, ◌&&◌, ◌||◌, List, [], ◌∷◌, ◌++◌, filter, refl, sym, ap, ◌∙◌, append-nil, arith}
use Rattle.std.specs.List.{list_any, flat_map, range_with_len}
use Rattle.mls_facts.proofs.Gathered.{range_flat_more, grows}
use Rattle.mls_review.specs.Distinct.{below}
use Rattle.std.proofs.lemmas.List.Elements.{All-nil, All-append}

-- a test of what passes another
pub any_filter : {X : Type 0} (p q : X → Bool) (xs : List X) → list_any q (filter p xs) ≡ list_any (λ x. p x && q x) xs
any_filter p q [] = refl
any_filter p q (x ∷ xs) = elim (p x) as (λ b. list_any q (cond b (x ∷ filter p xs) (filter p xs)) ≡ ((b && q x) || list_any (λ y. p y && q y) xs)) [
  | true ↦ ap (λ t. q x || t) (any_filter p q xs)
  | false ↦ any_filter p q xs
]

-- what was gathered with the items of one number more
pub gathered_more : {Y : Type 0} (f : ℕ → List Y) (n : ℕ) (old now new : List Y) → now ≡ old ++ flat_map f (range_with_len 0 n) → new ≡ now ++ f n
    → new ≡ old ++ flat_map f (range_with_len 0 (n + 1))
gathered_more f n old now new before is =
    grows old now new (flat_map f (range_with_len 0 n)) (flat_map f (range_with_len 0 (n + 1))) (f n) before is (range_flat_more f n)

-- what holds of the items of each number holds of all of them
pub all_range : {Y : Type 0} (P : Y → Type 0) (f : ℕ → List Y) (a n : ℕ) → ((k : ℕ) → a ≤ k → k < a + n → All P (f k)) → All P (flat_map f (range_with_len a n))
all_range P f a zero h = All-nil P
all_range P f a (suc n) h =
    All-append P (f a) (flat_map f (range_with_len (a + 1) n)) (h a (omega arith) (omega arith))
    (all_range P f (a + 1) n (λ k low high. h k (omega arith) (omega arith)))

-- the items of one number more, of numbers below one
pub below_flat_more : {Y : Type 0} (f : ℕ → List Y) (n : ℕ) → flat_map f (below (n + 1)) ≡ flat_map f (below n) ++ f n
unfolding below
below_flat_more f n = range_flat_more f n

pub below_more : {Y : Type 0} (f : ℕ → List Y) (n : ℕ) (old now new : List Y) → now ≡ old ++ flat_map f (below n) → new ≡ now ++ f n
    → new ≡ old ++ flat_map f (below (n + 1))
below_more f n old now new before is =
    grows old now new (flat_map f (below n)) (flat_map f (below (n + 1))) (f n) before is (below_flat_more f n)

-- the items of no number
pub below_none : {Y : Type 0} (f : ℕ → List Y) → flat_map f (below 0) ≡ []
unfolding below
below_none f = refl

pub below_start : {Y : Type 0} (f : ℕ → List Y) (old : List Y) → old ≡ old ++ flat_map f (below 0)
below_start f old = sym (append-nil old) ∙ ap (λ t. old ++ t) (sym (below_none f))
