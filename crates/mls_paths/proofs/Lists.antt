-- Lists with one more item, and lists of marks with one more that is set.
use Rattle.std.proofs.Common.{◌≡◌, ℕ, zero, suc, ◌+◌, ◌<◌, Bool, true, false, ◌⊎◌, inl, inr, List, [], ◌∷◌, ◌++◌, length, Some, refl, ap, arith}
use Rattle.std.specs.Prelude.{slice_get, set, replicate}
use Rattle.mls_paths.specs.Searching.{unmarked}

module _ {X : Type 0} where
  pub at_pushed : (xs : List X) (b : X) (o : ℕ) (g : X) → slice_get (xs ++ b ∷ []) o ≡ Some g → (slice_get xs o ≡ Some g) ⊎ ((o ≡ length xs) × (b ≡ g))
  at_pushed [] b zero g at = inr (refl, cc)
  at_pushed [] b (suc o) g at = cc
  at_pushed (x ∷ xs) b zero g at = inl at
  at_pushed (x ∷ xs) b (suc o) g at = from (at_pushed xs b o g at) where
    from : (slice_get xs o ≡ Some g) ⊎ ((o ≡ length xs) × (b ≡ g)) → (slice_get (x ∷ xs) (suc o) ≡ Some g) ⊎ ((suc o ≡ length (x ∷ xs)) × (b ≡ g))
    from (inl earlier) = inl earlier
    from (inr (here, same)) = inr (omega (arith, here), same)

  pub still_at : (xs ys : List X) (i : ℕ) (r : X) → slice_get xs i ≡ Some r → slice_get (xs ++ ys) i ≡ Some r
  still_at [] ys i r at = cc
  still_at (x ∷ xs) ys zero r at = at
  still_at (x ∷ xs) ys (suc i) r at = still_at xs ys i r at

  pub last_at : (xs : List X) (b : X) → slice_get (xs ++ b ∷ []) (length xs) ≡ Some b
  last_at [] b = refl
  last_at (x ∷ xs) b = last_at xs b

  pub within_at : (xs : List X) (i : ℕ) → i < length xs → (r : X) × (slice_get xs i ≡ Some r)
  within_at [] i below = absurd (omega (arith, below))
  within_at (x ∷ xs) zero below = (x, refl)
  within_at (x ∷ xs) (suc i) below = within_at xs i (omega (arith, below))

-- one mark that is set
pub one_less : (marks : List Bool) (n : ℕ) → slice_get marks n ≡ Some false → unmarked (set marks n true) + 1 ≡ unmarked marks
one_less [] n at = cc
one_less (true ∷ marks) zero at = cc
one_less (false ∷ marks) zero at = omega arith
one_less (true ∷ marks) (suc n) at = one_less marks n at
one_less (false ∷ marks) (suc n) at = let rest : unmarked (set marks n true) + 1 ≡ unmarked marks = one_less marks n at in omega (arith, rest)

pub marked_at : (marks : List Bool) (n k : ℕ) → slice_get (set marks n true) k ≡ Some true → (k ≡ n) ⊎ (slice_get marks k ≡ Some true)
marked_at [] n k at = inr at
marked_at (b ∷ marks) zero zero at = inl refl
marked_at (b ∷ marks) zero (suc k) at = inr at
marked_at (b ∷ marks) (suc n) zero at = inr at
marked_at (b ∷ marks) (suc n) (suc k) at = from (marked_at marks n k at) where
  from : (k ≡ n) ⊎ (slice_get marks k ≡ Some true) → (suc k ≡ suc n) ⊎ (slice_get marks k ≡ Some true)
  from (inl is) = inl (ap suc is)
  from (inr was) = inr was

-- none is set
pub none_marked : (n k : ℕ) → slice_get (replicate n false) k ≡ Some true → ⊥
none_marked zero k at = cc
none_marked (suc n) zero at = let no : false ≡ true = cc in cc
none_marked (suc n) (suc k) at = none_marked n k at

pub all_unmarked : (n : ℕ) → unmarked (replicate n false) ≡ n
all_unmarked zero = refl
all_unmarked (suc n) = ap suc (all_unmarked n)

pub unmarked_at : (n k : ℕ) → k < n → slice_get (replicate n false) k ≡ Some false
unmarked_at zero k below = absurd (omega (arith, below))
unmarked_at (suc n) zero below = refl
unmarked_at (suc n) (suc k) below = unmarked_at n k (omega (arith, below))
