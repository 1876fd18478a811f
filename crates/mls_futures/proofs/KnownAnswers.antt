-- Lists of answers of which objects an actor could give permissions.
use Rattle.std.proofs.Common.{◌≡◌, ◌↔◌, ℕ, zero, suc, ◌+◌, Bool, true, ◌⊎◌, inl, inr, List, [], ◌∷◌, ◌++◌, length, Some, refl, sym, ap, subst, ◌∙◌, arith}
use Rattle.std.specs.Prelude.{slice_get}
use Rattle.mls_state.specs.State.{State, is_active}
use Rattle.mls_futures.specs.Closure.{CouldGive, IsGivable}

pub length_pushed : (xs : List Bool) (b : Bool) → length (xs ++ b ∷ []) ≡ length xs + 1
length_pushed [] b = refl
length_pushed (x ∷ xs) b = let rest : length (xs ++ b ∷ []) ≡ length xs + 1 = length_pushed xs b in omega (arith, rest)

-- a list of answers with one more
at_pushed : (xs : List Bool) (b : Bool) (o : ℕ) (g : Bool) → slice_get (xs ++ b ∷ []) o ≡ Some g → (slice_get xs o ≡ Some g) ⊎ ((o ≡ length xs) × (b ≡ g))
at_pushed [] b zero g at = inr (refl, cc)
at_pushed [] b (suc o) g at = cc
at_pushed (x ∷ xs) b zero g at = inl at
at_pushed (x ∷ xs) b (suc o) g at = from (at_pushed xs b o g at) where
  from : (slice_get xs o ≡ Some g) ⊎ ((o ≡ length xs) × (b ≡ g)) → (slice_get (x ∷ xs) (suc o) ≡ Some g) ⊎ ((suc o ≡ length (x ∷ xs)) × (b ≡ g))
  from (inl earlier) = inl earlier
  from (inr (here, same)) = inr (omega (arith, here), same)

pub givable_pushed : (v : State) (acts : ℕ → Bool) (flags : List Bool) (b : Bool) (n : ℕ) → length flags ≡ n → IsGivable v acts flags
    → (is_active v n ≡ true → ((b ≡ true) ↔ CouldGive v acts n)) → IsGivable v acts (flags ++ b ∷ [])
givable_pushed v acts flags b n many known right o g at active = from (at_pushed flags b o g at) where
  from : (slice_get flags o ≡ Some g) ⊎ ((o ≡ length flags) × (b ≡ g)) → (g ≡ true) ↔ CouldGive v acts o
  from (inl earlier) = known o g earlier active
  from (inr (here, same)) =
      let is : o ≡ n = here ∙ many in
      let one = right (ap (is_active v) (sym is) ∙ active) in
      (λ gives. subst (CouldGive v acts) (sym is) (one.0 (same ∙ gives)), λ could. sym same ∙ one.1 (subst (CouldGive v acts) is could))

pub none_known : (v : State) (acts : ℕ → Bool) → IsGivable v acts []
none_known v acts o g at active = cc
