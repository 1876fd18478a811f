-- Tests of all numbers of a list.
use Rattle.std.proofs.Common.{◌≡◌, ℕ, ◌+◌, ◌<◌, zero, suc, Bool, true, List, [], ◌∷◌, length, get_or, nat_lt, refl, arith}
use Rattle.std.specs.List.{list_all}
use Rattle.std.proofs.lemmas.Bool.{and_from}
use Rattle.std.proofs.lemmas.Bool.Decides.{nat_tests}

-- what passes at each place passes
pub all_at : (q : ℕ → Bool) (xs : List ℕ) → ((i : ℕ) → i < length xs → q (get_or xs i 0) ≡ true) → list_all q xs ≡ true
all_at q [] known = refl
all_at q (x ∷ xs) known =
    and_from (q x) (list_all q xs) (known 0 (omega arith)) (all_at q xs (λ i h. known (suc i) (omega arith)))

-- two numbers with the same numbers below them are one
pub same_count : (a b : ℕ) → ((s : ℕ) → nat_lt s a ≡ nat_lt s b) → a ≡ b
same_count a b same = grind (arith, nat_tests, same a, same b)
