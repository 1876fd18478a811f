-- Lists of who acts, and tests of words.
use Rattle.std.proofs.Common.{◌≡◌, ℕ, zero, suc, ◌+◌, ◌<◌, ◌≤◌, Bool, true, false, ◌&&◌, ◌||◌, ◌⊎◌, inl, inr, List, [], ◌∷◌, ◌++◌, length, map, nat_lt, refl, sym, ap, ◌∙◌, arith}
use Rattle.std.specs.List.{list_any}
use Rattle.std.proofs.lemmas.Bool.{cases_lt}
use Rattle.std.proofs.lemmas.Bool.Decides.{nat_tests}
use Rattle.mls_futures.specs.Closure.{acts_in}

-- a test of what a function gives of the items
pub list_any-map : {X Y : Type 0} (p : Y → Bool) (f : X → Y) (xs : List X) → list_any p (map f xs) ≡ list_any (λ x. p (f x)) xs
list_any-map p f [] = refl
list_any-map p f (x ∷ xs) = ap (λ b. p (f x) || b) (list_any-map p f xs)

-- a list with one more flag
acts_before : (xs : List Bool) (b : Bool) (s : ℕ) → s < length xs → acts_in (xs ++ b ∷ []) s ≡ acts_in xs s
acts_before [] b s below = absurd (omega (arith, below))
acts_before (x ∷ xs) b zero below = refl
acts_before (x ∷ xs) b (suc s) below = acts_before xs b s (omega (arith, below))

acts_at : (xs : List Bool) (b : Bool) (s : ℕ) → s ≡ length xs → acts_in (xs ++ b ∷ []) s ≡ b
acts_at [] b s is = ap (acts_in (b ∷ [])) is
acts_at (x ∷ xs) b zero is = absurd (omega (arith, is))
acts_at (x ∷ xs) b (suc s) is = acts_at xs b s (omega (arith, is))

acts_past : (xs : List Bool) (s : ℕ) → length xs ≤ s → acts_in xs s ≡ false
acts_past [] s past = refl
acts_past (x ∷ xs) zero past = absurd (omega (arith, past))
acts_past (x ∷ xs) (suc s) past = acts_past xs s (omega (arith, past))

length_pushed : (xs : List Bool) (b : Bool) → length (xs ++ b ∷ []) ≡ length xs + 1
length_pushed [] b = refl
length_pushed (x ∷ xs) b = let rest : length (xs ++ b ∷ []) ≡ length xs + 1 = length_pushed xs b in omega (arith, rest)

-- the flags of the first numbers are as a test says
pub record AreFlags (test : ℕ → Bool) (flags : List Bool) (n : ℕ) : Type 0 where
  pub many : length flags ≡ n
  pub each : (s : ℕ) → s < n → acts_in flags s ≡ test s

pub no_flags : (test : ℕ → Bool) → AreFlags test [] 0
no_flags test = record { many = refl; each = λ s below. absurd (omega (arith, below)) }

pub flags_pushed : (test : ℕ → Bool) (flags : List Bool) (n : ℕ) (b : Bool) → AreFlags test flags n → b ≡ test n → AreFlags test (flags ++ b ∷ []) (n + 1)
flags_pushed test flags n b known right = record {
  many = length_pushed flags b ∙ ap (λ k. k + 1) known.many;
  each = λ s below. from s below (cases_lt s n);
} where
  from : (s : ℕ) → s < n + 1 → (s < n) ⊎ (n ≤ s) → acts_in (flags ++ b ∷ []) s ≡ test s
  from s below (inl earlier) =
      let many = known.many in
      acts_before flags b s (omega (arith, many, earlier)) ∙ known.each s earlier
  from s below (inr late) =
      let many = known.many in
      let is : s ≡ n = omega (arith, below, late) in
      acts_at flags b s (omega (arith, many, is)) ∙ right ∙ ap test (sym is)

-- those behind the last don't act
pub flags_all : (known : ℕ → Bool) (test : ℕ → Bool) (flags : List Bool) (n : ℕ) → ((s : ℕ) → known s ≡ nat_lt s n) → AreFlags test flags n
    → (s : ℕ) → acts_in flags s ≡ (known s && test s)
flags_all known test flags n below are s = from (cases_lt s n) where
  from : (s < n) ⊎ (n ≤ s) → acts_in flags s ≡ (known s && test s)
  from (inl earlier) =
      let is : nat_lt s n ≡ true = grind (arith, nat_tests, earlier) in
      are.each s earlier ∙ ap (λ b. b && test s) (sym (below s ∙ is))
  from (inr late) =
      let many = are.many in
      let is : nat_lt s n ≡ false = grind (arith, nat_tests, late) in
      acts_past flags s (omega (arith, many, late)) ∙ ap (λ b. b && test s) (sym (below s ∙ is))
