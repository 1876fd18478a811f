-- Numbers that pass a test, in order.
use Rattle.std.specs.Prelude.{◌≡◌, ℕ, zero, suc, ◌+◌, ◌-◌, ◌*◌, ◌/◌, ◌%◌, ◌^◌, ◌<◌, ◌≤◌, Bool, true, false, cond, not, ◌&&◌, nat_eq, nat_lt, [], ◌∷◌, bit_and, refl}
use Rattle.std.specs.Int.{bit_at, bit_not, w64, trailing_zeros}
use Rattle.std.specs.List.{list_all}
use Rattle.std.specs.Ordering.{nat_cmp}
use Rattle.std.specs.Cmp.{nat_cmp_total}
use Rattle.std.specs.FinSet.{FinSet, contains, contains-empty, empty, nat_cmp-IsAntisymmetric}
use Rattle.std.proofs.Common.{◌⊎◌, inl, inr, arith, sym, ap, ◌∙◌}
use Rattle.std.proofs.lemmas.Bool.{cases_lt, cases_eq}
use Rattle.std.proofs.lemmas.Bool.Decides.{nat_tests}
use Rattle.std.proofs.Math.Bool.{and-false}
use Rattle.std.specs.Cmp.Derive.{both_true}
use Rattle.std.proofs.lemmas.Nat.Bits.{bit_at-trailing_zeros, bit_at-zero}
use Rattle.mls_facts.specs.Each.{each}
use Rattle.mls_facts.specs.Words.{has_bit_in}
use Rattle.mls_facts.proofs.Each.{each-contains}
use Rattle.mls_facts.proofs.Words.{quotient, remainder, has_bit_in-clear}
use Rattle.mls_labels.specs.Ascending.{numbers, ascending}
use Rattle.mls_labels.specs.CategoryBits.{word_at, put, AreWide, IsFirst, categories_of}
use Rattle.mls_labels.specs.declared.words.Words.{Words}
use Rattle.mls_labels.proofs.CategoryWords.{contains-categories_of, contains-at, put_same, put_other, wide_at}

-- over a gap where none passes
numbers-gap : (p : ℕ → Bool) (gap count total from at : ℕ) → total ≡ gap + count → at ≡ from + gap → ((i : ℕ) → from ≤ i → i < at → p i ≡ false) → numbers p total from ≡ numbers p count at
unfolding numbers
numbers-gap p zero count total from at e f none =
    let same : total ≡ count = omega arith in
    let here : at ≡ from = omega arith in
    rw (same, here) refl
numbers-gap p (suc gap) count total from at e f none =
    let more : total ≡ suc (gap + count) = omega arith in
    rw (more, none from (omega arith) (omega arith)) (numbers-gap p gap count (gap + count) (suc from) at refl (omega arith) (λ i low high. none i (omega arith) high))

numbers-same : (p q : ℕ → Bool) (count from : ℕ) → ((i : ℕ) → from ≤ i → p i ≡ q i) → numbers p count from ≡ numbers q count from
unfolding numbers
numbers-same p q zero from same = refl
numbers-same p q (suc count) from same =
    let rest = numbers-same p q count (suc from) (λ i low. same i (omega arith)) in
    rw (same from (omega arith)) (ap (λ ns. cond (q from) (from ∷ ns) ns) rest)

numbers-first : (p : ℕ → Bool) (count from : ℕ) → p from ≡ true → numbers p (suc count) from ≡ from ∷ numbers p count (suc from)
unfolding numbers
numbers-first p count from h = rw h refl

-- the first number, and those without it
pub numbers-without : (p q : ℕ → Bool) (t : ℕ) → t < 256 → p t ≡ true → ((i : ℕ) → i < t → p i ≡ false) → ((i : ℕ) → i ≤ t → q i ≡ false) → ((i : ℕ) → t < i → p i ≡ q i) → numbers p 256 0 ≡ t ∷ numbers q 256 0
numbers-without p q t within first before removed after =
    numbers-gap p t (suc (255 - t)) 256 0 t (omega arith) (omega arith) (λ i low high. before i high)
    ∙ numbers-first p (255 - t) t first
    ∙ ap (λ ns. t ∷ ns) (numbers-same p q (255 - t) (suc t) (λ i low. after i (omega arith)) ∙ sym (numbers-gap q (suc t) (255 - t) 256 0 (suc t) (omega arith) (omega arith) (λ i low high. removed i (omega arith))))

without_test : (t h u : Bool) → (u && (not t && h)) ≡ (not t && (u && h))
without_test true h u = and-false u
without_test false h u = refl

within_all : (k z : ℕ) → k < 4 → z < 64 → k * 64 + z < 256
within_all k z place low = omega arith

-- without the bit of a category, words stand for the set without it
contains-cleared : (w : Words) (k z : ℕ) → k < 4 → z < 64 → (q : ℕ)
    → contains (categories_of (put w k (bit_and (word_at w k) (bit_not w64 (1 * 2 ^ z % 2 ^ 64))))) q ≡ (not (nat_eq q (k * 64 + z)) && contains (categories_of w) q)
contains-cleared w k z place low q =
    let word = bit_and (word_at w k) (bit_not w64 (1 * 2 ^ z % 2 ^ 64)) in
    let new = put w k word in
    let n = k * 64 + z in
    let where_word : n / 64 ≡ k = quotient k z low in
    let where_bit : n % 64 ≡ z = remainder k z low in
    contains-categories_of new q
    ∙ ap (λ t. nat_lt q 256 && t) (has_bit_in-clear (word_at w) (word_at new) n
    (λ j other. put_other w word k j (λ e. other (e ∙ sym where_word)))
    (rw (where_word, where_bit) (put_same w word k place)) q)
    ∙ without_test (nat_eq q n) (has_bit_in (word_at w) q) (nat_lt q 256)
    ∙ ap (λ t. not (nat_eq q n) && t) (sym (contains-categories_of w q))

earlier : (q k z : ℕ) → z < 64 → q < k * 64 + z → (q / 64 < k) ⊎ (k ≤ q / 64) → (q / 64 < k) ⊎ ((q / 64 ≡ k) × (q % 64 < z))
earlier q k z low h (inl word) = inl word
earlier q k z low h (inr past) =
    let word : q / 64 ≡ k = omega arith in
    let bit : q % 64 < z = omega arith in
    inr (word, bit)

none_before : (w : Words) (k z : ℕ) → z < 64 → ((j : ℕ) → j < k → word_at w j ≡ 0) → ((i : ℕ) → i < z → bit_at (word_at w k) i ≡ 0) → (q : ℕ) → q < k * 64 + z → contains (categories_of w) q ≡ false
none_before w k z low words bits q h = contains-categories_of w q ∙ elim (earlier q k z low h (cases_lt (q / 64) k)) [
  | inl word ↦ rw (words (q / 64) word, bit_at-zero (q % 64)) (and-false (nat_lt q 256))
  | inr at ↦ rw (at.0, bits (q % 64) at.1) (and-false (nat_lt q 256))
]

-- the lowest bit of the first word that isn't 0 is the first category
pub ascending-first : (w : Words) (k : ℕ) → IsFirst w k → AreWide w
    → ascending (categories_of w) ≡ (k * 64 + trailing_zeros w64 (word_at w k)) ∷ ascending (categories_of (put w k (bit_and (word_at w k) (bit_not w64 (1 * 2 ^ trailing_zeros w64 (word_at w k) % 2 ^ 64)))))
ascending-first w k is wide =
    let z = trailing_zeros w64 (word_at w k) in
    let t = k * 64 + z in
    let lowest = bit_at-trailing_zeros w64 (word_at w k) is.some (wide_at w wide k is.within) in
    let low : z < 64 = lowest.0 in
    let new = put w k (bit_and (word_at w k) (bit_not w64 (1 * 2 ^ z % 2 ^ 64))) in
    let cleared = contains-cleared w k z is.within low in
    let before = none_before w k z low is.before lowest.2 in
    numbers-without (contains (categories_of w)) (contains (categories_of new)) t (within_all k z is.within low)
    (contains-at w k z is.within low ∙ rw lowest.1 refl)
    before
    (λ i upto. cleared i ∙ elim (cases_eq i t) [
      | inl same ↦ let here : nat_eq i t ≡ true = grind (arith, nat_tests, same) in rw here refl
      | inr other ↦ let less : i < t = omega (arith, other) in rw (before i less) (and-false (not (nat_eq i t)))
    ])
    (λ i after. let no : nat_eq i t ≡ false = grind (arith, nat_tests, after) in sym (cleared i ∙ rw no refl))

numbers-none : (p : ℕ → Bool) (count from : ℕ) → ((i : ℕ) → p i ≡ false) → numbers p count from ≡ []
unfolding numbers
numbers-none p zero from none = refl
numbers-none p (suc count) from none = rw (none from) (numbers-none p count (suc from) none)

-- no category
pub ascending-empty : ascending empty ≡ []
ascending-empty = numbers-none (contains empty) 256 0 (contains-empty nat_cmp)

numbers-all : (p : ℕ → Bool) (test : ℕ → Bool) (count from : ℕ) → ((i : ℕ) → p i ≡ true → test i ≡ true) → list_all test (numbers p count from) ≡ true
unfolding numbers
numbers-all p test zero from known = refl
numbers-all p test (suc count) from known = elim (p from) as (λ b. p from ≡ b → list_all test (cond b (from ∷ numbers p count (suc from)) (numbers p count (suc from))) ≡ true) [
  | true ↦ λ e. both_true (known from e) (numbers-all p test count (suc from) known)
  | false ↦ λ _. numbers-all p test count (suc from) known
] refl

-- what each member passes, each of the numbers does
pub ascending-all : (s : FinSet nat_cmp) (test : ℕ → Bool) → each s test ≡ true → list_all test (ascending s) ≡ true
ascending-all s test all = numbers-all (contains s) test 256 0 (λ i there. each-contains nat_cmp_total nat_cmp-IsAntisymmetric s test i all there)
