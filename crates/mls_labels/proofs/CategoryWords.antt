-- What the operations on four words do to the sets of categories that the words stand for.
use Rattle.std.specs.Prelude.{◌≡◌, ℕ, zero, suc, ◌+◌, ◌-◌, ◌*◌, ◌/◌, ◌%◌, ◌^◌, ◌<◌, ◌≤◌, Bool, true, false, cond, not, ◌&&◌, ◌||◌, nat_eq, nat_le, nat_lt, List, [], ◌∷◌, bit_or, bit_and, slice_index, refl}
use Rattle.std.specs.Ordering.{nat_cmp}
use Rattle.std.specs.Cmp.{nat_cmp_total, unsigned_tied, nat_eq_equiv, both_ways}
use Rattle.std.specs.Cmp.Derive.{both_true}
use Rattle.std.specs.Int.{bit_at, bit_not, w64}
use Rattle.std.proofs.lemmas.Nat.{or_lt, pow_pos}
use Rattle.std.proofs.lemmas.Nat.Bits.{bit_at-lt, bit_at_above, bit_at-zero, bit_at_and, bit_at_or, bit_at_not, same_from_bits, shr_and_one}
use Rattle.std.specs.FinSet.{FinSet, empty, contains, insert, same_set, is_subset, is_subset-contains, contains-is_subset, contains-empty, contains-insert, nat_cmp-IsAntisymmetric}
use Rattle.std.proofs.Common.{min, max, ◌⊎◌, inl, inr, arith, sym, ap, ◌∙◌, subst}
use Rattle.std.proofs.Math.Bool.{and-false}
use Rattle.std.proofs.lemmas.Bool.{and_parts, cases_lt, cases_eq, lt-ltb, le-ltb}
use Rattle.std.proofs.lemmas.Bool.Decides.{nat_tests}
use Rattle.mls_facts.specs.Bits.{has_bit, number_of}
use Rattle.mls_facts.specs.Each.{each}
use Rattle.mls_facts.specs.Passing.{passing}
use Rattle.mls_facts.specs.Words.{has_bit_in}
use Rattle.mls_facts.proofs.Bits.{number_of-lt, bit_at-number_of, one_bit}
use Rattle.mls_facts.proofs.Each.{each-contains, contains-each}
use Rattle.mls_facts.proofs.Passing.{contains-passing}
use Rattle.mls_facts.proofs.Sets.{is_same_set-true, is_same_set-itself}
use Rattle.mls_facts.proofs.Words.{has_bit_in-at, has_bit_in-set, number_of-word, place_back, place_within, fits_first, fits_second, fits_third, fits_fourth}
use Rattle.mls_labels.specs.CategoryBits.{word_at, put, AreWide, categories_of, word_of, words_of, categories_in, words_in, is_word_below, are_below, are_same}
use Rattle.mls_labels.specs.Same.{same_categories}
use Rattle.mls_labels.specs.declared.words.Words.{Words}

-- what holds of four places holds of each below 4
pub each_place : (P : ℕ → Type 0) → P 0 → P 1 → P 2 → P 3 → (k : ℕ) → k < 4 → P k
each_place P a b c d zero h = a
each_place P a b c d (suc zero) h = b
each_place P a b c d (suc (suc zero)) h = c
each_place P a b c d (suc (suc (suc zero))) h = d
each_place P a b c d (suc (suc (suc (suc k)))) h = absurd (omega (arith, h))

quarter : (q : ℕ) → q < 256 → q / 64 < 4
quarter q within = omega arith

in_quarter : (k i : ℕ) → k < 4 → i < 64 → k * 64 + i < 256
in_quarter k i place within = omega arith

pub put_same : (w : Words) (b k : ℕ) → k < 4 → word_at (put w k b) k ≡ b
put_same w b = each_place (λ k. word_at (put w k b) k ≡ b) refl refl refl refl

pub put_other : (w : Words) (b k j : ℕ) → (j ≡ k → ⊥) → word_at (put w k b) j ≡ word_at w j
put_other w b zero zero other = absurd (other refl)
put_other w b zero (suc zero) other = refl
put_other w b zero (suc (suc zero)) other = refl
put_other w b zero (suc (suc (suc zero))) other = refl
put_other w b zero (suc (suc (suc (suc j)))) other = refl
put_other w b (suc zero) zero other = refl
put_other w b (suc zero) (suc zero) other = absurd (other refl)
put_other w b (suc zero) (suc (suc zero)) other = refl
put_other w b (suc zero) (suc (suc (suc zero))) other = refl
put_other w b (suc zero) (suc (suc (suc (suc j)))) other = refl
put_other w b (suc (suc zero)) zero other = refl
put_other w b (suc (suc zero)) (suc zero) other = refl
put_other w b (suc (suc zero)) (suc (suc zero)) other = absurd (other refl)
put_other w b (suc (suc zero)) (suc (suc (suc zero))) other = refl
put_other w b (suc (suc zero)) (suc (suc (suc (suc j)))) other = refl
put_other w b (suc (suc (suc zero))) zero other = refl
put_other w b (suc (suc (suc zero))) (suc zero) other = refl
put_other w b (suc (suc (suc zero))) (suc (suc zero)) other = refl
put_other w b (suc (suc (suc zero))) (suc (suc (suc zero))) other = absurd (other refl)
put_other w b (suc (suc (suc zero))) (suc (suc (suc (suc j)))) other = refl
put_other w b (suc (suc (suc (suc k)))) j other = refl

pub put_fits : (w : Words) (b k : ℕ) → AreWide w → b < 2 ^ 64 → AreWide (put w k b)
put_fits w b zero wide small = record { first = small; second = wide.second; third = wide.third; fourth = wide.fourth }
put_fits w b (suc zero) wide small = record { first = wide.first; second = small; third = wide.third; fourth = wide.fourth }
put_fits w b (suc (suc zero)) wide small = record { first = wide.first; second = wide.second; third = small; fourth = wide.fourth }
put_fits w b (suc (suc (suc zero))) wide small = record { first = wide.first; second = wide.second; third = wide.third; fourth = small }
put_fits w b (suc (suc (suc (suc k)))) wide small = wide

pub wide_at : (w : Words) → AreWide w → (k : ℕ) → k < 4 → word_at w k < 2 ^ 64
wide_at w wide = each_place (λ k. word_at w k < 2 ^ 64) wide.first wide.second wide.third wide.fourth

-- whether the set of some words has a category
pub contains-categories_of : (w : Words) (q : ℕ) → contains (categories_of w) q ≡ (nat_lt q 256 && has_bit_in (word_at w) q)
contains-categories_of w q = contains-passing (has_bit_in (word_at w)) 256 q

pub category_within : (w : Words) (q : ℕ) → contains (categories_of w) q ≡ true → q < 256
category_within w q there =
    let parts = and_parts (nat_lt q 256) (has_bit_in (word_at w) q) (sym (contains-categories_of w q) ∙ there) in
    grind (arith, nat_tests, parts.0)

category_bit : (w : Words) (q : ℕ) → contains (categories_of w) q ≡ true → has_bit (word_at w (q / 64)) (q % 64) ≡ true
category_bit w q there = (and_parts (nat_lt q 256) (has_bit_in (word_at w) q) (sym (contains-categories_of w q) ∙ there)).1

bit_category : (w : Words) (q : ℕ) → q < 256 → has_bit (word_at w (q / 64)) (q % 64) ≡ true → contains (categories_of w) q ≡ true
bit_category w q within has = contains-categories_of w q ∙ both_true (lt-ltb q 256 within) has

pub contains-at : (w : Words) (k i : ℕ) → k < 4 → i < 64 → contains (categories_of w) (k * 64 + i) ≡ has_bit (word_at w k) i
contains-at w k i place within = contains-categories_of w (k * 64 + i) ∙ rw (lt-ltb (k * 64 + i) 256 (in_quarter k i place within), has_bit_in-at (word_at w) k i within) refl

no_bit : (i : ℕ) → has_bit 0 i ≡ false
no_bit i = rw (bit_at-zero i) refl

-- words that are all 0 stand for the empty set
pub none_words : (w : Words) → ((k : ℕ) → word_at w k ≡ 0) → categories_of w ≡ empty
none_words w none = same_set nat_cmp_total nat_cmp-IsAntisymmetric _ _ (λ q.
    contains-categories_of w q ∙ rw (none (q / 64), no_bit (q % 64)) (and-false (nat_lt q 256)) ∙ sym (contains-empty nat_cmp q))

zeros : (k : ℕ) → word_at (record { first = 0; second = 0; third = 0; fourth = 0 }) k ≡ 0
zeros zero = refl
zeros (suc zero) = refl
zeros (suc (suc zero)) = refl
zeros (suc (suc (suc zero))) = refl
zeros (suc (suc (suc (suc k)))) = refl

pub no_words : categories_of (record { first = 0; second = 0; third = 0; fourth = 0 }) ≡ empty
no_words = none_words _ zeros

-- what the test of a bit says
pub contains_word : (w : Words) (n : ℕ) → n < 256 → contains (categories_of w) n ≡ nat_eq (bit_and (word_at w (n / 64) / 2 ^ (n % 64)) 1) 1
contains_word w n within = contains-categories_of w n ∙ rw (lt-ltb n 256 within, shr_and_one) refl

with_test : (t h : Bool) (n q : ℕ) → n < 256 → nat_eq q n ≡ t → (nat_lt q 256 && (t || h)) ≡ (t || (nat_lt q 256 && h))
with_test true h n q within is = let same : q ≡ n = grind (arith, nat_tests, is) in rw (same, lt-ltb n 256 within) refl
with_test false h n q within is = refl

-- a bit more is a category more
pub with_word : (w : Words) (n : ℕ) → n < 256 → insert (categories_of w) n ≡ categories_of (put w (n / 64) (bit_or (word_at w (n / 64)) (1 * 2 ^ (n % 64) % 2 ^ 64)))
with_word w n within =
    let word = bit_or (word_at w (n / 64)) (1 * 2 ^ (n % 64) % 2 ^ 64) in
    let new = put w (n / 64) word in
    same_set nat_cmp_total nat_cmp-IsAntisymmetric _ _ (λ q.
    contains-insert nat_cmp_total (categories_of w) n q ∙ rw (unsigned_tied q n, contains-categories_of w q) refl
    ∙ sym (contains-categories_of new q
    ∙ ap (λ t. nat_lt q 256 && t) (has_bit_in-set (word_at w) (word_at new) n (λ k other. put_other w word (n / 64) k other) (put_same w word (n / 64) (quarter n within)) q)
    ∙ with_test (nat_eq q n) (has_bit_in (word_at w) q) n q within refl))

pub with_fits : (w : Words) (n : ℕ) → AreWide w → n < 256 → AreWide (put w (n / 64) (bit_or (word_at w (n / 64)) (1 * 2 ^ (n % 64) % 2 ^ 64)))
with_fits w n wide within =
    let one : 1 * 2 ^ (n % 64) % 2 ^ 64 < 2 ^ 64 = omega arith in
    put_fits w _ (n / 64) wide (or_lt 64 (word_at w (n / 64)) _ (wide_at w wide (n / 64) (quarter n within)) one)

none_left : (x y : ℕ) → bit_or x y ≡ 0 → x ≡ 0
none_left x y h = same_from_bits x 0 (λ i.
    let both : bit_at (bit_or x y) i ≡ 0 = rw h (bit_at-zero i) in
    let most : bit_at (bit_or x y) i ≡ max (bit_at x i) (bit_at y i) = bit_at_or x y i in
    let none : bit_at x i ≡ 0 = omega arith in
    none ∙ sym (bit_at-zero i))

none_right : (x y : ℕ) → bit_or x y ≡ 0 → y ≡ 0
none_right x y h = same_from_bits y 0 (λ i.
    let both : bit_at (bit_or x y) i ≡ 0 = rw h (bit_at-zero i) in
    let most : bit_at (bit_or x y) i ≡ max (bit_at x i) (bit_at y i) = bit_at_or x y i in
    let none : bit_at y i ≡ 0 = omega arith in
    none ∙ sym (bit_at-zero i))

bit_kept : (a b i : ℕ) → b < 2 ^ 64 → i < 64 → bit_and a (bit_not w64 b) ≡ 0 → has_bit a i ≡ true → has_bit b i ≡ true
bit_kept a b i small within none in_a =
    let in_bit : bit_at a i ≡ 1 = grind (arith, nat_tests, in_a) in
    let zero_bit : bit_at (bit_and a (bit_not w64 b)) i ≡ 0 = rw none (bit_at-zero i) in
    let parts : bit_at (bit_and a (bit_not w64 b)) i ≡ min (bit_at a i) (bit_at (bit_not w64 b) i) = bit_at_and a (bit_not w64 b) i in
    let negated : bit_at (bit_not w64 b) i ≡ 1 - bit_at b i = bit_at_not w64 b i small within in
    let below_two : bit_at b i < 2 = bit_at-lt b i in
    let out : bit_at b i ≡ 1 = omega arith in
    rw out refl

bit_gone : (a b i : ℕ) → a < 2 ^ 64 → b < 2 ^ 64 → (i < 64 → has_bit a i ≡ true → has_bit b i ≡ true) → (i < 64) ⊎ (64 ≤ i) → (bit_at a i ≡ 1) ⊎ (bit_at a i ≡ 1 → ⊥) → bit_at (bit_and a (bit_not w64 b)) i ≡ 0
bit_gone a b i small_a small kept (inl within) (inl one) =
    let in_b : has_bit b i ≡ true = kept within (rw one refl) in
    let out : bit_at b i ≡ 1 = grind (arith, nat_tests, in_b) in
    let parts : bit_at (bit_and a (bit_not w64 b)) i ≡ min (bit_at a i) (bit_at (bit_not w64 b) i) = bit_at_and a (bit_not w64 b) i in
    let negated : bit_at (bit_not w64 b) i ≡ 1 - bit_at b i = bit_at_not w64 b i small within in
    omega arith
bit_gone a b i small_a small kept (inl within) (inr other) =
    let below_two : bit_at a i < 2 = bit_at-lt a i in
    let parts : bit_at (bit_and a (bit_not w64 b)) i ≡ min (bit_at a i) (bit_at (bit_not w64 b) i) = bit_at_and a (bit_not w64 b) i in
    omega arith
bit_gone a b i small_a small kept (inr above) which =
    let none : bit_at a i ≡ 0 = bit_at_above a 64 i small_a above in
    let parts : bit_at (bit_and a (bit_not w64 b)) i ≡ min (bit_at a i) (bit_at (bit_not w64 b) i) = bit_at_and a (bit_not w64 b) i in
    omega arith

-- the bits of one word that another lacks
abbrev lacks : ℕ → ℕ → ℕ
lacks a b = bit_and a (bit_not w64 b)

word_kept : (a b : Words) → AreWide b → ((k : ℕ) → k < 4 → lacks (word_at a k) (word_at b k) ≡ 0) → (q : ℕ) → contains (categories_of a) q ≡ true → contains (categories_of b) q ≡ true
word_kept a b wide none q there =
    let within : q < 256 = category_within a q there in
    bit_category b q within (bit_kept (word_at a (q / 64)) (word_at b (q / 64)) (q % 64) (wide_at b wide (q / 64) (quarter q within)) (place_within q) (none (q / 64) (quarter q within)) (category_bit a q there))

word_gone : (a b : Words) → AreWide a → AreWide b → ((q : ℕ) → contains (categories_of a) q ≡ true → contains (categories_of b) q ≡ true) → (k : ℕ) → k < 4 → lacks (word_at a k) (word_at b k) ≡ 0
word_gone a b wide_a wide_b kept k place = same_from_bits _ 0 (λ i.
    bit_gone (word_at a k) (word_at b k) i (wide_at a wide_a k place) (wide_at b wide_b k place)
    (λ within has. sym (contains-at b k i place within) ∙ kept (k * 64 + i) (contains-at a k i place within ∙ has))
    (cases_lt i 64) (cases_eq (bit_at (word_at a k) i) 1) ∙ sym (bit_at-zero i))

-- the bits that the words of one lack of the other's
abbrev all_lacks : Words → Words → ℕ
all_lacks a b = bit_or (bit_or (lacks a.first b.first) (lacks a.second b.second)) (bit_or (lacks a.third b.third) (lacks a.fourth b.fourth))

none_lacks : (a b : Words) → all_lacks a b ≡ 0 → (k : ℕ) → k < 4 → lacks (word_at a k) (word_at b k) ≡ 0
none_lacks a b h =
    let low : bit_or (lacks a.first b.first) (lacks a.second b.second) ≡ 0 = none_left _ _ h in
    let high : bit_or (lacks a.third b.third) (lacks a.fourth b.fourth) ≡ 0 = none_right _ _ h in
    each_place (λ k. lacks (word_at a k) (word_at b k) ≡ 0) (none_left _ _ low) (none_right _ _ low) (none_left _ _ high) (none_right _ _ high)

lacks_none : (a b : Words) → ((k : ℕ) → k < 4 → lacks (word_at a k) (word_at b k) ≡ 0) → all_lacks a b ≡ 0
lacks_none a b none =
    let first : lacks a.first b.first ≡ 0 = none 0 (omega arith) in
    let second : lacks a.second b.second ≡ 0 = none 1 (omega arith) in
    let third : lacks a.third b.third ≡ 0 = none 2 (omega arith) in
    let fourth : lacks a.fourth b.fourth ≡ 0 = none 3 (omega arith) in
    rw (first, second, third, fourth) refl

-- one set contains another where no word of the other has a bit that the one's lacks
pub subset_words : (a b : Words) → AreWide a → AreWide b
    → is_subset (categories_of a) (categories_of b)
    ≡ nat_eq (bit_or (bit_or (bit_and a.first (bit_not w64 b.first)) (bit_and a.second (bit_not w64 b.second))) (bit_or (bit_and a.third (bit_not w64 b.third)) (bit_and a.fourth (bit_not w64 b.fourth)))) 0
subset_words a b wide_a wide_b = sym (both_ways _ _
    (λ h. let none : all_lacks a b ≡ 0 = grind (arith, nat_tests, h) in
    contains-is_subset nat_cmp_total (categories_of a) (categories_of b) (word_kept a b wide_b (none_lacks a b none)))
    (λ all. let none : all_lacks a b ≡ 0 = lacks_none a b (word_gone a b wide_a wide_b (is_subset-contains nat_cmp_total (categories_of a) (categories_of b) all)) in
    rw none refl))

kept_below : (t u : Bool) → (u ≡ true → t ≡ true) → cond (t && u) 1 0 ≡ cond {A = ℕ} u 1 0
kept_below true u known = refl
kept_below false true known = let no : false ≡ true = known refl in cc
kept_below false false known = refl

-- a number whose bits are all below n is below 2 ^ n
bits_below : (b n : ℕ) → ((q : ℕ) → has_bit b q ≡ true → nat_lt q n ≡ true) → b < 2 ^ n
bits_below b n known =
    let same : number_of (has_bit b) n ≡ b = same_from_bits _ b (λ i. bit_at-number_of (has_bit b) n i ∙ kept_below (nat_lt i n) (has_bit b i) (known i) ∙ one_bit _ (bit_at-lt b i)) in
    rw same at (number_of-lt (has_bit b) n)

bit_within : (b n i : ℕ) → b < 2 ^ n → has_bit b i ≡ true → (i < n) ⊎ (n ≤ i) → i < n
bit_within b n i small has (inl within) = within
bit_within b n i small has (inr past) = let none : bit_at b i ≡ 0 = bit_at_above b n i small past in absurd (grind (arith, nat_tests, has, none))

-- a word that is 0 has no bit that is 1
pub no_bits : (b count : ℕ) → b ≡ 0 → is_word_below b count ≡ true
no_bits b count none = from (nat_le 64 count) where
  from : (many : Bool) → (many || nat_lt b (2 ^ count)) ≡ true
  from true = refl
  from false = lt-ltb b (2 ^ count) (omega (arith, none, pow_pos count))

lowest_bits : (b count i : ℕ) → is_word_below b count ≡ true → has_bit b i ≡ true → i < 64 → (64 ≤ count) ⊎ (count < 64) → i < count
lowest_bits b count i below has within (inl wide) = omega arith
lowest_bits b count i below has within (inr few) =
    let small : b < 2 ^ count = grind (arith, nat_tests, below, few) in
    bit_within b count i small has (cases_lt i count)

bits_lowest : (b count : ℕ) → b < 2 ^ 64 → ((i : ℕ) → i < 64 → has_bit b i ≡ true → i < count) → (64 ≤ count) ⊎ (count < 64) → is_word_below b count ≡ true
bits_lowest b count small known (inl wide) = grind (arith, nat_tests, wide)
bits_lowest b count small known (inr few) =
    let low : b < 2 ^ count = bits_below b count (λ i has. lt-ltb i count (known i (bit_within b 64 i small has (cases_lt i 64)) has)) in
    grind (arith, nat_tests, few, low)

wide_or_few : (count : ℕ) → (64 ≤ count) ⊎ (count < 64)
wide_or_few count = elim (cases_lt count 64) [ inl few ↦ inr few | inr wide ↦ inl wide ]

place_below : (q n : ℕ) → q % 64 < n - q / 64 * 64 → q < n
place_below q n h = omega arith

below_place : (k i n : ℕ) → k * 64 + i < n → i < n - k * 64
below_place k i n h = omega arith

less : (q n : ℕ) → nat_lt q n ≡ true → q < n
less q n h = grind (arith, nat_tests, h)

categories_below : (w : Words) (n : ℕ) → ((k : ℕ) → k < 4 → is_word_below (word_at w k) (n - k * 64) ≡ true) → each (categories_of w) (λ q. nat_lt q n) ≡ true
categories_below w n low = contains-each nat_cmp_total nat_cmp-IsAntisymmetric (categories_of w) (λ q. nat_lt q n) (λ q there.
    let within : q < 256 = category_within w q there in
    let place : q % 64 < n - q / 64 * 64 = lowest_bits (word_at w (q / 64)) (n - q / 64 * 64) (q % 64) (low (q / 64) (quarter q within)) (category_bit w q there) (place_within q) (wide_or_few (n - q / 64 * 64)) in
    lt-ltb q n (place_below q n place))

below_categories : (w : Words) (n : ℕ) → AreWide w → each (categories_of w) (λ q. nat_lt q n) ≡ true → (k : ℕ) → k < 4 → is_word_below (word_at w k) (n - k * 64) ≡ true
below_categories w n wide all k place = bits_lowest (word_at w k) (n - k * 64) (wide_at w wide k place)
    (λ i within has. below_place k i n (less (k * 64 + i) n (each-contains nat_cmp_total nat_cmp-IsAntisymmetric (categories_of w) (λ q. nat_lt q n) (k * 64 + i) all (contains-at w k i place within ∙ has))))
    (wide_or_few (n - k * 64))

at_start : (n : ℕ) → n - 0 * 64 ≡ n
at_start n = omega arith

-- all categories are below n where the bits of each word are among its lowest ones
pub words_below : (w : Words) (n : ℕ) → AreWide w
    → each (categories_of w) (λ q. nat_lt q n) ≡ are_below w n
words_below w n wide = both_ways _ _
    (λ all. let low = below_categories w n wide all in
    let first : is_word_below w.first n ≡ true = subst (λ m. is_word_below w.first m ≡ true) (at_start n) (low 0 (omega arith)) in
    both_true (both_true (both_true first (low 1 (omega arith))) (low 2 (omega arith))) (low 3 (omega arith)))
    (λ h. let d = and_parts (is_word_below w.first n && is_word_below w.second (n - 64) && is_word_below w.third (n - 128)) (is_word_below w.fourth (n - 192)) h in
    let c = and_parts (is_word_below w.first n && is_word_below w.second (n - 64)) (is_word_below w.third (n - 128)) d.0 in
    let b = and_parts (is_word_below w.first n) (is_word_below w.second (n - 64)) c.0 in
    let first : is_word_below w.first (n - 0 * 64) ≡ true = subst (λ m. is_word_below w.first m ≡ true) (sym (at_start n)) b.0 in
    categories_below w n (each_place (λ k. is_word_below (word_at w k) (n - k * 64) ≡ true) first b.1 c.1 d.1))

-- the words of the set of some words are these
pub words_of-categories_of : (w : Words) → AreWide w → words_of (categories_of w) ≡ w
words_of-categories_of w wide = λ i. record {
  first = number_of-word (word_at w) 256 0 w.first refl wide.first fits_first i;
  second = number_of-word (word_at w) 256 1 w.second refl wide.second fits_second i;
  third = number_of-word (word_at w) 256 2 w.third refl wide.third fits_third i;
  fourth = number_of-word (word_at w) 256 3 w.fourth refl wide.fourth fits_fourth i;
}

itself : (n : ℕ) → nat_eq n n ≡ true
itself n = nat_eq_equiv.refl n

-- sets of categories are the same where their words are
pub same_words : (a b : Words) → AreWide a → AreWide b
    → same_categories (categories_of a) (categories_of b) ≡ are_same a b
same_words a b wide_a wide_b = both_ways _ _
    (λ h. let same : a ≡ b = sym (words_of-categories_of a wide_a) ∙ ap words_of (is_same_set-true nat_cmp_total nat_cmp-IsAntisymmetric (categories_of a) (categories_of b) h) ∙ words_of-categories_of b wide_b in
    rw same (both_true (both_true (both_true (itself b.first) (itself b.second)) (itself b.third)) (itself b.fourth)))
    (λ h. let d = and_parts (nat_eq a.first b.first && nat_eq a.second b.second && nat_eq a.third b.third) (nat_eq a.fourth b.fourth) h in
    let c = and_parts (nat_eq a.first b.first && nat_eq a.second b.second) (nat_eq a.third b.third) d.0 in
    let f = and_parts (nat_eq a.first b.first) (nat_eq a.second b.second) c.0 in
    let first : a.first ≡ b.first = grind (arith, nat_tests, f.0) in
    let second : a.second ≡ b.second = grind (arith, nat_tests, f.1) in
    let third : a.third ≡ b.third = grind (arith, nat_tests, c.1) in
    let fourth : a.fourth ≡ b.fourth = grind (arith, nat_tests, d.1) in
    let same : a ≡ b = λ i. record { first = first i; second = second i; third = third i; fourth = fourth i } in
    rw same (is_same_set-itself nat_cmp_total (categories_of b)))

both_tests : (q : ℕ) (p r : Bool) → (q < 256) ⊎ (256 ≤ q) → (q < 256 → p ≡ r) → (nat_lt q 256 && p) ≡ (nat_lt q 256 && r)
both_tests q p r (inl within) same = ap (λ t. nat_lt q 256 && t) (same within)
both_tests q p r (inr past) same = rw (le-ltb q 256 past) refl

-- four words of a list stand for the set that the list stands for
pub listed_words : (ws : List ℕ) → categories_of (record { first = slice_index ws 0; second = slice_index ws 1; third = slice_index ws 2; fourth = slice_index ws 3 }) ≡ categories_in ws
listed_words ws =
    let w : Words = record { first = slice_index ws 0; second = slice_index ws 1; third = slice_index ws 2; fourth = slice_index ws 3 } in
    same_set nat_cmp_total nat_cmp-IsAntisymmetric _ _ (λ q.
    contains-categories_of w q
    ∙ both_tests q (has_bit_in (word_at w) q) (has_bit_in (slice_index ws) q) (cases_lt q 256) (λ within.
    ap (λ word. has_bit word (q % 64)) (each_place (λ k. word_at w k ≡ slice_index ws k) refl refl refl refl (q / 64) (quarter q within)))
    ∙ sym (contains-passing (has_bit_in (slice_index ws)) 256 q))

-- and its list of words is theirs
pub words_back : (w : Words) → AreWide w → w.first ∷ w.second ∷ w.third ∷ w.fourth ∷ [] ≡ words_in (categories_of w)
words_back w wide = ap (λ v. v.first ∷ v.second ∷ v.third ∷ v.fourth ∷ []) (sym (words_of-categories_of w wide))

one_of : (t : Bool) → nat_eq (cond t 1 0) 1 ≡ t
one_of true = refl
one_of false = refl

word_bit : (s : FinSet nat_cmp) (k i : ℕ) → i < 64 → has_bit (word_of s k) i ≡ contains s (k * 64 + i)
word_bit s k i within = rw (bit_at-number_of (λ j. contains s (k * 64 + j)) 64 i, lt-ltb i 64 within) (one_of (contains s (k * 64 + i)))

read_bit : (s : FinSet nat_cmp) (q : ℕ) → q < 256 → has_bit_in (slice_index (words_in s)) q ≡ contains s q
read_bit s q within =
    ap (λ word. has_bit word (q % 64)) (each_place (λ k. slice_index (words_in s) k ≡ word_of s k) refl refl refl refl (q / 64) (quarter q within))
    ∙ word_bit s (q / 64) (q % 64) (place_within q) ∙ ap (contains s) (place_back q)

read_test : (s : FinSet nat_cmp) (q : ℕ) (t : Bool) → (contains s q ≡ true → nat_lt q 256 ≡ true) → nat_lt q 256 ≡ t → (t && has_bit_in (slice_index (words_in s)) q) ≡ contains s q
read_test s q true known is = read_bit s q (less q 256 is)
read_test s q false known is = elim (contains s q) as (λ t. contains s q ≡ t → false ≡ t) [
  | true ↦ λ there. sym is ∙ known there
  | false ↦ λ _. refl
] refl

-- the words of a set stand for that set
pub words_read : (s : FinSet nat_cmp) → each s (λ n. nat_lt n 256) ≡ true → categories_in (words_in s) ≡ s
words_read s all = same_set nat_cmp_total nat_cmp-IsAntisymmetric _ _ (λ q.
    contains-passing (has_bit_in (slice_index (words_in s))) 256 q
    ∙ read_test s q (nat_lt q 256) (each-contains nat_cmp_total nat_cmp-IsAntisymmetric s (λ n. nat_lt n 256) q all) refl)
