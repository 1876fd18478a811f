-- Words of 64 bits as sets of object numbers.
use Rattle.std.specs.Prelude.{◌≡◌, ℕ, ◌+◌, ◌*◌, ◌/◌, ◌^◌, ◌<◌, ◌≤◌, Bool, true, false, not, ◌&&◌, ◌||◌, nat_eq, nat_lt, bit_or, bit_and, min, List, length, replicate, refl}
use Rattle.std.specs.Ordering.{nat_cmp}
use Rattle.std.specs.Cmp.{nat_cmp_total, unsigned_tied}
use Rattle.std.specs.Int.{bit_at, bit_not, w64}
use Rattle.std.specs.FinSet.{empty, contains, insert, remove, same_set, contains-empty, contains-insert, contains-remove, nat_cmp-IsAntisymmetric}
use Rattle.std.proofs.Common.{◌%◌, ◌⊎◌, inl, inr, arith, sym, ap, ◌∙◌, get_or, set, get_or-set_same, get_or-set_other, length-set}
use Rattle.std.proofs.Math.Bool.{and-false}
use Rattle.std.proofs.Math.Nat.{div-add-mod, min-eq_left, min-eq_right}
use Rattle.std.proofs.lemmas.Bool.{cases_lt, cases_eq, lt-ltb, le-ltb, eq-eqb, ne_eqb}
use Rattle.std.proofs.lemmas.List.{get_or-replicate, length-replicate}
use Rattle.std.proofs.lemmas.Nat.{or_lt}
use Rattle.std.proofs.lemmas.Nat.Bits.{bit_at-zero, bit_at_ones, bit_at_set_same, bit_at_set_other, bit_at_clear_same, bit_at_clear_other, same_from_bits_below}
use Rattle.mls_facts.specs.Bits.{has_bit}
use Rattle.mls_facts.specs.Least.{least_failing}
use Rattle.mls_facts.proofs.Least.{least_failing-is}
use Rattle.mls_facts.proofs.Passing.{contains-passing}
use Rattle.mls_tables.specs.declared.limits.TheConstants.{MAX_OBJECTS}
use Rattle.mls_tree.specs.Words.{full_word, has_number, numbers_of, IsFirstOpen, IsWords}

pub contains-numbers_of : (words : List ℕ) (q : ℕ) → contains (numbers_of words) q ≡ (nat_lt q MAX_OBJECTS && has_number words q)
unfolding numbers_of
contains-numbers_of words q = contains-passing (has_number words) MAX_OBJECTS q

-- words of zeros
pub numbers_of-zeros : numbers_of (replicate 64 0) ≡ empty
numbers_of-zeros = same_set nat_cmp_total nat_cmp-IsAntisymmetric _ _ (λ q. contains-numbers_of (replicate 64 0) q ∙ none q (cases_lt q MAX_OBJECTS) ∙ sym (contains-empty nat_cmp q)) where
  none : (q : ℕ) → (q < MAX_OBJECTS) ⊎ (MAX_OBJECTS ≤ q) → (nat_lt q MAX_OBJECTS && has_number (replicate 64 0) q) ≡ false
  none q (inl within) =
      let at : q / 64 < 64 = omega arith in
      ap (λ w. nat_lt q MAX_OBJECTS && has_bit w (q % 64)) (get_or-replicate 64 (q / 64) 0 0 at)
      ∙ ap (λ b. nat_lt q MAX_OBJECTS && nat_eq b 1) (bit_at-zero (q % 64)) ∙ and-false (nat_lt q MAX_OBJECTS)
  none q (inr past) = ap (λ b. b && has_number (replicate 64 0) q) (le-ltb q MAX_OBJECTS past)

pub IsWords-zeros : (words : List ℕ) → words ≡ replicate 64 0 → IsWords words 0
IsWords-zeros words are = record {
  many = ap length are ∙ length-replicate {A = ℕ} 64 0;
  first =
      record {
        within = omega arith;
        before = λ i low. absurd (omega arith);
        room = λ some full. let zero_word : get_or words 0 0 ≡ 0 = ap (λ l. get_or l 0 0) are ∙ get_or-replicate 64 0 0 0 (omega arith) in absurd (omega (arith, zero_word, full));
      };
}

-- a word with a bit more is full where it was
full_or : (k : ℕ) → k < 64 → bit_or full_word (1 * 2 ^ k % 2 ^ 64) ≡ full_word
full_or k within =
    let one : 1 * 2 ^ k % 2 ^ 64 < 2 ^ 64 = omega arith in
    let full : full_word < 2 ^ 64 = omega arith in
    same_from_bits_below 64 _ full_word (or_lt 64 full_word _ full one) full (λ i low. at i low (cases_eq i k)) where
      at : (i : ℕ) → i < 64 → (i ≡ k) ⊎ (i ≡ k → ⊥) → bit_at (bit_or full_word (1 * 2 ^ k % 2 ^ 64)) i ≡ bit_at full_word i
      at i low (inl same) = ap (bit_at (bit_or full_word (1 * 2 ^ k % 2 ^ 64))) same ∙ bit_at_set_same w64 full_word k within ∙ sym (bit_at_ones 64 i low)
      at i low (inr other) = bit_at_set_other w64 full_word k within i other

module _ (words : List ℕ) (n : ℕ) (long : length words ≡ 64) (low : n < MAX_OBJECTS) where
  abbrev at : ℕ
  at = n / 64

  abbrev k : ℕ
  k = n % 64

  abbrev w : ℕ
  w = get_or words at 0

  here : at < length words
  here = omega arith

  small : k < 64
  small = omega arith

  -- numbers of one word and one place in it are one
  same_number : (q : ℕ) → q / 64 ≡ at → q % 64 ≡ k → q ≡ n
  same_number q word bit = let whole = div-add-mod q 64 in let whole' = div-add-mod n 64 in omega (arith, whole, whole', word, bit)

  abbrev more : List ℕ
  more = set words at (bit_or w (1 * 2 ^ k % 2 ^ 64))

  abbrev less : List ℕ
  less = set words at (bit_and w (bit_not w64 (1 * 2 ^ k % 2 ^ 64)))

  in_more : (q : ℕ) → has_number more q ≡ (nat_eq q n || has_number words q)
  in_more q = from (cases_eq (q / 64) at) (cases_eq (q % 64) k) where
    from : (q / 64 ≡ at) ⊎ (q / 64 ≡ at → ⊥) → (q % 64 ≡ k) ⊎ (q % 64 ≡ k → ⊥) → has_number more q ≡ (nat_eq q n || has_number words q)
    from (inl word) (inl bit) =
        ap (λ b. has_bit b (q % 64)) (ap (λ i. get_or more i 0) word ∙ get_or-set_same words at _ 0 here)
        ∙ ap (λ b. nat_eq b 1) (ap (bit_at (bit_or w (1 * 2 ^ k % 2 ^ 64))) bit ∙ bit_at_set_same w64 w k small)
        ∙ sym (ap (λ b. b || has_number words q) (eq-eqb q n (same_number q word bit)))
    from (inl word) (inr other) =
        ap (λ b. has_bit b (q % 64)) (ap (λ i. get_or more i 0) word ∙ get_or-set_same words at _ 0 here)
        ∙ ap (λ b. nat_eq b 1) (bit_at_set_other w64 w k small (q % 64) other)
        ∙ ap (λ i. has_bit (get_or words i 0) (q % 64)) (sym word)
        ∙ sym (ap (λ b. b || has_number words q) (ne_eqb q n (λ same. other (ap (λ x. x % 64) same))))
    from (inr other) _ =
        ap (λ b. has_bit b (q % 64)) (get_or-set_other words at (q / 64) _ 0 other)
        ∙ sym (ap (λ b. b || has_number words q) (ne_eqb q n (λ same. other (ap (λ x. x / 64) same))))

  in_less : (q : ℕ) → has_number less q ≡ (not (nat_eq q n) && has_number words q)
  in_less q = from (cases_eq (q / 64) at) (cases_eq (q % 64) k) where
    from : (q / 64 ≡ at) ⊎ (q / 64 ≡ at → ⊥) → (q % 64 ≡ k) ⊎ (q % 64 ≡ k → ⊥) → has_number less q ≡ (not (nat_eq q n) && has_number words q)
    from (inl word) (inl bit) =
        ap (λ b. has_bit b (q % 64)) (ap (λ i. get_or less i 0) word ∙ get_or-set_same words at _ 0 here)
        ∙ ap (λ b. nat_eq b 1) (ap (bit_at (bit_and w (bit_not w64 (1 * 2 ^ k % 2 ^ 64)))) bit ∙ bit_at_clear_same w64 w k small)
        ∙ sym (ap (λ b. not b && has_number words q) (eq-eqb q n (same_number q word bit)))
    from (inl word) (inr other) =
        let place : q % 64 < 64 = omega arith in
        ap (λ b. has_bit b (q % 64)) (ap (λ i. get_or less i 0) word ∙ get_or-set_same words at _ 0 here)
        ∙ ap (λ b. nat_eq b 1) (bit_at_clear_other w64 w k small (q % 64) place other)
        ∙ ap (λ i. has_bit (get_or words i 0) (q % 64)) (sym word)
        ∙ sym (ap (λ b. not b && has_number words q) (ne_eqb q n (λ same. other (ap (λ x. x % 64) same))))
    from (inr other) _ =
        ap (λ b. has_bit b (q % 64)) (get_or-set_other words at (q / 64) _ 0 other)
        ∙ sym (ap (λ b. not b && has_number words q) (ne_eqb q n (λ same. other (ap (λ x. x / 64) same))))

  -- to set the bit of a number is to insert it
  pub numbers_of-set : numbers_of more ≡ insert (numbers_of words) n
  numbers_of-set = same_set nat_cmp_total nat_cmp-IsAntisymmetric _ _ (λ q.
      contains-numbers_of more q ∙ ap (λ b. nat_lt q MAX_OBJECTS && b) (in_more q) ∙ from q (cases_eq q n)
      ∙ sym (contains-insert nat_cmp_total (numbers_of words) n q ∙ (λ i. unsigned_tied q n i || contains-numbers_of words q i))) where
        from : (q : ℕ) → (q ≡ n) ⊎ (q ≡ n → ⊥) → (nat_lt q MAX_OBJECTS && (nat_eq q n || has_number words q)) ≡ (nat_eq q n || (nat_lt q MAX_OBJECTS && has_number words q))
        from q (inl same) = let within : nat_lt q MAX_OBJECTS ≡ true = lt-ltb q MAX_OBJECTS (omega arith) in rw (eq-eqb q n same, within) refl
        from q (inr other) = rw (ne_eqb q n other) refl

  -- to clear the bit of a number is to remove it
  pub numbers_of-clear : numbers_of less ≡ remove (numbers_of words) n
  numbers_of-clear = same_set nat_cmp_total nat_cmp-IsAntisymmetric _ _ (λ q.
      contains-numbers_of less q ∙ ap (λ b. nat_lt q MAX_OBJECTS && b) (in_less q) ∙ swapped (nat_lt q MAX_OBJECTS) (not (nat_eq q n)) (has_number words q)
      ∙ sym (contains-remove nat_cmp_total (numbers_of words) n q ∙ (λ i. not (unsigned_tied q n i) && contains-numbers_of words q i))) where
        swapped : (a b c : Bool) → (a && (b && c)) ≡ (b && (a && c))
        swapped true true c = refl
        swapped true false c = refl
        swapped false true c = refl
        swapped false false c = refl

  -- what was full stays so with a bit more
  pub before-set : (place : ℕ) → IsFirstOpen words place → (i : ℕ) → i < place → get_or more i 0 ≡ full_word
  before-set place first i before = from (cases_eq i at) where
    from : (i ≡ at) ⊎ (i ≡ at → ⊥) → get_or more i 0 ≡ full_word
    from (inl same) =
        let full : w ≡ full_word = ap (λ j. get_or words j 0) (sym same) ∙ first.before i before in
        ap (λ j. get_or more j 0) same ∙ get_or-set_same words at _ 0 here ∙ ap (λ x. bit_or x (1 * 2 ^ k % 2 ^ 64)) full ∙ full_or k small
    from (inr other) = get_or-set_other words at i _ 0 other ∙ first.before i before

  -- a word with a bit less isn't full
  not_full : get_or less at 0 ≡ full_word → ⊥
  not_full full =
      let none : bit_at (get_or less at 0) k ≡ 0 = ap (λ x. bit_at x k) (get_or-set_same words at _ 0 here) ∙ bit_at_clear_same w64 w k small in
      let one : bit_at (get_or less at 0) k ≡ 1 = ap (λ x. bit_at x k) full ∙ bit_at_ones 64 k small in
      omega (arith, none, one)

  many-less : length less ≡ 64
  many-less = length-set words at _ ∙ long

  -- the first word that isn't full, where the number's word was full
  IsWords-clear_before : (place : ℕ) → IsFirstOpen words place → at < place → IsWords less at
  IsWords-clear_before place first earlier = record {
    many = many-less;
    first =
        record {
          within = omega (arith, many-less);
          before = λ i before. get_or-set_other words at i _ 0 (λ same. omega (arith, same, before)) ∙ first.before i (omega arith);
          room = λ some full. not_full full;
        };
  }

  -- and where it wasn't
  IsWords-clear_behind : (place : ℕ) → IsFirstOpen words place → place ≤ at → IsWords less place
  IsWords-clear_behind place first later = record {
    many = many-less;
    first =
        record {
          within = let l : place ≤ length words = first.within in omega (arith, many-less);
          before = λ i before. get_or-set_other words at i _ 0 (λ same. omega (arith, same, before)) ∙ first.before i before;
          room = λ some full. from full (cases_eq place at);
        };
  } where
    from : get_or less place 0 ≡ full_word → (place ≡ at) ⊎ (place ≡ at → ⊥) → ⊥
    from full (inl same) = not_full (ap (λ i. get_or less i 0) (sym same) ∙ full)
    from full (inr other) = first.room (let l = many-less in omega (arith, here)) (sym (get_or-set_other words at place _ 0 other) ∙ full)

  -- and so in either case
  pub IsWords-clear : (place : ℕ) → IsFirstOpen words place → IsWords less (min at place)
  IsWords-clear place first = from (cases_lt at place) where
    from : (at < place) ⊎ (place ≤ at) → IsWords less (min at place)
    from (inl earlier) = let before : at ≤ place = omega arith in rw (min-eq_left before) (IsWords-clear_before place first earlier)
    from (inr later) = rw (min-eq_right later) (IsWords-clear_behind place first later)

module _ (words : List ℕ) (place : ℕ) (is : IsWords words place) where
  -- each number of a full word is in the set
  in_full : (q : ℕ) → q / 64 < place → contains (numbers_of words) q ≡ true
  in_full q before =
      let within : q < MAX_OBJECTS = let l : place ≤ length words = is.first.within in let m : length words ≡ 64 = is.many in omega arith in
      let low : q % 64 < 64 = omega arith in
      contains-numbers_of words q
      ∙ ap (λ b. b && has_number words q) (lt-ltb q MAX_OBJECTS within)
      ∙ ap (λ x. has_bit x (q % 64)) (is.first.before (q / 64) before)
      ∙ ap (λ b. nat_eq b 1) (bit_at_ones 64 (q % 64) low)

  -- the least number that isn't in the set is the lowest bit that is 0 of the first word that isn't full
  pub least_open : (free : ℕ) → place < length words → free < 64 → bit_at (get_or words place 0) free ≡ 0 → ((i : ℕ) → i < free → bit_at (get_or words place 0) i ≡ 1)
      → place * 64 + free ≡ least_failing (contains (numbers_of words)) MAX_OBJECTS 0
  least_open free here low none ones =
      sym (least_failing-is (contains (numbers_of words)) MAX_OBJECTS 0 (place * 64 + free) (omega arith) (let m : length words ≡ 64 = is.many in omega arith) (λ q from below. passes q below (cases_lt (q / 64) place)) (λ within. fails)) where
        passes : (q : ℕ) → q < place * 64 + free → (q / 64 < place) ⊎ (place ≤ q / 64) → contains (numbers_of words) q ≡ true
        passes q below (inl before) = in_full q before
        passes q below (inr behind) =
            let word : q / 64 ≡ place = omega arith in
            let bit : q % 64 < free = omega arith in
            let within : q < MAX_OBJECTS = let m : length words ≡ 64 = is.many in omega arith in
            contains-numbers_of words q
            ∙ ap (λ b. b && has_number words q) (lt-ltb q MAX_OBJECTS within)
            ∙ ap (λ i. has_bit (get_or words i 0) (q % 64)) word
            ∙ ap (λ b. nat_eq b 1) (ones (q % 64) bit)

        fails : contains (numbers_of words) (place * 64 + free) ≡ false
        fails =
            let word : (place * 64 + free) / 64 ≡ place = omega arith in
            let bit : (place * 64 + free) % 64 ≡ free = omega arith in
            contains-numbers_of words (place * 64 + free)
            ∙ (λ i. nat_lt (place * 64 + free) MAX_OBJECTS && has_bit (get_or words (word i) 0) (bit i))
            ∙ ap (λ b. nat_lt (place * 64 + free) MAX_OBJECTS && nat_eq b 1) none
            ∙ and-false (nat_lt (place * 64 + free) MAX_OBJECTS)

  -- where all words are full each number is in the set
  pub least_none : length words ≤ place → MAX_OBJECTS ≡ least_failing (contains (numbers_of words)) MAX_OBJECTS 0
  least_none all =
      let m : length words ≡ 64 = is.many in
      sym (least_failing-is (contains (numbers_of words)) MAX_OBJECTS 0 MAX_OBJECTS (omega arith) (omega arith) (λ q from below. in_full q (omega arith)) (λ within. absurd (omega arith)))
