-- A token is read as a number just where it is that number's decimal text.
use Rattle.std.proofs.Common.{◌≡◌, ◌≢◌, ℕ, zero, suc, ◌+◌, ◌-◌, ◌*◌, ◌^◌, ◌/◌, ◌%◌, ◌<◌, ◌≤◌, true, false, cond, ◌&&◌, List, [], ◌∷◌, ◌++◌, length, map, get_or, Some, None, refl, sym, ap, ◌∙◌, inl, inr, arith, append_assoc, append-nil}
use Rattle.std.specs.Prelude.{nat_le, ◌==◌}
use Rattle.std.specs.List.{list_all}
use Rattle.std.specs.Fmt.{decimal}
use Rattle.std.specs.Int.Digits.{digits_of, number_from_digits_after, number_from_digits, AllBelowBase}
use Rattle.std.proofs.lemmas.Bool.{and_parts, cases_lt}
use Rattle.std.proofs.lemmas.Bool.Decides.{nat_tests}
use Rattle.std.proofs.lemmas.Nat.{div-mul-add, div-add-mod'}
use Rattle.std.proofs.lemmas.Int.Digits.{number_after_ge, digits_of_step, number_digits_of, all_below_base_digits_of, first_digits_of}
use Rattle.std.proofs.lemmas.Fmt.{decimal-digits_of, decimal_digit}
use Rattle.mls_facts.specs.Decimals.{is_digit, value_of, value_within, decimal_within}

-- bytes as digits, and digits as bytes
abbrev digits_in : List ℕ → List ℕ
digits_in token = map (λ b. b - 48) token

abbrev bytes_of : List ℕ → List ℕ
bytes_of digits = map (λ d. 48 + d) digits

digit_bounds : (b : ℕ) → is_digit b ≡ true → (48 ≤ b) × (b ≤ 57)
digit_bounds b h = (grind (arith, nat_tests, h), grind (arith, nat_tests, h))

is_digit_byte : (d : ℕ) → d < 10 → is_digit (48 + d) ≡ true
is_digit_byte d h = grind (arith, nat_tests)

-- a token of digits is the bytes of its digits
bytes_back : (token : List ℕ) → list_all is_digit token ≡ true → bytes_of (digits_in token) ≡ token
bytes_back [] all = refl
bytes_back (b ∷ token) all =
    let parts = and_parts (is_digit b) (list_all is_digit token) all in
    let bounds = digit_bounds b parts.0 in
    let same : 48 + (b - 48) ≡ b = omega (arith, bounds.0) in
    rw (same, bytes_back token parts.1) refl

digits_back : (digits : List ℕ) → digits_in (bytes_of digits) ≡ digits
digits_back [] = refl
digits_back (d ∷ digits) = let same : 48 + d - 48 ≡ d = omega arith in rw (same, digits_back digits) refl

all_below : (token : List ℕ) → list_all is_digit token ≡ true → AllBelowBase 10 (digits_in token)
all_below [] all = tt
all_below (b ∷ token) all =
    let parts = and_parts (is_digit b) (list_all is_digit token) all in
    let bounds = digit_bounds b parts.0 in
    (omega (arith, bounds.1), all_below token parts.1)

all_digits : (digits : List ℕ) → AllBelowBase 10 digits → list_all is_digit (bytes_of digits) ≡ true
all_digits [] all = refl
all_digits (d ∷ digits) all = rw (is_digit_byte d all.0, all_digits digits all.1) refl

-- the digits of a number with one digit more
one_more : (n d : ℕ) → 0 < n → d < 10 → digits_of 10 (n * 10 + d) ≡ digits_of 10 n ++ d ∷ []
one_more n d some below =
    let front : (n * 10 + d) / 10 ≡ n = div-mul-add n 10 d below in
    let last : (n * 10 + d) % 10 ≡ d = omega (arith, div-add-mod' (n * 10 + d) 10, front) in
    digits_of_step 10 (n * 10 + d) (omega arith) (omega arith) ∙ rw (front, last) refl

-- digits after a number's are those of the number that they write together
digits_after : (n : ℕ) (digits : List ℕ) → 0 < n → AllBelowBase 10 digits → digits_of 10 (number_from_digits_after 10 n digits) ≡ digits_of 10 n ++ digits
digits_after n [] some all = sym (append-nil (digits_of 10 n))
digits_after n (d ∷ digits) some all =
    digits_after (n * 10 + d) digits (omega arith) all.1 ∙ ap (λ front. front ++ digits) (one_more n d some all.0) ∙ append_assoc (digits_of 10 n) (d ∷ []) digits

one_digit : (d : ℕ) → 0 < d → d < 10 → digits_of 10 d ≡ d ∷ []
one_digit d some below =
    let plain : 0 * 10 + d ≡ d = omega arith in
    let front : d / 10 ≡ 0 = ap (λ m. m / 10) (sym plain) ∙ div-mul-add 0 10 d below in
    let last : d % 10 ≡ d = omega (arith, div-add-mod' d 10, front) in
    digits_of_step 10 d (omega arith) some ∙ rw (front, last) refl

-- the first digit is a number already
first_read : (d : ℕ) (digits : List ℕ) → number_from_digits 10 (d ∷ digits) ≡ number_from_digits_after 10 d digits
first_read d digits = let plain : 0 * 10 + d ≡ d = omega arith in ap (λ m. number_from_digits_after 10 m digits) plain

-- digits that don't begin with 0 are the digits of the number that they write
digits_are : (d : ℕ) (digits : List ℕ) → 0 < d → AllBelowBase 10 (d ∷ digits) → digits_of 10 (number_from_digits 10 (d ∷ digits)) ≡ d ∷ digits
digits_are d digits some all =
    ap (digits_of 10) (first_read d digits) ∙ digits_after d digits some all.1 ∙ ap (λ front. front ++ digits) (one_digit d some all.0)

-- numbers up to a greatest one of 64 bits
module _ (most : ℕ) (fits : most < 2 ^ 64) where
  some_value : (token : List ℕ) (n : ℕ) → value_within most token ≡ Some n → (list_all is_digit token ≡ true) × (value_of token ≡ n) × (value_of token ≤ most)
  some_value token n h = elim (list_all is_digit token) as (λ t. list_all is_digit token ≡ t → cond (t && nat_le (value_of token) most) (Some (value_of token)) None ≡ Some n → (list_all is_digit token ≡ true) × (value_of token ≡ n) × (value_of token ≤ most)) [
    | true ↦ λ all. elim (nat_le (value_of token) most) as (λ t. nat_le (value_of token) most ≡ t → cond t (Some (value_of token)) None ≡ Some n → (list_all is_digit token ≡ true) × (value_of token ≡ n) × (value_of token ≤ most)) [
      | true ↦ λ e is. (all, cc, grind (arith, nat_tests, e))
      | false ↦ λ e is. cc
    ] refl
    | false ↦ λ all is. cc
  ] refl h

  value_there : (token : List ℕ) → list_all is_digit token ≡ true → value_of token ≤ most → value_within most token ≡ Some (value_of token)
  value_there token all small = let e : nat_le (value_of token) most ≡ true = grind (arith, nat_tests) in rw (all, e) refl

  -- a token whose first digit isn't 0 is the decimal text of its value
  text_of_value : (b : ℕ) (token : List ℕ) (n : ℕ) → b ≢ 48 → value_within most (b ∷ token) ≡ Some n → b ∷ token ≡ decimal n
  text_of_value b token n other h =
      let value = some_value (b ∷ token) n h in
      let parts = and_parts (is_digit b) (list_all is_digit token) value.0 in
      let bounds = digit_bounds b parts.0 in
      let first : 0 < b - 48 = elim (cases_lt 48 b) [ inl below ↦ omega arith | inr above ↦ absurd (other (omega (arith, bounds.0))) ] in
      let great : b - 48 ≤ n = omega (arith, sym value.1 ∙ first_read (b - 48) (digits_in token), number_after_ge 10 (b - 48) (digits_in token) (omega arith)) in
      let is : digits_of 10 n ≡ digits_in (b ∷ token) = ap (digits_of 10) (sym value.1) ∙ digits_are (b - 48) (digits_in token) first (all_below (b ∷ token) value.0) in
      sym (decimal-digits_of n (omega (arith, first)) (omega (arith, value.1, value.2)) ∙ ap bytes_of is ∙ bytes_back (b ∷ token) value.0)

  -- what is read of a token is at most the greatest number
  pub decimal-limit : (token : List ℕ) (n : ℕ) → decimal_within most token ≡ Some n → n ≤ most
  decimal-limit [] n h = cc
  decimal-limit (b ∷ []) n h = let value = some_value (b ∷ []) n h in omega (arith, value.1, value.2)
  decimal-limit (b ∷ c ∷ more) n h = elim (b == 48) as (λ t. cond t None (value_within most (b ∷ c ∷ more)) ≡ Some n → n ≤ most) [
    | true ↦ λ is. cc
    | false ↦ λ is. let value = some_value (b ∷ c ∷ more) n is in omega (arith, value.1, value.2)
  ] h

  -- and the token is its decimal text
  pub decimal-text : (token : List ℕ) (n : ℕ) → decimal_within most token ≡ Some n → token ≡ decimal n
  decimal-text [] n h = cc
  decimal-text (b ∷ []) n h =
      let value = some_value (b ∷ []) n h in
      let parts = and_parts (is_digit b) true value.0 in
      let bounds = digit_bounds b parts.0 in
      let is : b ≡ 48 + n = omega (arith, bounds.0, value.1) in
      rw is (sym (decimal_digit n (omega (arith, bounds.1, value.1))))
  decimal-text (b ∷ c ∷ more) n h = elim (b == 48) as (λ t. (b == 48) ≡ t → cond t None (value_within most (b ∷ c ∷ more)) ≡ Some n → b ∷ c ∷ more ≡ decimal n) [
    | true ↦ λ e is. cc
    | false ↦ λ e is. text_of_value b (c ∷ more) n (λ zero. let one : (b == 48) ≡ true = grind (arith, nat_tests, zero) in cc) is
  ] refl h

  leads : (b : ℕ) (token : List ℕ) → 48 < b → decimal_within most (b ∷ token) ≡ value_within most (b ∷ token)
  leads b [] h = refl
  leads b (c ∷ more) h = let other : (b == 48) ≡ false = grind (arith, nat_tests) in rw other refl

  led : (token : List ℕ) → 0 < length token → 48 < get_or token 0 0 → decimal_within most token ≡ value_within most token
  led [] some h = absurd (omega arith)
  led (b ∷ token) some h = leads b token h

  first_byte : (digits : List ℕ) → 0 < get_or digits 0 0 → (0 < length (bytes_of digits)) × (48 < get_or (bytes_of digits) 0 0)
  first_byte [] h = absurd (omega arith)
  first_byte (d ∷ digits) h = (omega arith, omega arith)

  read_above : (n : ℕ) → 0 < n → n ≤ most → decimal_within most (decimal n) ≡ Some n
  read_above n some small =
      let digits : List ℕ = digits_of 10 n in
      let text : decimal n ≡ bytes_of digits = decimal-digits_of n some (omega arith) in
      let first = first_byte digits (first_digits_of 10 n (omega arith) some) in
      let value : value_of (bytes_of digits) ≡ n = ap (number_from_digits 10) (digits_back digits) ∙ number_digits_of 10 n (omega arith) in
      ap (decimal_within most) text ∙ led (bytes_of digits) first.0 first.1
      ∙ value_there (bytes_of digits) (all_digits digits (all_below_base_digits_of 10 n (omega arith))) (omega (arith, value)) ∙ ap Some value

  -- the decimal text of a number that isn't too great is read as that number
  pub decimal-read : (n : ℕ) → n ≤ most → decimal_within most (decimal n) ≡ Some n
  decimal-read zero small = ap (decimal_within most) (decimal_digit 0 (omega arith)) ∙ value_there (48 ∷ []) refl (omega arith)
  decimal-read (suc n) small = read_above (suc n) (omega arith) small
