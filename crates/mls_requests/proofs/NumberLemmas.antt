-- Reading the digits of a number one by one.
use Rattle.std.proofs.Common.{◌≡◌, ℕ, suc, ◌+◌, ◌-◌, ◌*◌, ◌<◌, ◌≤◌, Bool, true, false, cond, ◌&&◌, List, [], ◌∷◌, length, map, get_or, Option, Some, None, refl, sym, ap, ◌∙◌, arith, drop}
use Rattle.std.specs.Prelude.{nat_le}
use Rattle.std.specs.List.{list_all}
use Rattle.std.specs.Int.Digits.{number_from_digits_after}
use Rattle.std.proofs.lemmas.Bool.Decides.{nat_tests}
use Rattle.std.proofs.Math.Seq.{drop-cons}
use Rattle.std.proofs.lemmas.Int.Digits.{number_after_ge}
use Rattle.mls_facts.specs.Decimals.{is_digit, value_within}

-- the number that digits write after a number
abbrev after : ℕ → List ℕ → ℕ
after n digits = number_from_digits_after 10 n (map (λ b. b - 48) digits)

-- the number with one digit more
abbrev pub more : ℕ → ℕ → ℕ
more n d = n * 10 + (d - 48)

module _ (most : ℕ) where
  -- digits read one by one, after a number that was read
  unfoldable pub read_on : ℕ → List ℕ → Option ℕ
  read_on n [] = Some n
  read_on n (d ∷ digits) = cond (is_digit d && nat_le (more n d) most) (read_on (more n d) digits) None

  -- and at once
  abbrev read_whole : ℕ → List ℕ → Option ℕ
  read_whole n digits = cond (list_all is_digit digits && nat_le (after n digits) most) (Some (after n digits)) None

  too_great : (t : Bool) (m : ℕ) → most < m → cond (t && nat_le m most) (Some m) None ≡ None
  too_great true m h = let e : nat_le m most ≡ false = grind (arith, nat_tests) in rw e refl
  too_great false m h = refl

  -- digits are read one by one as they are at once
  pub read_on-whole : (n : ℕ) (digits : List ℕ) → n ≤ most → read_on n digits ≡ read_whole n digits
  unfolding read_on
  read_on-whole n [] h = let e : nat_le n most ≡ true = grind (arith, nat_tests) in rw e refl
  read_on-whole n (d ∷ digits) h = elim (is_digit d) as (λ t. cond (t && nat_le (more n d) most) (read_on (more n d) digits) None ≡ cond ((t && list_all is_digit digits) && nat_le (after (more n d) digits) most) (Some (after (more n d) digits)) None) [
    | true ↦ elim (nat_le (more n d) most) as (λ t. nat_le (more n d) most ≡ t → cond t (read_on (more n d) digits) None ≡ read_whole (more n d) digits) [
      | true ↦ λ e. read_on-whole (more n d) digits (grind (arith, nat_tests, e))
      | false ↦ λ e.
          let great : most < more n d = grind (arith, nat_tests, e) in
          sym (too_great (list_all is_digit digits) (after (more n d) digits) (omega (arith, great, number_after_ge 10 (more n d) (map (λ b. b - 48) digits) (omega arith))))
    ] refl
    | false ↦ refl
  ]

  pub read_from_zero : (digits : List ℕ) → read_on 0 digits ≡ value_within most digits
  read_from_zero digits = read_on-whole 0 digits (omega arith)

  pub read_digit : (n d : ℕ) (digits : List ℕ) → is_digit d ≡ true → more n d ≤ most → read_on n (d ∷ digits) ≡ read_on (more n d) digits
  unfolding read_on
  read_digit n d digits is small = let e : nat_le (more n d) most ≡ true = grind (arith, nat_tests) in rw (is, e) refl

  pub read_none : (n : ℕ) → read_on n [] ≡ Some n
  unfolding read_on
  read_none n = refl

  pub read_other : (n d : ℕ) (digits : List ℕ) → is_digit d ≡ false → read_on n (d ∷ digits) ≡ None
  unfolding read_on
  read_other n d digits is = rw is refl

  pub read_great : (n d : ℕ) (digits : List ℕ) → most < more n d → read_on n (d ∷ digits) ≡ None
  unfolding read_on
  read_great n d digits great = let e : nat_le (more n d) most ≡ false = grind (arith, nat_tests) in elim (is_digit d) as (λ t. cond (t && nat_le (more n d) most) (read_on (more n d) digits) None ≡ None) [ true ↦ rw e refl | false ↦ refl ]

-- the digit at a place, and those after it
pub next_digit : (digits : List ℕ) (i : ℕ) → i < length digits → drop i digits ≡ get_or digits i 0 ∷ drop (i + 1) digits
next_digit digits i below = let next : suc i ≡ i + 1 = omega arith in drop-cons digits i 0 below ∙ ap (λ k. get_or digits i 0 ∷ drop k digits) next
