-- Which cells a pair has, and what becomes of them where one is written.
use Rattle.std.proofs.Common.{◌≡◌, ℕ, ◌+◌, ◌*◌, ◌/◌, ◌%◌, ◌<◌, Bool, true, false, not, nat_eq, refl, sym, ap, ◌∙◌, arith}
use Rattle.std.proofs.lemmas.Bool.{eq-eqb, eqb-true}
use Rattle.std.specs.FinSet as set
use Rattle.mls_tables.specs.declared.pair.Pair.{Pair}
use Rattle.mls_tables.specs.Mode.{ModeSet}
use Rattle.mls_tables.specs.ModeBits.{modes_of}
use Rattle.mls_tables.specs.Cells.{half, no_pair, width, is_odd}
use Rattle.mls_tables.proofs.ModeBits.{modes_of-none}

pub half_odd : (p : Pair) (odd : Bool) → odd ≡ true → modes_of (p.bits / 16) ≡ half p odd
unfolding half
half_odd p odd is = rw is refl

pub half_even : (p : Pair) (odd : Bool) → odd ≡ false → modes_of (p.bits % 16) ≡ half p odd
unfolding half
half_even p odd is = rw is refl

-- both cells of an empty pair are empty
pub half-no_pair : (odd : Bool) → half no_pair odd ≡ set.empty
unfolding half
half-no_pair true = modes_of-none
half-no_pair false = modes_of-none

-- the high bits written
pub own_high : (b x : ℕ) (modes : ModeSet) (odd : Bool) → odd ≡ true → x < 16 → modes_of x ≡ modes → half (record { bits = b % 16 + x * 16 }) odd ≡ modes
own_high b x modes odd is four are =
    let bits : (b % 16 + x * 16) / 16 ≡ x = omega arith in
    sym (half_odd (record { bits = b % 16 + x * 16 }) odd is) ∙ ap modes_of bits ∙ are

pub other_high : (p : Pair) (x : ℕ) (odd : Bool) → odd ≡ true → x < 16 → half (record { bits = p.bits % 16 + x * 16 }) (not odd) ≡ half p (not odd)
other_high p x odd is four =
    let even : not odd ≡ false = ap not is in
    let bits : (p.bits % 16 + x * 16) % 16 ≡ p.bits % 16 = omega arith in
    sym (half_even (record { bits = p.bits % 16 + x * 16 }) (not odd) even) ∙ ap modes_of bits ∙ half_even p (not odd) even

-- the low bits written
pub own_low : (b x : ℕ) (modes : ModeSet) (odd : Bool) → odd ≡ false → x < 16 → modes_of x ≡ modes → half (record { bits = b / 16 * 16 + x }) odd ≡ modes
own_low b x modes odd is four are =
    let bits : (b / 16 * 16 + x) % 16 ≡ x = omega arith in
    sym (half_even (record { bits = b / 16 * 16 + x }) odd is) ∙ ap modes_of bits ∙ are

pub other_low : (p : Pair) (x : ℕ) (odd : Bool) → odd ≡ false → x < 16 → half (record { bits = p.bits / 16 * 16 + x }) (not odd) ≡ half p (not odd)
other_low p x odd is four =
    let other : not odd ≡ true = ap not is in
    let bits : (p.bits / 16 * 16 + x) / 16 ≡ p.bits / 16 = omega arith in
    sym (half_odd (record { bits = p.bits / 16 * 16 + x }) (not odd) other) ∙ ap modes_of bits ∙ half_odd p (not odd) other

-- what a pair's cells are where one is written
pub ruleset written_halves = (own_high, own_low, other_high, other_low)

-- the pair of a subject is one of a column's
pub half_lt : (s n : ℕ) → s < n → s / 2 < width n
half_lt s n subject = omega arith

-- of two subjects in one pair that are not one, one is odd and the other isn't
pub other_side : (a s : ℕ) → a / 2 ≡ s / 2 → (a ≡ s → ⊥) → is_odd a ≡ not (is_odd s)
other_side a s pair apart = from (nat_eq (a % 2) 1) (nat_eq (s % 2) 1) refl refl where
  odd : (n : ℕ) → nat_eq (n % 2) 1 ≡ true → n % 2 ≡ 1
  odd n h = eqb-true (n % 2) 1 h

  even : (n : ℕ) → nat_eq (n % 2) 1 ≡ false → n % 2 ≡ 1 → ⊥
  even n h is = let yes_odd : nat_eq (n % 2) 1 ≡ true = eq-eqb (n % 2) 1 is in let wrong : false ≡ true = sym h ∙ yes_odd in absurd (cc)

  from : (x y : Bool) → nat_eq (a % 2) 1 ≡ x → nat_eq (s % 2) 1 ≡ y → x ≡ not y
  from true false hx hy = refl
  from false true hx hy = refl
  from true true hx hy =
      let one : a % 2 ≡ 1 = odd a hx in
      let two : s % 2 ≡ 1 = odd s hy in
      absurd (apart (omega arith))
  from false false hx hy =
      let one : a % 2 ≡ 1 → ⊥ = even a hx in
      let two : s % 2 ≡ 1 → ⊥ = even s hy in
      absurd (apart (omega arith))
