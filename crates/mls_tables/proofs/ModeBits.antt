-- Which modes some bits stand for, and what a change of the bits does to the set of modes.
use Rattle.std.proofs.Common.{◌≡◌, ℕ, ◌-◌, ◌*◌, ◌^◌, ◌%◌, ◌<◌, nat_eq, bit_and, bit_or, refl, sym, ap, ◌∙◌, ◌⊎◌, inl, inr, arith}
use Rattle.std.specs.Prelude.{Bool, true, not, ◌&&◌, ◌||◌}
use Rattle.std.specs.Cmp.{unsigned_tied}
use Rattle.std.specs.FinSet as set
use Rattle.std.specs.Int.{bit_at, w8}
use Rattle.std.proofs.lemmas.Bool.{cases_eq, eq-eqb, ne_eqb}
use Rattle.std.proofs.lemmas.Nat.{or_lt}
use Rattle.std.proofs.lemmas.Nat.Bits.{bit_at-zero, bit_at_set_same, bit_at_set_other, bit_at_clear_same, bit_at_clear_other}
use Rattle.mls_facts.specs.Bits.{has_bit}
use Rattle.mls_facts.proofs.Keys.{lists, contains-keys_of_bits, bits_of_keys-keys_of_bits}
use Rattle.mls_tables.specs.declared.mode.Mode.{Mode}
use Rattle.mls_tables.specs.declared.mode.Mode.TheVariants.{Execute, Read, Append, Write}
use Rattle.mls_tables.specs.Mode.{mode_number, mode_cmp, all_modes, ModeSet}
use Rattle.mls_tables.specs.ModeBits.{modes_of, bits_of}
use Rattle.mls_tables.proofs.Laws.{modes_total, same_modes}

-- whether the bit of a mode is 1
abbrev pub has_mode : ℕ → Mode → Bool
has_mode bits x = has_bit bits (mode_number x)

-- whether two modes are one
abbrev pub is_mode : Mode → Mode → Bool
is_mode x y = nat_eq (mode_number x) (mode_number y)

pub contains-insert-mode : (s : ModeSet) (x q : Mode) → set.contains (set.insert s x) q ≡ (is_mode q x || set.contains s q)
contains-insert-mode s x q = set.contains-insert modes_total s x q ∙ ap (λ e. e || set.contains s q) (unsigned_tied (mode_number q) (mode_number x))

pub contains-remove-mode : (s : ModeSet) (x q : Mode) → set.contains (set.remove s x) q ≡ (not (is_mode q x) && set.contains s q)
contains-remove-mode s x q = set.contains-remove modes_total s x q ∙ ap (λ e. not e && set.contains s q) (unsigned_tied (mode_number q) (mode_number x))

each_listed : (x : Mode) → lists mode_number all_modes x ≡ true
each_listed Execute = refl
each_listed Read = refl
each_listed Append = refl
each_listed Write = refl

-- the modes of some bits are those whose bits are 1
pub contains-modes_of : (b : ℕ) (q : Mode) → set.contains (modes_of b) q ≡ has_mode b q
contains-modes_of b q = contains-keys_of_bits mode_number all_modes b q (each_listed q)

-- a mode's place is one of four
pub place_below : (x : Mode) → mode_number x < 4
place_below Execute = omega arith
place_below Read = omega arith
place_below Append = omega arith
place_below Write = omega arith

pub modes_of-none : modes_of 0 ≡ set.empty
modes_of-none = same_modes _ _ (λ q. contains-modes_of 0 q ∙ rw (bit_at-zero (mode_number q)) (sym (set.contains-empty mode_cmp q)))

set_bit : (b n q : ℕ) → n < 8 → (q ≡ n) ⊎ (q ≡ n → ⊥) → nat_eq (bit_at (bit_or b (1 * 2 ^ n % 2 ^ 8)) q) 1 ≡ (nat_eq q n || nat_eq (bit_at b q) 1)
set_bit b n q within (inl same) = let one : bit_at (bit_or b (1 * 2 ^ n % 2 ^ 8)) n ≡ 1 = bit_at_set_same w8 b n within in rw (same, one, eq-eqb n n refl) refl
set_bit b n q within (inr other) = let as_before : bit_at (bit_or b (1 * 2 ^ n % 2 ^ 8)) q ≡ bit_at b q = bit_at_set_other w8 b n within q other in rw (as_before, ne_eqb q n other) refl

clear_bit : (b n q : ℕ) → n < 8 → q < 8 → (q ≡ n) ⊎ (q ≡ n → ⊥) → nat_eq (bit_at (bit_and b (255 - 1 * 2 ^ n % 2 ^ 8)) q) 1 ≡ (not (nat_eq q n) && nat_eq (bit_at b q) 1)
clear_bit b n q within read (inl same) = let none : bit_at (bit_and b (255 - 1 * 2 ^ n % 2 ^ 8)) n ≡ 0 = bit_at_clear_same w8 b n within in rw (same, none, eq-eqb n n refl) refl
clear_bit b n q within read (inr other) = let as_before : bit_at (bit_and b (255 - 1 * 2 ^ n % 2 ^ 8)) q ≡ bit_at b q = bit_at_clear_other w8 b n within q read other in rw (as_before, ne_eqb q n other) refl

-- to set a mode's bit is to insert the mode
pub modes_of-with : (b : ℕ) (x : Mode) → modes_of (bit_or b (1 * 2 ^ mode_number x % 2 ^ 8)) ≡ set.insert (modes_of b) x
modes_of-with b x =
    let place : mode_number x < 8 = omega (arith, place_below x) in
    same_modes _ _ (λ q. contains-modes_of _ q ∙ set_bit b (mode_number x) (mode_number q) place (cases_eq (mode_number q) (mode_number x)) ∙ sym (contains-insert-mode (modes_of b) x q ∙ ap (λ e. is_mode q x || e) (contains-modes_of b q)))

-- to clear a mode's bit is to remove the mode
pub modes_of-without : (b : ℕ) (x : Mode) → modes_of (bit_and b (255 - 1 * 2 ^ mode_number x % 2 ^ 8)) ≡ set.remove (modes_of b) x
modes_of-without b x =
    let place : mode_number x < 8 = omega (arith, place_below x) in
    same_modes _ _ (λ q.
    let read : mode_number q < 8 = omega (arith, place_below q) in
    contains-modes_of _ q ∙ clear_bit b (mode_number x) (mode_number q) place read (cases_eq (mode_number q) (mode_number x)) ∙ sym (contains-remove-mode (modes_of b) x q ∙ ap (λ e. not (is_mode q x) && e) (contains-modes_of b q)))

-- a byte of four bits with a mode's bit set has four bits
pub or-lt-four : (b : ℕ) (x : Mode) → b < 16 → bit_or b (1 * 2 ^ mode_number x % 2 ^ 8) < 16
or-lt-four b Execute h = or_lt 4 b 1 h (omega arith)
or-lt-four b Read h = or_lt 4 b 2 h (omega arith)
or-lt-four b Append h = or_lt 4 b 4 h (omega arith)
or-lt-four b Write h = or_lt 4 b 8 h (omega arith)

bits_of-modes_of : (b : ℕ) → b < 16 → bits_of (modes_of b) ≡ b
bits_of-modes_of b h = bits_of_keys-keys_of_bits mode_number all_modes 4 b refl refl h

-- the bits are zero where the set is empty
pub none_of-modes_of : (b : ℕ) → b < 16 → modes_of b ≡ set.empty → b ≡ 0
none_of-modes_of b h none = sym (bits_of-modes_of b h) ∙ ap bits_of (none ∙ sym modes_of-none) ∙ bits_of-modes_of 0 (omega arith)
