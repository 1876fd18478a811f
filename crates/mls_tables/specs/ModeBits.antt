-- How the bits of a byte stand for a set of modes.
use Rattle.std.specs.Prelude.{ℕ}
use Rattle.mls_facts.specs.Keys.{keys_of_bits, bits_of_keys}
use Rattle.mls_tables.specs.Mode.{mode_number, all_modes, ModeSet}

-- The modes whose bits are 1. (own)
abbrev pub modes_of : ℕ → ModeSet
modes_of bits = keys_of_bits mode_number all_modes bits

-- The number whose bits are 1 at the modes of a set. (own)
abbrev pub bits_of : ModeSet → ℕ
bits_of s = bits_of_keys mode_number all_modes s
