-- Numbers in a line.
use Rattle.std.specs.Prelude.{ℕ, List, Option}
use Rattle.mls_facts.specs.Decimals.{decimal_within}
use Rattle.mls_lines.specs.declared.number.TheConstants.{MAX_NUMBER}

-- The number of a token: decimal, without leading zeros, and at most 65,535. (own)
abbrev pub number_of : List ℕ → Option ℕ
number_of token = decimal_within MAX_NUMBER token
