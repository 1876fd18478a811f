-- Decimal numbers as text, up to a greatest number.
use Rattle.std.specs.Prelude.{ℕ, ◌-◌, Bool, ◌&&◌, ◌==◌, nat_le, List, [], ◌∷◌, map, Option, Some, None, if◌then◌else◌}
use Rattle.std.specs.List.{list_all}
use Rattle.std.specs.Int.Digits.{number_from_digits}

-- A digit, `0` to `9`. (own)
abbrev pub is_digit : ℕ → Bool
is_digit b = nat_le 48 b && nat_le b 57

-- The number that digits write, the highest first. (own)
abbrev pub value_of : List ℕ → ℕ
value_of digits = number_from_digits 10 (map (λ b. b - 48) digits)

-- The number that digits write, where it is at most so great. (own)
abbrev pub value_within : ℕ → List ℕ → Option ℕ
value_within most token = if list_all is_digit token && nat_le (value_of token) most then Some (value_of token)
    else None

-- The number of a token: a digit, or digits of which the first isn't `0`, and at most so great. (own)
abbrev pub decimal_within : ℕ → List ℕ → Option ℕ
decimal_within most [] = None
decimal_within most (d ∷ []) = value_within most (d ∷ [])
decimal_within most (d ∷ e ∷ more) = if d == 48 then None else value_within most (d ∷ e ∷ more)
