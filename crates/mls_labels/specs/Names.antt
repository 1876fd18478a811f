-- Names of levels and categories.
use Rattle.std.specs.Prelude.{ℕ, Bool, false, ◌&&◌, ◌||◌, nat_eq, nat_le, List, [], ◌∷◌, length}
use Rattle.std.specs.List.{list_any, list_all}
use Rattle.std.specs.Str.{bytes_eq}
use Rattle.mls_labels.specs.declared.limits.TheConstants.{MAX_NAME}

-- A byte of a name is an ASCII letter, a digit, '-' or '_'. (own)
abbrev pub is_name_byte : ℕ → Bool
is_name_byte b = (nat_le 97 b && nat_le b 122) || (nat_le 65 b && nat_le b 90) || (nat_le 48 b && nat_le b 57)
    || nat_eq b 45 || nat_eq b 95

-- How many bytes a name may have. (own)
abbrev pub is_name_len : ℕ → Bool
is_name_len n = nat_le 1 n && nat_le n MAX_NAME

-- A name is such bytes, one at least and MAX_NAME at most. (own)
abbrev pub is_name : List ℕ → Bool
is_name bytes = is_name_len (length bytes) && list_all is_name_byte bytes

-- Whether one of these names stands twice. (own)
abbrev pub has_twice : List (List ℕ) → Bool
has_twice [] = false
has_twice (name ∷ names) = list_any (λ other. bytes_eq other name) names || has_twice names
