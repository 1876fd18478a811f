-- The tokens of a line, and which tokens are names.
use Rattle.std.specs.Prelude.{ℕ, ◌≡◌, ◌≢◌, ◌<◌, ◌⊎◌, List, [], ◌∷◌, ◌++◌, ◌==◌, length, nat_lt, filter, Option, Some}
use Rattle.std.specs.Prelude.{None, if◌then◌else◌, All}
use Rattle.std.specs.List.{slice_split}
use Rattle.mls_labels.specs.Names.{is_name}

-- The tokens of a line: the parts between its spaces that have a byte. (own)
abbrev pub tokens_of : List ℕ → List (List ℕ)
tokens_of line = filter (λ part. nat_lt 0 (length part)) (slice_split (λ byte. byte == 32) line)

-- A gap: spaces alone, or nothing. (own)
abbrev pub IsGap : List ℕ → Type 0
IsGap bytes = All (λ byte. byte ≡ 32) bytes

-- A token: one byte or more, none of them a space. A tab, a carriage return and the byte 0 are no spaces. (own)
abbrev pub IsToken : List ℕ → Type 0
IsToken bytes = (0 < length bytes) × All (λ byte. byte ≢ 32) bytes

-- Nothing, or something that begins with a space. (own)
abbrev pub IsApart : List ℕ → Type 0
IsApart rest = (rest ≡ []) ⊎ ((more : List ℕ) × (rest ≡ 32 ∷ more))

-- A line begins with a token, spaces before it left aside, and goes on with the rest. (own)
pub record Begins (line token rest : List ℕ) : Type 0 where
  pub gap : List ℕ
  pub bytes : line ≡ gap ++ (token ++ rest)
  pub gap_is : IsGap gap
  pub token_is : IsToken token
  pub apart : IsApart rest

-- A line spells tokens: spaces stand around them as they like, and at least one between two of them. (own)
abbrev pub Spells : List ℕ → List (List ℕ) → Type 0
Spells line [] = IsGap line
Spells line (token ∷ tokens) = (rest : List ℕ) × Begins line token rest × Spells rest tokens

-- The token of a list that has just one. (own)
abbrev pub one_of : List (List ℕ) → Option (List ℕ)
one_of [] = None
one_of (a ∷ []) = Some a
one_of (a ∷ b ∷ more) = None

-- The tokens of a list that has just two. (own)
abbrev pub two_of : List (List ℕ) → Option (List ℕ × List ℕ)
two_of [] = None
two_of (a ∷ []) = None
two_of (a ∷ b ∷ []) = Some (a, b)
two_of (a ∷ b ∷ c ∷ more) = None

-- The tokens of a list that has just three. (own)
abbrev pub three_of : List (List ℕ) → Option (List ℕ × List ℕ × List ℕ)
three_of [] = None
three_of (a ∷ []) = None
three_of (a ∷ b ∷ []) = None
three_of (a ∷ b ∷ c ∷ []) = Some (a, b, c)
three_of (a ∷ b ∷ c ∷ d ∷ more) = None

-- A token as a name, where it is one. (own)
abbrev pub name_of : List ℕ → Option (List ℕ)
name_of token = if is_name token then Some token else None
