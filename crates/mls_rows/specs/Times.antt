-- Entries and their times.
use Rattle.std.specs.Prelude.{ℕ, nat_le, List, [], ◌∷◌, ◌++◌, Option, option_map, Some, None}
use Rattle.std.specs.Borrow.{Bor}
use Rattle.std.specs.List.{find}
use Rattle.json.specs.Token.{Token, key, string, null}
use Rattle.mls_marks.specs.declared.row.Row.{Row}
use Rattle.mls_rows.specs.Members.{number_member, null_member}

-- The rows of the marks that are lent, where some are. (own)
abbrev pub rows_lent : Option (Bor (List Row)) → Option (List Row)
rows_lent lent = option_map (λ rows. rows.now) lent

-- The time of the entry of a number: that of the first row whose last entry is this one or behind it. (own)
abbrev pub time_of : List Row → ℕ → Option (List ℕ)
time_of rows n = option_map (λ row. row.time) (find (λ row. nat_le n row.last) rows)

-- A time, or that no mark covers the entry. (own)
abbrev pub time_token : Option (List ℕ) → Token
time_token None = null
time_token (Some time) = string time

-- A member that is a time. (own)
abbrev pub time_member : List ℕ → Option (List ℕ) → List Token
time_member at time = key at ∷ time_token time ∷ []

-- The time of an entry, by the rows of marks, where there are some. (own)
abbrev pub time_members : List ℕ → Option (List Row) → ℕ → List Token
time_members at None n = []
time_members at (Some rows) n = time_member at (time_of rows n)

-- An entry: its number under one key, and its time under another where times are told; null of none. (own)
abbrev pub entry_members : List ℕ → List ℕ → Option (List Row) → Option ℕ → List Token
entry_members at time rows None = null_member at
entry_members at time rows (Some n) = number_member at n ++ time_members time rows n
