-- Lists of numbers that rise, each of which stands for a row of a relation.
use Rattle.std.specs.Prelude.{◌≡◌, ℕ, ◌<◌, ◌≤◌, ◌==◌, ◌&&◌, ◌||◌, Bool, not, List, [], length, filter, slice_index}
use Rattle.std.specs.Prelude.{◌+◌, ◌++◌, take, drop, slice_index_or, nat_lt, false, Result, Ok, Err}
use Rattle.std.specs.List.{range_with_len, insert, remove}

-- Where a number stands in a list, or else where it would: behind all that are less, before all that are greater. (own)
abbrev pub FoundAt : List ℕ → ℕ → Result ℕ ℕ → Type 0
FoundAt xs x (Ok k) = (k < length xs) × (slice_index xs k ≡ x)
FoundAt xs x (Err k) = (k ≤ length xs) × ((j : ℕ) → j < k → slice_index xs j < x)
    × ((j : ℕ) → k ≤ j → j < length xs → x < slice_index xs j)

-- The place of a search is within a list. (own)
abbrev pub IsInRange : Result ℕ ℕ → ℕ → Type 0
IsInRange (Ok k) n = k < n
IsInRange (Err k) n = k ≤ n

-- A list with an item entered at the place where it was missed; it stays where the item was found. (own)
abbrev pub entered : {X : Type 0} → List X → Result ℕ ℕ → X → List X
entered xs (Ok k) x = xs
entered xs (Err k) x = insert xs k x

-- A list without so many items at a place. (own)
abbrev pub cut : {X : Type 0} → List X → ℕ → ℕ → List X
cut xs k count = take k xs ++ drop (k + count) xs

-- A list without the item at the place where it was found; it stays where the item was missed. (own)
abbrev pub left : {X : Type 0} → List X → Result ℕ ℕ → List X
left xs (Ok k) = remove xs k
left xs (Err k) = xs

-- The numbers below a bound that pass a test, ascending. (own)
unfoldable pub listed : (ℕ → Bool) → ℕ → List ℕ
listed p n = filter p (range_with_len 0 n)

-- Each list has the numbers below a bound that its own number is related to. (own)
abbrev pub IsRows : (ℕ → ℕ → Bool) → ℕ → List (List ℕ) → Type 0
IsRows p n lists = (a : ℕ) → slice_index_or lists a [] ≡ listed (p a) n

-- Lists tell some relation: each rises. (own)
pub record TellRelation (lists : List (List ℕ)) : Type 0 where
  pub relation : ℕ → ℕ → Bool
  pub bound : ℕ
  pub rows : IsRows relation bound lists

-- A number is entered into the list of a row: whatever relation the lists told, they tell it and that pair. (own)
pub record Entered (row column : ℕ) (before after : List (List ℕ)) : Type 0 where
  pub told : (p : ℕ → ℕ → Bool) (n : ℕ) → column < n → IsRows p n before
      → IsRows (λ a b. (a == row && b == column) || p a b) n after

-- A place parts a list: the numbers before it are less than a bound, and none from there on is. (own)
pub record PartsAt (xs : List ℕ) (bound place : ℕ) : Type 0 where
  pub within : place ≤ length xs
  pub less : (j : ℕ) → j < place → slice_index xs j < bound
  pub rest : (j : ℕ) → place ≤ j → j < length xs → bound ≤ slice_index xs j

-- Whether a number is in a run: from its first to that before its end. (own)
abbrev pub is_in_run : ℕ → ℕ → ℕ → Bool
is_in_run first end x = not (nat_lt x first) && nat_lt x end

-- A run of columns is taken out of the lists of the rows that are marked: whatever relation the lists told, they tell
-- it less those pairs. (own)
pub record TakenOut (marks : List Bool) (first end : ℕ) (before after : List (List ℕ)) : Type 0 where
  pub told : (p : ℕ → ℕ → Bool) (n : ℕ) → IsRows p n before
      → IsRows (λ a b. p a b && not (slice_index_or marks a false && is_in_run first end b)) n after
