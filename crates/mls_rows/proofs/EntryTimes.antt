-- The time of an entry, by the rows of marks.
use Rattle.std.proofs.Common.{◌≡◌, ◌<◌, ℕ, Bool, nat_le, List, [], ◌∷◌, ◌++◌, Option, Some, None, sym, ap, refl, ◌∙◌, cond, append-nil}
use Rattle.std.specs.Prelude.{MatchOption, option_map}
use Rattle.std.specs.List.{All, find}
use Rattle.std.proofs.lemmas.Bool.{le-leb, lt-leb}
use Rattle.std.proofs.lemmas.List.Elements.{All-head, All-tail}
use Rattle.mls_marks.specs.Rows.{IsRowOf}
use Rattle.mls_marks.specs.declared.row.Row.{Row}
use Rattle.mls_rows.specs.Times.{time_of}

-- the time of the row in front, where it reaches the entry, or else of the rows behind
front : Row → List Row → ℕ → Bool → Option (List ℕ)
front row rows n reaches = option_map (λ (r : Row). r.time) (cond reaches (Some row) (find (λ (r : Row). nat_le n r.last) rows))

-- rows that end before the entry tell nothing of it
past : (n : ℕ) (before rest : List Row) → All (λ r. r.last < n) before → time_of (before ++ rest) n ≡ time_of rest n
unfolding front
past n [] rest none = refl
past n (row ∷ before) rest none =
    ap (front row (before ++ rest) n) (lt-leb n row.last (All-head (λ r. r.last < n) row before none))
    ∙ past n before rest (All-tail (λ r. r.last < n) row before none)

-- the time of the first row that reaches the entry
at_row : (rows : List Row) (n : ℕ) (time : List ℕ) (row : Row) → time ≡ row.time → IsRowOf n rows row → Some time ≡ time_of rows n
unfolding front
at_row rows n time row is of =
    sym (ap (λ rs. time_of rs n) of.whole ∙ past n of.before (row ∷ of.after) of.none
    ∙ ap (front row of.after n) (le-leb n row.last of.reaches) ∙ ap Some (sym is))

-- what is told of an entry is its time
pub time_is : (rows : List Row) (n : ℕ) (result : Option (List ℕ))
    → MatchOption result (All (λ r. r.last < n) rows) (λ time. (row : Row) × (time ≡ row.time) × IsRowOf n rows row)
    → result ≡ time_of rows n
time_is rows n (Some time) found = at_row rows n time found.0 found.1 found.2
time_is rows n None none = sym (ap (λ rs. time_of rs n) (sym (append-nil rows)) ∙ past n rows [] none)
