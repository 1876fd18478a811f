-- Rows in runs of those that stand together.
use Rattle.std.specs.Prelude.{◌≡◌, ℕ, ◌==◌, Bool, true, List, [], ◌∷◌, ◌++◌, cond, drop, slice_range}

-- A row goes on with a run: it has the key of the first there, where one is. (own)
abbrev pub goes_with : {Row : Type 0} → (Row → ℕ) → List Row → Row → Bool
goes_with key [] row = true
goes_with key (first ∷ run) row = key row == key first

-- A run that ends; one without rows is none. (own)
abbrev pub ended : {Row : Type 0} → List Row → List (List Row)
ended [] = []
ended (first ∷ run) = (first ∷ run) ∷ []

-- The runs of rows by their keys, of which the first goes on with these. (own)
abbrev pub runs_from : {Row : Type 0} → (Row → ℕ) → List Row → List Row → List (List Row)
runs_from key run [] = ended run
runs_from key run (row ∷ rest) =
    cond (goes_with key run row) (runs_from key (run ++ row ∷ []) rest) (run ∷ runs_from key (row ∷ []) rest)

-- The runs of rows: those that stand together with the same key. (own)
abbrev pub runs_by : {Row : Type 0} → (Row → ℕ) → List Row → List (List Row)
runs_by key rows = runs_from key [] rows

-- Rows are cut up to a place into the runs that are found and one that goes on, which begins at another place. (own)
abbrev pub IsCut : {Row : Type 0} → (Row → ℕ) → List Row → ℕ → ℕ → List (List Row) → Type 0
IsCut key rows begin place found =
    found ++ runs_from key (slice_range rows begin place) (drop place rows) ≡ runs_by key rows
