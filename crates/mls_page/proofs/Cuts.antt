-- Rows that are cut by keys, row by row.
use Rattle.std.proofs.Common.{◌≡◌, ℕ, zero, suc, ◌+◌, ◌-◌, ◌<◌, ◌≤◌, Bool, true, false, List, [], ◌∷◌, ◌++◌, length, cond, drop, take, get_or, refl, sym, ap, ◌∙◌, arith}
use Rattle.std.specs.Borrow.{Bor}
use Rattle.std.specs.Prelude.{map, slice_range}
use Rattle.std.proofs.Math.ListN.{drop_of_length-le}
use Rattle.std.proofs.Math.Seq.{drop-cons}
use Rattle.std.proofs.lemmas.List.{append_assoc, length-drop, map-append, take_more}
use Rattle.mls_page.specs.Runs.{IsCut, ended, goes_with, runs_by, runs_from}

-- the rows from a place on
here : {Row : Type 0} (rows : List Row) (place : ℕ) (d : Row) → place < length rows → drop place rows ≡ get_or rows place d ∷ drop (place + 1) rows
here rows place d within =
    let next : suc place ≡ place + 1 = omega arith in
    drop-cons rows place d within ∙ ap (λ n. get_or rows place d ∷ drop n rows) next

-- a row behind others
at : {Row : Type 0} (rows : List Row) (begin n : ℕ) (d : Row) → get_or (drop begin rows) n d ≡ get_or rows (begin + n) d
at rows zero n d = let same : n ≡ 0 + n = omega arith in ap (λ k. get_or rows k d) same
at [] (suc begin) n d = refl
at (row ∷ rows) (suc begin) n d =
    let same : suc (begin + n) ≡ suc begin + n = omega arith in
    at rows begin n d ∙ ap (λ k. get_or (row ∷ rows) k d) same

-- a run with a row more
longer : {Row : Type 0} (rows : List Row) (begin place : ℕ) (d : Row) → begin ≤ place → place < length rows
    → slice_range rows begin (place + 1) ≡ slice_range rows begin place ++ get_or rows place d ∷ []
longer rows begin place d before within =
    let many : place + 1 - begin ≡ (place - begin) + 1 = omega (arith, before) in
    let there : place - begin < length (drop begin rows) = let e = length-drop begin rows in omega (arith, e, before, within) in
    let whole : begin + (place - begin) ≡ place = omega (arith, before) in
    ap (λ n. take n (drop begin rows)) many ∙ take_more (drop begin rows) (place - begin) d there
    ∙ ap (λ r. take (place - begin) (drop begin rows) ++ r ∷ []) (at rows begin (place - begin) d ∙ ap (λ n. get_or rows n d) whole)

-- a run of one row
alone : {Row : Type 0} (rows : List Row) (place : ℕ) (d : Row) → place < length rows → slice_range rows place (place + 1) ≡ get_or rows place d ∷ []
alone rows place d within =
    let before : place ≤ place = omega arith in
    longer rows place place d before within
    ∙ ap (λ n. take n (drop place rows) ++ get_or rows place d ∷ []) (let none : place - place ≡ 0 = omega arith in none)

-- the next row goes on with the run
pub same_run : {Row : Type 0} (key : Row → ℕ) (rows : List Row) (begin place : ℕ) (row : Row) (found : List (List Row)) → begin ≤ place → place < length rows
    → row ≡ get_or rows place row → goes_with key (slice_range rows begin place) row ≡ true → IsCut key rows begin place found → IsCut key rows begin (place + 1) found
same_run key rows begin place row found before within is goes so_far =
    let run = slice_range rows begin place in
    let rest = drop (place + 1) rows in
    ap (λ r. found ++ runs_from key r rest) (longer rows begin place row before within ∙ ap (λ r. run ++ r ∷ []) (sym is))
    ∙ ap (λ b. found ++ cond b (runs_from key (run ++ row ∷ []) rest) (run ∷ runs_from key (row ∷ []) rest)) (sym goes)
    ∙ ap (λ rs. found ++ runs_from key run rs) (ap (λ r. r ∷ rest) is ∙ sym (here rows place row within)) ∙ so_far

-- it begins the next run
pub next_run : {Row : Type 0} (key : Row → ℕ) (rows : List Row) (begin place : ℕ) (row : Row) (found new : List (Bor (List Row))) (lent : Bor (List Row)) → place < length rows
    → row ≡ get_or rows place row → goes_with key (slice_range rows begin place) row ≡ false → new ≡ found ++ lent ∷ [] → lent.now ≡ slice_range rows begin place
    → IsCut key rows begin place (map (λ run. run.now) found) → IsCut key rows place (place + 1) (map (λ run. run.now) new)
next_run key rows begin place row found new lent within is goes more there so_far =
    let run = slice_range rows begin place in
    let rest = drop (place + 1) rows in
    let front = map (λ run. run.now) found in
    let are : map (λ run. run.now) new ≡ front ++ run ∷ [] =
    ap (map (λ run. run.now)) more ∙ map-append (λ run. run.now) found (lent ∷ []) ∙ ap (λ r. front ++ r ∷ []) there in
    ap (λ rs. rs ++ runs_from key (slice_range rows place (place + 1)) rest) are
    ∙ ap (λ r. (front ++ run ∷ []) ++ runs_from key r rest) (alone rows place row within ∙ ap (λ r. r ∷ []) (sym is))
    ∙ append_assoc front (run ∷ []) (runs_from key (row ∷ []) rest)
    ∙ ap (λ b. front ++ cond b (runs_from key (run ++ row ∷ []) rest) (run ∷ runs_from key (row ∷ []) rest)) (sym goes)
    ∙ ap (λ rs. front ++ runs_from key run rs) (ap (λ r. r ∷ rest) is ∙ sym (here rows place row within)) ∙ so_far

-- all rows are cut
pub all_cut : {Row : Type 0} (key : Row → ℕ) (rows : List Row) (begin place : ℕ) (found new : List (List Row)) → length rows ≤ place → place ≤ length rows
    → IsCut key rows begin place found → new ≡ found ++ ended (slice_range rows begin (length rows)) → new ≡ runs_by key rows
all_cut key rows begin place found new over within so_far more =
    let whole : length rows ≡ place = omega (arith, over, within) in
    more ∙ ap (λ n. found ++ ended (slice_range rows begin n)) whole
    ∙ ap (λ rs. found ++ runs_from key (slice_range rows begin place) rs) (sym (drop_of_length-le rows over)) ∙ so_far
