-- Rows that are listed, as many as there may be.
use Rattle.std.proofs.Common.{◌≡◌, ℕ, zero, suc, ◌+◌, ◌-◌, ◌<◌, ◌≤◌, Bool, List, [], ◌∷◌, ◌++◌, length, drop, get_or, take, refl, sym, ap, ◌∙◌, arith}
use Rattle.std.specs.Borrow.{Bor}
use Rattle.std.specs.Prelude.{filter, map}
use Rattle.std.proofs.Math.ListN.{drop_of_length-le}
use Rattle.std.proofs.lemmas.List.{length-append, take_more}
use Rattle.std.proofs.lemmas.List.Elements.{filter-append}
use Rattle.mls_markup.specs.Drafts.{Draft, added}
use Rattle.mls_markup.specs.Trees.{Forest, Both, all_of}

-- rows and others, one after the other
pub all_more : {Row : Type 0} (d : Draft) (shown : Row → Forest) (xs ys : List Row) → added d (all_of shown (xs ++ ys)) ≡ added (added d (all_of shown xs)) (all_of shown ys)
all_more d shown [] ys = refl
all_more d shown (x ∷ xs) ys = all_more (added d (shown x)) shown xs ys

-- the first of rows and others
pub taken : {Row : Type 0} (n : ℕ) (xs ys : List Row) → take n (xs ++ ys) ≡ take n xs ++ take (n - length xs) ys
taken zero [] ys = refl
taken (suc n) [] ys = let same : suc n ≡ suc n - 0 = omega arith in ap (λ k. take k ys) same
taken zero (x ∷ xs) ys = ap (λ k. take k ys) (let none : 0 ≡ 0 - length (x ∷ xs) = omega arith in none)
taken (suc n) (x ∷ xs) ys =
    ap (λ l. x ∷ l) (taken n xs ys) ∙ ap (λ k. x ∷ take n xs ++ take k ys) (let same : n - length xs ≡ suc n - suc (length xs) = omega arith in same)

-- the first of rows and of others, one after the other
pub both_listed : {Row : Type 0} (d middle new : Draft) (shown : Row → Forest) (most left : ℕ) (xs ys : List Row)
    → middle ≡ added d (all_of shown (take most xs)) → left ≡ most - length xs → new ≡ added middle (all_of shown (take left ys))
    → new ≡ added d (all_of shown (take most (xs ++ ys)))
both_listed d middle new shown most left xs ys first are next =
    next ∙ ap (λ k. added middle (all_of shown (take k ys))) are ∙ ap (λ e. added e (all_of shown (take (most - length xs) ys))) first
    ∙ sym (all_more d shown (take most xs) (take (most - length xs) ys)) ∙ ap (λ l. added d (all_of shown l)) (sym (taken most xs ys))

-- those of the rows so far that pass a test, and of the next
passed : {Row : Type 0} (test : Row → Bool) (rows : List Row) (n : ℕ) (row : Row) → n < length rows → row ≡ get_or rows n row
    → filter test (take (n + 1) rows) ≡ filter test (take n rows) ++ filter test (row ∷ [])
passed test rows n row within is =
    ap (filter test) (take_more rows n row within ∙ ap (λ r. take n rows ++ r ∷ []) (sym is)) ∙ filter-append test (take n rows) (row ∷ [])

pub listed_next : {Row : Type 0} (d old new : Draft) (shown : Row → Forest) (test : Row → Bool) (most left : ℕ) (rows : List Row) (n : ℕ) (row : Row)
    → n < length rows → row ≡ get_or rows n row → old ≡ added d (all_of shown (take most (filter test (take n rows))))
    → left ≡ most - length (filter test (take n rows)) → new ≡ added old (all_of shown (take left (filter test (row ∷ []))))
    → new ≡ added d (all_of shown (take most (filter test (take (n + 1) rows))))
listed_next d old new shown test most left rows n row within is so_far are next =
    both_listed d old new shown most left (filter test (take n rows)) (filter test (row ∷ [])) so_far are next
    ∙ ap (λ l. added d (all_of shown (take most l))) (sym (passed test rows n row within is))

pub left_next : {Row : Type 0} (test : Row → Bool) (most left rest : ℕ) (rows : List Row) (n : ℕ) (row : Row) → n < length rows → row ≡ get_or rows n row
    → left ≡ most - length (filter test (take n rows)) → rest ≡ left - length (filter test (row ∷ []))
    → rest ≡ most - length (filter test (take (n + 1) rows))
left_next test most left rest rows n row within is are next =
    let many = ap length (passed test rows n row within is) ∙ length-append (filter test (take n rows)) (filter test (row ∷ [])) in
    omega (arith, many, are, next)

-- so many of rows that are fewer, and those behind them
pub take_whole : {Row : Type 0} (rows : List Row) (n : ℕ) → length rows < n → rows ≡ take n rows
take_whole rows zero h = absurd (omega (arith, h))
take_whole [] (suc n) h = refl
take_whole (row ∷ rows) (suc n) h =
    let less : length rows < n = omega (arith, h) in
    ap (λ l. row ∷ l) (take_whole rows n less)

pub take_all : {Row : Type 0} (rows : List Row) (n : ℕ) → length rows ≤ n → take n rows ≡ rows
take_all [] zero h = refl
take_all [] (suc n) h = refl
take_all (row ∷ rows) zero h = absurd (omega (arith, h))
take_all (row ∷ rows) (suc n) h =
    let less : length rows ≤ n = omega (arith, h) in
    ap (λ l. row ∷ l) (take_all rows n less)

pub drop_whole : {Row : Type 0} (rows : List Row) (n : ℕ) → length rows < n → [] ≡ drop n rows
drop_whole rows n h =
    let over : length rows ≤ n = omega (arith, h) in
    sym (drop_of_length-le rows over)

-- what is shown of rows that are lent
pub all_lent : {Row : Type 0} (shown : Row → Forest) (rows : List (Bor Row)) → all_of (λ row. shown row.now) rows ≡ all_of shown (map (λ row. row.now) rows)
all_lent shown [] = refl
all_lent shown (row ∷ rows) = ap (λ f. Both (shown row.now) f) (all_lent shown rows)
