-- Counts that stop at the greatest number of 64 bits.
use Rattle.std.proofs.Common.{◌≡◌, ℕ, ◌+◌, ◌<◌, List, [], ◌∷◌, ◌++◌, length, get_or, take, sym, ap, ◌∙◌, arith}
use Rattle.std.specs.List.{fold, sum_by}
use Rattle.std.proofs.lemmas.List.Sums.{fold_push, sum_by_push}
use Rattle.std.proofs.lemmas.List.{take_more}
use Rattle.mls_page.specs.Gets.{capped}

-- some more, of a count that stops
pub capped_more : (a b : ℕ) → capped (capped a + b) ≡ capped (a + b)
capped_more a b = omega arith

-- the sum of rows and one more
pub capped_push : {Row : Type 0} (f : Row → ℕ) (rows : List Row) (row : Row) → capped (capped (sum_by f rows) + f row) ≡ capped (sum_by f (rows ++ row ∷ []))
capped_push f rows row = capped_more (sum_by f rows) (f row) ∙ ap capped (sym (sum_by_push f rows row))

-- the sum of the rows so far and of the next
pub sum_next : {Row : Type 0} (f : Row → ℕ) (rows : List Row) (n : ℕ) (row : Row) (old new : ℕ) → n < length rows → row ≡ get_or rows n row
    → old ≡ capped (sum_by f (take n rows)) → new ≡ capped (old + f row) → new ≡ capped (sum_by f (take (n + 1) rows))
sum_next f rows n row old new within is so_far next =
    next ∙ ap (λ sum. capped (sum + f row)) so_far ∙ capped_push f (take n rows) row
    ∙ ap (λ rs. capped (sum_by f rs)) (ap (λ r. take n rows ++ r ∷ []) is ∙ sym (take_more rows n row within))

-- what is folded of the rows so far and of the next
pub fold_next : {Row Sum : Type 0} (f : Sum → Row → Sum) (from : Sum) (rows : List Row) (n : ℕ) (row : Row) (old new : Sum) → n < length rows → row ≡ get_or rows n row
    → old ≡ fold f from (take n rows) → new ≡ f old row → new ≡ fold f from (take (n + 1) rows)
fold_next f from rows n row old new within is so_far next =
    next ∙ ap (λ sum. f sum row) so_far ∙ sym (fold_push f from (take n rows) row)
    ∙ ap (λ rs. fold f from rs) (ap (λ r. take n rows ++ r ∷ []) is ∙ sym (take_more rows n row within))
