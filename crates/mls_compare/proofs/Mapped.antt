-- The lines of a map, one after the other.
use Rattle.std.proofs.Common.{◌≡◌, ℕ, ◌+◌, ◌<◌, ◌≤◌, List, [], ◌++◌, length, drop, map, get_or, sym, ap, ◌∙◌, append-nil}
use Rattle.std.proofs.lemmas.List.{append_assoc, drop_more, drop_all}
use Rattle.mls_lines.specs.Names.{Names}
use Rattle.mls_wording.specs.Wording.{object_text}
use Rattle.mls_compare.specs.Maps.{line_text, lines_text, row_of, map_text}

-- with one line more
pub map_more : (names : Names) (order : List ℕ) (n o : ℕ) (text new : List ℕ) → n < length order → o ≡ get_or order n o
    → text ++ lines_text n (map (row_of names) (drop n order)) ≡ map_text names order → new ≡ text ++ line_text n o (object_text names o)
    → new ++ lines_text (n + 1) (map (row_of names) (drop (n + 1) order)) ≡ map_text names order
map_more names order n o text new within is so_far pushed =
    let rest = lines_text (n + 1) (map (row_of names) (drop (n + 1) order)) in
    ap (λ t. t ++ rest) pushed ∙ append_assoc text (line_text n o (object_text names o)) rest
    ∙ ap (λ x. text ++ (line_text n x (object_text names x) ++ rest)) is
    ∙ ap (λ xs. text ++ lines_text n (map (row_of names) xs)) (sym (drop_more order n o within))
    ∙ so_far

-- with all lines
pub map_whole : (names : Names) (order : List ℕ) (n : ℕ) (text : List ℕ) → length order ≤ n
    → text ++ lines_text n (map (row_of names) (drop n order)) ≡ map_text names order → text ≡ map_text names order
map_whole names order n text past so_far =
    sym (append-nil text) ∙ ap (λ xs. text ++ lines_text n (map (row_of names) xs)) (sym (drop_all n order past)) ∙ so_far
