-- The lines of a text, one after the other, each behind two spaces.
use Rattle.std.proofs.Common.{◌≡◌, ℕ, ◌<◌, List, [], ◌∷◌, ◌++◌, length, filter, cond, ltb, eqb, sym, ap, ◌∙◌, subst, append-nil}
use Rattle.std.specs.List.{flat_map, slice_split, position_or_len, before_first, after_first}
use Rattle.std.proofs.lemmas.Bool.{lt-ltb}
use Rattle.std.proofs.lemmas.Grind.{flat_map-append}
use Rattle.std.proofs.lemmas.List.{append_assoc, nil_from_length}
use Rattle.std.proofs.lemmas.List.Elements.{filter-append}
use Rattle.std.proofs.lemmas.List.Splits.{slice_split_none, slice_split_first}
use Rattle.std.proofs.lemmas.List.Sums.{fails_before_first}
use Rattle.mls_explain_text.specs.Under.{behind_first, filled, indented, told_lines}

-- the first line, and those behind its newline
pub lines_first : (text : List ℕ) → position_or_len (λ b. eqb b 10) text < length text
    → told_lines text ≡ filled (before_first (λ b. eqb b 10) text) ++ told_lines (after_first (λ b. eqb b 10) text)
lines_first text within =
    let first = before_first (λ b. eqb b 10) text in
    let rest = after_first (λ b. eqb b 10) text in
    ap (filter (λ line. ltb 0 (length line))) (slice_split_first (λ b. eqb b 10) text 0 within)
    ∙ filter-append (λ line. ltb 0 (length line)) (first ∷ []) (slice_split (λ b. eqb b 10) rest)

-- a text without a newline
pub lines_last : (text : List ℕ) → position_or_len (λ b. eqb b 10) text ≡ length text → told_lines text ≡ filled text ++ told_lines []
lines_last text none =
    ap (filter (λ line. ltb 0 (length line)))
    (slice_split_none (λ b. eqb b 10) text (λ k d h. fails_before_first (λ b. eqb b 10) text k d (subst (λ n. k < n) (sym none) h)))
    ∙ sym (append-nil (filled text))

module _ (told rest line next : List ℕ) (so_far : told_lines rest ≡ told_lines told) (first : told_lines rest ≡ filled line ++ told_lines next) where
  -- what stands behind the first line
  pub behind : 0 < length line → told_lines next ≡ behind_first (told_lines told)
  behind some =
      ap (λ b. behind_first (cond b (line ∷ []) [] ++ told_lines next)) (sym (lt-ltb 0 (length line) some)) ∙ ap behind_first (sym first ∙ so_far)

  -- an empty one is none
  pub skips : length line ≡ 0 → told_lines next ≡ told_lines told
  skips none = ap (λ n. cond (ltb 0 n) (line ∷ []) [] ++ told_lines next) (sym none) ∙ sym first ∙ so_far

-- at the end no line was met
pub ends : (told rest : List ℕ) → told_lines rest ≡ told_lines told → length rest ≡ 0 → told_lines rest ≡ behind_first (told_lines told)
ends told rest so_far none =
    let empty : told_lines rest ≡ [] = ap told_lines (nil_from_length rest none) in
    empty ∙ ap behind_first (sym empty ∙ so_far)

-- with one line more
pub indented_next : (all old new rest line next : List ℕ) → old ++ flat_map indented (told_lines rest) ≡ all → told_lines rest ≡ filled line ++ told_lines next
    → new ≡ old ++ flat_map indented (filled line) → new ++ flat_map indented (told_lines next) ≡ all
indented_next all old new rest line next so_far first added =
    ap (λ t. t ++ flat_map indented (told_lines next)) added ∙ append_assoc old (flat_map indented (filled line)) (flat_map indented (told_lines next))
    ∙ ap (λ t. old ++ t) (sym (flat_map-append indented (filled line) (told_lines next))) ∙ ap (λ lines. old ++ flat_map indented lines) (sym first) ∙ so_far

-- at the end all are written
pub indented_all : (all text rest : List ℕ) → text ++ flat_map indented (told_lines rest) ≡ all → length rest ≡ 0 → text ≡ all
indented_all all text rest so_far none =
    sym (append-nil text) ∙ ap (λ t. text ++ flat_map indented (told_lines t)) (sym (nil_from_length rest none)) ∙ so_far
