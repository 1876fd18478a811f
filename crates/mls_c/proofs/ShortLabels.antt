-- Labels of which three words have no category.
use Rattle.std.specs.Prelude.{◌≡◌, ℕ, List, [], ◌∷◌, bit_or, slice_index}
use Rattle.std.specs.Int.{bit_at}
use Rattle.std.proofs.Common.{max, arith, sym, ap, ◌∙◌}
use Rattle.std.proofs.lemmas.Nat.Bits.{bit_at-zero, bit_at_or, same_from_bits}
use Rattle.mls_labels.specs.CategoryBits.{categories_of, categories_in}
use Rattle.mls_labels.proofs.CategoryWords.{listed_words}

-- of two words that have no bit together, neither has one
neither : (x y : ℕ) → bit_or x y ≡ 0 → (x ≡ 0) × (y ≡ 0)
neither x y none =
    let bits : (i : ℕ) → max (bit_at x i) (bit_at y i) ≡ 0 =
    λ i. sym (bit_at_or x y i) ∙ ap (λ b. bit_at b i) none ∙ bit_at-zero i in (
      same_from_bits x 0 (λ i. let most = bits i in let first : bit_at x i ≡ 0 = omega arith in first ∙ sym (bit_at-zero i)),
      same_from_bits y 0 (λ i. let most = bits i in let second : bit_at y i ≡ 0 = omega arith in second ∙ sym (bit_at-zero i)),
    )

-- where three of four words have no bit, the first has all categories
pub short_words : (ws : List ℕ) → bit_or (bit_or (slice_index ws 1) (slice_index ws 2)) (slice_index ws 3) ≡ 0
    → categories_in (slice_index ws 0 ∷ 0 ∷ 0 ∷ 0 ∷ []) ≡ categories_in ws
short_words ws none =
    let last = neither (bit_or (slice_index ws 1) (slice_index ws 2)) (slice_index ws 3) none in
    let middle = neither (slice_index ws 1) (slice_index ws 2) last.0 in
    sym (listed_words (slice_index ws 0 ∷ 0 ∷ 0 ∷ 0 ∷ []))
    ∙ ap (λ b. categories_of (record { first = slice_index ws 0; second = b; third = 0; fourth = 0 })) (sym middle.0)
    ∙ ap (λ b. categories_of (record { first = slice_index ws 0; second = slice_index ws 1; third = b; fourth = 0 })) (sym middle.1)
    ∙ ap (λ b. categories_of (record { first = slice_index ws 0; second = slice_index ws 1; third = slice_index ws 2; fourth = b })) (sym last.1)
    ∙ listed_words ws
