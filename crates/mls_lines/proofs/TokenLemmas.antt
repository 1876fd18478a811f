-- The first token of a line.
use Rattle.std.proofs.Common.{◌≡◌, ℕ, suc, ◌<◌, ◌≤◌, false, cond, ltb, eqb, List, [], ◌∷◌, ◌++◌, length, get_or, take, drop, filter, sym, refl, ap, ◌∙◌, subst, append-nil, take-append-drop, arith, ◌⊎◌, inl, inr, lt-ltb}
use Rattle.std.specs.List.{All, slice_split}
use Rattle.std.proofs.Math.Seq.{drop-cons}
use Rattle.std.proofs.lemmas.Bool.{ne_eqb, cases_lt}
use Rattle.std.proofs.lemmas.List.{length-take-le, get_or-take, drop_all}
use Rattle.std.proofs.lemmas.List.Elements.{All-from_get_or}
use Rattle.std.proofs.lemmas.List.Splits.{slice_split_none, slice_split_at}
use Rattle.mls_lines.specs.Tokens.{tokens_of}

pub space_first : (xs : List ℕ) → tokens_of (32 ∷ xs) ≡ tokens_of xs
space_first xs = refl

abbrev pub kept : List (List ℕ) → List (List ℕ)
kept parts = filter (λ part. ltb 0 (length part)) parts

-- a part that has a byte is kept
pub word_kept : (w : List ℕ) (parts : List (List ℕ)) → 0 < length w → kept (w ∷ parts) ≡ w ∷ kept parts
word_kept w parts h = ap (λ t. cond t (w ∷ kept parts) (kept parts)) (lt-ltb 0 (length w) h)

-- a token ends at a space or at the end
pub word_then : (w rest : List ℕ) → All (λ b. eqb b 32 ≡ false) w → 0 < length w → (rest ≡ []) ⊎ ((ys : List ℕ) × (rest ≡ 32 ∷ ys)) → tokens_of (w ++ rest) ≡ w ∷ tokens_of rest
word_then w rest all some (inl e) =
    ap (λ r. tokens_of (w ++ r)) e ∙ ap tokens_of (append-nil w) ∙ ap kept (slice_split_none (λ b. eqb b 32) w all) ∙ word_kept w [] some ∙ ap (λ r. w ∷ tokens_of r) (sym e)
word_then w rest all some (inr (ys, e)) =
    ap (λ r. tokens_of (w ++ r)) e ∙ ap kept (slice_split_at (λ b. eqb b 32) w 32 ys all refl) ∙ word_kept w (slice_split (λ b. eqb b 32) ys) some ∙ ap (λ r. w ∷ tokens_of r) (sym e)

-- the first token ends at the first space, or at the end
pub token_at : (from : List ℕ) (n : ℕ) → (0 < length from → get_or from 0 0 ≡ 32 → ⊥) → 0 < length from → n ≤ length from
    → ((k : ℕ) → k < n → get_or from k 0 ≡ 32 → ⊥) → (n < length from → get_or from n 0 ≡ 32) → tokens_of from ≡ take n from ∷ tokens_of (drop n from)
token_at from n begins some within word ends =
    let long : length (take n from) ≡ n = length-take-le n from within in
    let positive : 0 < n = elim (cases_lt 0 n) [ inl h ↦ h | inr h ↦ absurd (begins some (let zero_is : n ≡ 0 = omega arith in subst (λ m. get_or from m 0 ≡ 32) zero_is (ends (omega arith)))) ] in
    let all : All (λ b. eqb b 32 ≡ false) (take n from) =
    All-from_get_or (λ b. eqb b 32 ≡ false) (take n from) 0
    (λ i h. let below : i < n = omega (arith, long) in ne_eqb _ 32 (λ e. word i below (sym (get_or-take n from i 0 below) ∙ e))) in
    let rest : (drop n from ≡ []) ⊎ ((ys : List ℕ) × (drop n from ≡ 32 ∷ ys)) =
    elim (cases_lt n (length from)) [
      | inl h ↦ inr (drop (suc n) from, drop-cons from n 0 h ∙ ap (λ b. b ∷ drop (suc n) from) (ends h))
      | inr h ↦ inl (drop_all n from h)
    ] in
    ap tokens_of (sym (take-append-drop n from)) ∙ word_then (take n from) (drop n from) all (omega (arith, long)) rest
