-- A line spells its tokens, and no others.
use Rattle.std.proofs.Common.{◌≡◌, ◌≢◌, ℕ, suc, List, [], ◌∷◌, ◌++◌, refl, sym, ap, subst, eqb, append-nil, ◌∙◌, inl, inr, arith}
use Rattle.std.specs.List.{All, slice_split, onto_first}
use Rattle.std.proofs.lemmas.List.Elements.{All-cons, All-nil}
use Rattle.std.proofs.lemmas.List.Splits.{slice_split-cons_no}
use Rattle.std.proofs.lemmas.Bool.{cases_eq, ne_eqb}
use Rattle.mls_lines.specs.Tokens.{tokens_of, IsGap, IsApart, Spells}
use Rattle.mls_lines.proofs.TokenLemmas.{kept, word_kept, word_then}

first_of : {X : Type 0} (P : X → Type 0) (x : X) (xs : List X) → All P (x ∷ xs) → P x
first_of P x xs all = all 0 x (omega arith)

rest_of : {X : Type 0} (P : X → Type 0) (x : X) (xs : List X) → All P (x ∷ xs) → All P xs
rest_of P x xs all = λ k d below. all (suc k) d (omega arith)

-- a line and its parts: the first part stands at its front, and what follows spells the others
abbrev Cut : List ℕ → List (List ℕ) → Type 0
Cut line [] = ⊥
Cut line (part ∷ parts) = (rest : List ℕ) × (line ≡ part ++ rest) × All (λ byte. byte ≢ 32) part × IsApart rest × Spells rest (kept parts)

spelled_after : (line : List ℕ) (tokens : List (List ℕ)) → Spells line tokens → Spells (32 ∷ line) tokens
spelled_after line [] gap = All-cons (λ byte. byte ≡ 32) 32 line refl gap
spelled_after line (token ∷ tokens) (rest, begins, more) =
    let gap : List ℕ = begins.gap in
    (rest, record { gap = 32 ∷ gap; bytes = ap (λ bytes. 32 ∷ bytes) begins.bytes; gap_is = All-cons (λ byte. byte ≡ 32) 32 gap refl begins.gap_is; token_is = begins.token_is; apart = begins.apart }, more)

cut_spells : (line : List ℕ) (parts : List (List ℕ)) → Cut line parts → Spells line (kept parts)
cut_spells line [] cut = absurd cut
cut_spells line ([] ∷ parts) (rest, is, all, apart, spells) = subst (λ bytes. Spells bytes (kept parts)) (sym is) spells
cut_spells line ((byte ∷ part) ∷ parts) (rest, is, all, apart, spells) =
    subst (Spells line) (sym (word_kept (byte ∷ part) parts (omega arith)))
    (rest, record { gap = []; bytes = is; gap_is = All-nil (λ byte. byte ≡ 32); token_is = (omega arith, all); apart = apart }, spells)

cut_space : (line : List ℕ) (parts : List (List ℕ)) → Cut line parts → Cut (32 ∷ line) ([] ∷ parts)
cut_space line parts cut = (32 ∷ line, refl, All-nil (λ byte. byte ≢ 32), inr (line, refl), spelled_after line (kept parts) (cut_spells line parts cut))

cut_byte : (byte : ℕ) (line : List ℕ) (parts : List (List ℕ)) → byte ≢ 32 → Cut line parts → Cut (byte ∷ line) (onto_first byte parts)
cut_byte byte line [] other cut = absurd cut
cut_byte byte line (part ∷ parts) other (rest, is, all, apart, spells) =
    (rest, ap (λ bytes. byte ∷ bytes) is, All-cons (λ b. b ≢ 32) byte part other all, apart, spells)

cut_line : (line : List ℕ) → Cut line (slice_split (λ byte. eqb byte 32) line)
cut_line [] = ([], refl, All-nil (λ byte. byte ≢ 32), inl refl, All-nil (λ byte. byte ≡ 32))
cut_line (byte ∷ line) = elim (cases_eq byte 32) [
  | inl is ↦ subst (λ b. Cut (b ∷ line) (slice_split (λ x. eqb x 32) (b ∷ line))) (sym is) (cut_space line (slice_split (λ x. eqb x 32) line) (cut_line line))
  | inr other ↦ subst (Cut (byte ∷ line)) (sym (slice_split-cons_no (λ x. eqb x 32) byte line (ne_eqb byte 32 other))) (cut_byte byte line (slice_split (λ x. eqb x 32) line) other (cut_line line))
]

-- each line spells its tokens
pub line_spells : (line : List ℕ) → Spells line (tokens_of line)
line_spells line = cut_spells line (slice_split (λ byte. eqb byte 32) line) (cut_line line)

gap_before : (gap rest : List ℕ) → IsGap gap → tokens_of (gap ++ rest) ≡ tokens_of rest
gap_before [] rest all = refl
gap_before (byte ∷ gap) rest all =
    let is_space : byte ≡ 32 = first_of (λ byte. byte ≡ 32) byte gap all in
    ap (λ b. tokens_of (b ∷ (gap ++ rest))) is_space ∙ gap_before gap rest (rest_of (λ byte. byte ≡ 32) byte gap all)

-- and no others
pub spelled_alone : (line : List ℕ) (tokens : List (List ℕ)) → Spells line tokens → tokens ≡ tokens_of line
spelled_alone line [] all = sym (ap tokens_of (sym (append-nil line)) ∙ gap_before line [] all)
spelled_alone line (token ∷ tokens) (rest, begins, spells) =
    ap (λ more. token ∷ more) (spelled_alone rest tokens spells)
    ∙ sym (ap tokens_of begins.bytes ∙ gap_before begins.gap (token ++ rest) begins.gap_is
    ∙ word_then token rest (λ k d below. ne_eqb _ 32 (begins.token_is.1 k d below)) begins.token_is.0 begins.apart)
