-- Lines of tokens with one space between each two: texts of such lines are one only where the tokens are.
use Rattle.std.proofs.Common.{◌≡◌, ℕ, Bool, true, false, List, [], ◌∷◌, ◌++◌, refl, sym, subst, ◌∙◌}
use Rattle.std.specs.List.{list_all}
use Rattle.std.proofs.lemmas.Bool.{and_parts, both_ways}
use Rattle.std.proofs.lemmas.List.{append_assoc}
use Rattle.mls_lines.specs.Labels.{is_label_byte}
pub use Rattle.mls_snapshots.specs.Rows.{spaced, are_seen}

-- nothing, or what begins with a byte that doesn't pass
abbrev Stops : (ℕ → Bool) → List ℕ → Type 0
Stops p [] = Unit {0}
Stops p (b ∷ text) = p b ≡ false

-- texts whose fronts pass and then stop are one only where the fronts are, and what stands behind them
fronts_alike : (p : ℕ → Bool) (x y r t : List ℕ) → list_all p x ≡ true → list_all p y ≡ true → Stops p r → Stops p t → x ++ r ≡ y ++ t → (x ≡ y) × (r ≡ t)
fronts_alike p [] [] r t h k m n e = (refl, e)
fronts_alike p [] (b ∷ y) r t h k m n e =
    let parts = and_parts (p b) (list_all p y) k in
    absurd (both_ways (p b) (subst (Stops p) e m) parts.0)
fronts_alike p (a ∷ x) [] r t h k m n e =
    let parts = and_parts (p a) (list_all p x) h in
    absurd (both_ways (p a) (subst (Stops p) (sym e) n) parts.0)
fronts_alike p (a ∷ x) (b ∷ y) r t h k m n e =
    let first = and_parts (p a) (list_all p x) h in
    let second = and_parts (p b) (list_all p y) k in
    let byte : a ≡ b = cc in
    let rest : x ++ r ≡ y ++ t = cc in
    let more = fronts_alike p x y r t first.1 second.1 m n rest in
    ((λ i. byte i ∷ more.0 i), more.1)

-- what stands behind the first token of a line, and the next ones
abbrev behind : List (List ℕ) → List ℕ → List ℕ
behind [] r = 10 ∷ r
behind (u ∷ us) r = 32 ∷ (spaced u us ++ 10 ∷ r)

first_then : (t : List ℕ) (ts : List (List ℕ)) (r : List ℕ) → spaced t ts ++ 10 ∷ r ≡ t ++ behind ts r
first_then t [] r = refl
first_then t (u ∷ us) r = append_assoc t (32 ∷ spaced u us) (10 ∷ r)

stops : (ts : List (List ℕ)) (r : List ℕ) → Stops is_label_byte (behind ts r)
stops [] r = refl
stops (u ∷ us) r = refl

ends_apart : (r q : List ℕ) → 10 ∷ r ≡ 32 ∷ q → ⊥
ends_apart r q e = let no : ◌≡◌ {A = ℕ} 10 32 = cc in cc

behind_alike : (b : ℕ) (r q : List ℕ) → b ∷ r ≡ b ∷ q → r ≡ q
behind_alike b r q e = cc

firsts_alike : (t : List ℕ) (ts : List (List ℕ)) (u : List ℕ) (us : List (List ℕ)) (r q : List ℕ) → are_seen (t ∷ ts) ≡ true → are_seen (u ∷ us) ≡ true
    → spaced t ts ++ 10 ∷ r ≡ spaced u us ++ 10 ∷ q → (t ≡ u) × (behind ts r ≡ behind us q)
firsts_alike t ts u us r q seen also e =
    fronts_alike is_label_byte t u (behind ts r) (behind us q)
    (and_parts (list_all is_label_byte t) (are_seen ts) seen).0 (and_parts (list_all is_label_byte u) (are_seen us) also).0
    (stops ts r) (stops us q) (sym (first_then t ts r) ∙ e ∙ first_then u us q)

-- texts that begin with such lines are one only where the lines have the same tokens, and what follows them is one
pub lines_alike : (t : List ℕ) (ts : List (List ℕ)) (u : List ℕ) (us : List (List ℕ)) (r q : List ℕ) → are_seen (t ∷ ts) ≡ true → are_seen (u ∷ us) ≡ true
    → spaced t ts ++ 10 ∷ r ≡ spaced u us ++ 10 ∷ q → (t ∷ ts ≡ u ∷ us) × (r ≡ q)
lines_alike t [] u [] r q seen also e =
    let both = firsts_alike t [] u [] r q seen also e in
    ((λ i. both.0 i ∷ []), behind_alike 10 r q both.1)
lines_alike t [] u (v ∷ vs) r q seen also e =
    let both = firsts_alike t [] u (v ∷ vs) r q seen also e in
    absurd (ends_apart r (spaced v vs ++ 10 ∷ q) both.1)
lines_alike t (w ∷ ws) u [] r q seen also e =
    let both = firsts_alike t (w ∷ ws) u [] r q seen also e in
    absurd (ends_apart q (spaced w ws ++ 10 ∷ r) (sym both.1))
lines_alike t (w ∷ ws) u (v ∷ vs) r q seen also e =
    let both = firsts_alike t (w ∷ ws) u (v ∷ vs) r q seen also e in
    let rest = (and_parts (list_all is_label_byte t) (are_seen (w ∷ ws)) seen).1 in
    let others = (and_parts (list_all is_label_byte u) (are_seen (v ∷ vs)) also).1 in
    let more = lines_alike w ws v vs r q rest others (behind_alike 32 (spaced w ws ++ 10 ∷ r) (spaced v vs ++ 10 ∷ q) both.1) in
    ((λ i. both.0 i ∷ more.0 i), more.1)

-- no text that has a newline is empty
pub not_empty : (a r : List ℕ) → a ++ 10 ∷ r ≡ [] → ⊥
not_empty [] r e = cc
not_empty (b ∷ a) r e = cc
