-- Where a text is cut at a byte.
use Rattle.std.proofs.Common.{◌≡◌, ◌≢◌, ℕ, zero, suc, ◌<◌, ◌≤◌, true, false, cond, List, [], ◌∷◌, ◌++◌, length, get_or, Option, Some, None, Bor, MatchOption, refl, sym, subst, ap, ◌∙◌, arith}
use Rattle.std.specs.Prelude.{◌==◌}
use Rattle.std.specs.List.{list_all}
use Rattle.std.proofs.lemmas.Bool.{and_parts, ne_eqb, eq-eqb, both_ways}
use Rattle.std.proofs.lemmas.Str.Pattern.{IsSplitOnceResult, split_parts}
use Rattle.mls_lines.specs.Labels.{is_label_byte}
use Rattle.mls_snapshots.specs.LineReading.{front, behind}

-- A byte is nowhere in a text.
abbrev pub Lacks : ℕ → List ℕ → Type 0
Lacks c text = (i : ℕ) → i < length text → get_or text i 0 ≢ c

lacks_more : (c b : ℕ) (text : List ℕ) → Lacks c (b ∷ text) → ((b == c) ≡ false) × Lacks c text
lacks_more c b text lacks = (ne_eqb b c (lacks 0 (omega arith)), λ i below. lacks (suc i) (omega (arith, below)))

-- what is no byte that is seen is nowhere in a word that is
pub lacks_seen : (c : ℕ) → is_label_byte c ≡ false → (text : List ℕ) → list_all is_label_byte text ≡ true → Lacks c text
lacks_seen c other [] seen i below = absurd (omega (arith, below))
lacks_seen c other (b ∷ text) seen zero below =
    λ e. both_ways (is_label_byte c) other (ap is_label_byte (sym e) ∙ (and_parts (is_label_byte b) (list_all is_label_byte text) seen).0)
lacks_seen c other (b ∷ text) seen (suc i) below =
    lacks_seen c other text (and_parts (is_label_byte b) (list_all is_label_byte text) seen).1 i (omega (arith, below))

pub front_at : (c : ℕ) (text rest : List ℕ) → Lacks c text → front c (text ++ c ∷ rest) ≡ text
unfolding front
front_at c [] rest lacks = rw (eq-eqb c c refl) refl
front_at c (b ∷ text) rest lacks =
    let parts = lacks_more c b text lacks in
    rw parts.0 (ap (λ t. b ∷ t) (front_at c text rest parts.1))

pub behind_at : (c : ℕ) (text rest : List ℕ) → Lacks c text → behind c (text ++ c ∷ rest) ≡ rest
unfolding behind
behind_at c [] rest lacks = rw (eq-eqb c c refl) refl
behind_at c (b ∷ text) rest lacks =
    let parts = lacks_more c b text lacks in
    rw parts.0 (behind_at c text rest parts.1)

pub front_all : (c : ℕ) (text : List ℕ) → Lacks c text → front c text ≡ text
unfolding front
front_all c [] lacks = refl
front_all c (b ∷ text) lacks =
    let parts = lacks_more c b text lacks in
    rw parts.0 (ap (λ t. b ∷ t) (front_all c text parts.1))

pub behind_all : (c : ℕ) (text : List ℕ) → Lacks c text → behind c text ≡ []
unfolding behind
behind_all c [] lacks = refl
behind_all c (b ∷ text) lacks =
    let parts = lacks_more c b text lacks in
    rw parts.0 (behind_all c text parts.1)

behind_most : (c : ℕ) (text : List ℕ) → length (behind c text) ≤ length text
unfolding behind
behind_most c [] = omega arith
behind_most c (b ∷ text) =
    let most = behind_most c text in
    elim (b == c) as (λ t. length (cond t text (behind c text)) ≤ length (b ∷ text)) [
      | true ↦ omega arith
      | false ↦ omega (arith, most)
    ]

-- what stands behind is shorter, where anything stands before
pub behind_shorter : (c : ℕ) (text : List ℕ) → 0 < length (front c text) → length (behind c text) < length text
unfolding front behind
behind_shorter c [] some = absurd (omega (arith, some))
behind_shorter c (b ∷ text) some =
    let most = behind_most c text in
    elim (b == c) as (λ t. 0 < length (cond t [] (b ∷ front c text)) → length (cond t text (behind c text)) < length (b ∷ text)) [
      | true ↦ λ some. absurd (omega (arith, some))
      | false ↦ λ _. omega (arith, most)
    ] some

-- `split_once` cuts there
pub split_front : (c : ℕ) (bs : List ℕ) (r : Option (Bor (List ℕ) × Bor (List ℕ))) (x y : Bor (List ℕ)) → IsSplitOnceResult c bs r → c < 128 → r ≡ Some (x, y)
    → (x.now ≡ front c bs) × (y.now ≡ behind c bs)
split_front c bs r x y clause small is =
    let parts = subst (λ (q : Option (Bor (List ℕ) × Bor (List ℕ))). MatchOption q ((i : ℕ) → i < length bs → get_or bs i 0 ≢ c) (λ p. (bs ≡ p.0.now ++ (c ∷ p.1.now)) × ((i : ℕ) → i < length p.0.now → get_or p.0.now i 0 ≢ c))) is
    (split_parts c bs r clause small) in
    (sym (ap (front c) parts.0 ∙ front_at c x.now y.now parts.1), sym (ap (behind c) parts.0 ∙ behind_at c x.now y.now parts.1))

pub split_none : (c : ℕ) (bs : List ℕ) (r : Option (Bor (List ℕ) × Bor (List ℕ))) → IsSplitOnceResult c bs r → c < 128 → r ≡ None → Lacks c bs
split_none c bs r clause small is =
    subst (λ (q : Option (Bor (List ℕ) × Bor (List ℕ))). MatchOption q ((i : ℕ) → i < length bs → get_or bs i 0 ≢ c) (λ p. (bs ≡ p.0.now ++ (c ∷ p.1.now)) × ((i : ℕ) → i < length p.0.now → get_or p.0.now i 0 ≢ c))) is
    (split_parts c bs r clause small)
