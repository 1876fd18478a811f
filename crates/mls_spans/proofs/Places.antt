-- The places of spans that aren't ended.
use Rattle.std.proofs.Common.{◌≡◌, ℕ, ◌+◌, ◌<◌, ◌≤◌, Bool, true, false, List, [], ◌∷◌, ◌++◌, length, get_or, refl, sym, ap, ◌∙◌, arith, eqb, inl, inr}
use Rattle.std.specs.Prelude.{◌||◌, ◌⊎◌}
use Rattle.std.specs.List.{list_any, range_with_len}
use Rattle.std.proofs.lemmas.Bool.{cases_lt, eq-eqb, lt-ltb}
use Rattle.std.proofs.lemmas.List.{get_or_append_left, length_push, map-id}
use Rattle.std.proofs.lemmas.List.FromFn.{map-range_with_len_more}
use Rattle.std.proofs.lemmas.List.Folds.{list_any-append}
use Rattle.mls_facts.proofs.Ranges.{list_any-range}
use Rattle.mls_spans.specs.Sweeping.{is_open, AreAmong}
use Rattle.mls_spans.specs.declared.span.Span.{Span}

pub or_first : (a b : Bool) → a ≡ true → (a || b) ≡ true
or_first true b is = refl
or_first false b is = absurd (let no : false ≡ true = is in cc)

pub or_second : (a b : Bool) → b ≡ true → (a || b) ≡ true
or_second true b is = refl
or_second false b is = is

-- all places are among them
pub all_among : (spans : List Span) (places : List ℕ) (n : ℕ) → n ≡ length spans → places ≡ range_with_len 0 n → AreAmong spans places
all_among spans places n many are i d within opened =
    let below : i < n = omega (arith, many) in
    ap (list_any (eqb i)) are ∙ list_any-range i n ∙ lt-ltb i n below

-- one span more, with its place
pub among_pushed : (spans new : List Span) (places more : List ℕ) (span : Span) (n : ℕ) → n ≡ length spans → new ≡ spans ++ span ∷ [] → more ≡ places ++ n ∷ []
    → AreAmong spans places → AreAmong new more
among_pushed spans new places more span n many pushed added among i d within opened =
    ap (list_any (eqb i)) added ∙ list_any-append (eqb i) places (n ∷ []) ∙ from (cases_lt i (length spans)) where
      from : ((i < length spans) ⊎ (length spans ≤ i)) → (list_any (eqb i) places || list_any (eqb i) (n ∷ [])) ≡ true
      from (inl less) =
          let same : get_or new i d ≡ get_or spans i d = ap (λ l. get_or l i d) pushed ∙ get_or_append_left spans (span ∷ []) d i less in
          or_first (list_any (eqb i) places) (list_any (eqb i) (n ∷ [])) (among i d less (sym (ap is_open same) ∙ opened))
      from (inr past) =
          let long : length new ≡ length spans + 1 = ap length pushed ∙ length_push spans span in
          let last : i ≡ n = omega (arith, many, long, within, past) in
          or_second (list_any (eqb i) places) (list_any (eqb i) (n ∷ [])) (or_first (eqb i n) false (eq-eqb i n last))

-- one number more
pub range_more : (n : ℕ) → range_with_len 0 (n + 1) ≡ range_with_len 0 n ++ n ∷ []
range_more n =
    let whole : 0 + n ≡ n = omega arith in
    sym (map-id (range_with_len 0 (n + 1))) ∙ map-range_with_len_more (λ (x : ℕ). x) 0 n n whole
    ∙ ap (λ l. l ++ n ∷ []) (map-id (range_with_len 0 n))
