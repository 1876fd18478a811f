-- What is kept of a line tells as much as the line.
use Rattle.std.proofs.Common.{◌≡◌, ℕ, suc, ◌+◌, ◌-◌, ◌<◌, ◌≤◌, min, arith, length, take, Bool, List, [], ◌∷◌, ◌++◌, Option, Some, None, Err, zero, eqb, ltb, true, false, cond, sym, refl, ap, ◌∙◌, inl, inr, length-append, drop, get_or, drop-cons, get_or-take, take-append-drop, subst}
use Rattle.std.specs.Prelude.{◌==◌, ◌&&◌, ◌||◌, not}
use Rattle.std.specs.Cmp.Derive.{both_true}
use Rattle.std.proofs.lemmas.Bool.{cases_lt, true≢false, and_parts, eqb-true, ne_eqb}
use Rattle.std.proofs.lemmas.List.{take_all, take-take, length-take, take-append-le, length-take-le}
use Rattle.std.proofs.lemmas.Bool.Decides.{nat_tests}
use Rattle.std.proofs.lemmas.Fmt.{length-decimal-le}
use Rattle.std.proofs.Math.Dec.{eqb-suc-zero}
use Rattle.std.proofs.Math.Seq.{take-append-add}
use Rattle.mls_facts.specs.Decimals.{decimal_within}
use Rattle.mls_facts.proofs.Decimals.{decimal-limit, decimal-text}
use Rattle.mls_journal.proofs.Laws.{lacks}
use Rattle.mls_lines.specs.declared.fault.LineFault.TheVariants.{BadForm}
use Rattle.mls_lines.specs.Names.{Names}
use Rattle.mls_lines.specs.ScriptLine.{line_of}
use Rattle.mls_durable.specs.Sessions.{before_space, at_space, behind_mark, marked, numbered, spaced, has_variable, without_variable, Heard, heard_at, heard, SaysSame, kept_of}
use Rattle.mls_durable.specs.declared.address.TheConstants.{MAX_SESSION}
use Rattle.mls_durable.specs.declared.address.Who.TheVariants.{Script, Session, Trial}
use Rattle.mls_durable.specs.declared.options.Asker.{Asker}
use Rattle.mls_durable.specs.declared.options.Asker.TheVariants as asker

take-joined : (n : ℕ) (l m : List ℕ) → take n (take n l ++ m) ≡ take n (l ++ m)
take-joined n l m =
    elim (cases_lt n (length l)) [
      | inl long ↦
          take-append-le n (take n l) m (omega (arith, length-take-le n l (omega arith)))
          ∙ take-take n n l (omega arith) ∙ sym (take-append-le n l m (omega arith))
      | inr fits ↦ ap (λ t. take n (t ++ m)) (take_all n l fits)
    ]

-- what is kept of a line with more bytes
pub kept_of-joined : (line more : List ℕ) → kept_of (kept_of line ++ more) ≡ kept_of (line ++ more)
kept_of-joined line more = take-joined 20014 line more

-- as many as there are, or as there is room for
same_front : (m : List ℕ) (c k : ℕ) → c ≡ min (length m) k → take c m ≡ take k m
same_front m c k is =
    elim (cases_lt k (length m)) [
      | inl long ↦ ap (λ n. take n m) (let e : c ≡ k = omega arith in e)
      | inr fits ↦ take_all c m (omega arith) ∙ sym (take_all k m fits)
    ]

-- as many more bytes as there is room for
kept_of-grown : (line more : List ℕ) (count : ℕ) → length line ≤ 20014 → count ≡ min (length more) (20014 - length line) → line ++ take count more ≡ kept_of (line ++ more)
kept_of-grown line more count fits is =
    ap (λ t. line ++ t) (same_front more count (20014 - length line) is)
    ∙ sym (ap (λ n. take n (line ++ more)) (let e : 20014 ≡ length line + (20014 - length line) = omega arith in e) ∙ take-append-add line more (20014 - length line))

-- a line that was extended by as many more bytes as there is room for
pub kept_of-extended : (line more new : List ℕ) (count len : ℕ) → new ≡ line ++ take count more → len ≡ length line → len ≤ 20014
    → count ≡ min (length more) (20014 - len) → new ≡ kept_of (line ++ more)
kept_of-extended line more new count len grown is fits counted =
    grown ∙ kept_of-grown line more count (omega arith) (rw is at counted)

pub length-kept_of : (kept line : List ℕ) → kept ≡ kept_of line → length kept ≤ 20014
length-kept_of kept line is =
    elim (cases_lt 20014 (length line)) [
      | inl long ↦ rw is (omega (arith, length-take-le 20014 line (omega arith)))
      | inr fits ↦ rw is (rw (take_all 20014 line fits) fits)
    ]

take_nothing : (n : ℕ) (line : List ℕ) → 0 < n → take n line ≡ [] → line ≡ []
take_nothing n [] h is = refl
take_nothing n (b ∷ line) h is = absurd (omega (arith, length-take n (b ∷ line), ap length is))

-- nothing is kept of what is empty alone
pub kept_nothing : (kept line : List ℕ) → true ≡ eqb (length kept) 0 → kept ≡ kept_of line → line ≡ []
kept_nothing [] line h is = take_nothing 20014 line (omega arith) (sym is)
kept_nothing (b ∷ kept) line h is = absurd (true≢false (h ∙ eqb-suc-zero (length kept)))

pub kept_none : (kept line : List ℕ) → kept ≡ [] → kept ≡ kept_of line → line ≡ []
kept_none kept line none is = take_nothing 20014 line (omega arith) (sym is ∙ none)

pub kept_some : (kept line : List ℕ) → 0 < length kept → kept ≡ kept_of line → 0 < length line
kept_some kept line some is = omega (arith, some, ap length is, length-take 20014 line)

-- a line that is too long

module _ (names : Names) (vars : List (List ℕ × ℕ)) where
  too_long : (line : List ℕ) → 20000 < length line → line_of names vars line ≡ Err BadForm
  too_long line long = let whole : ltb 20000 (length line) ≡ true = grind (arith, nat_tests) in rw whole refl

  without_bad : (has : Bool) → without_variable has (Err BadForm) ≡ Err BadForm
  without_bad true = refl
  without_bad false = refl

  plain_long : (line : List ℕ) → 20000 < length line → without_variable (has_variable true line) (line_of names vars line) ≡ Err BadForm
  plain_long line long = ap (without_variable (has_variable true line)) (too_long line long) ∙ without_bad (has_variable true line)

  -- two lines of a session that are too long say the same
  session_long : (k : ℕ) (a b : List ℕ) → 20000 < length a → 20000 < length b → heard_at names vars (Session k, a) ≡ heard_at names vars (Session k, b)
  session_long k a b long_a long_b = ap (λ said. record { who = Session k; said = said }) (plain_long a long_a ∙ sym (plain_long b long_b))

  trial_long : (k : ℕ) (a b : List ℕ) → 20000 < length a → 20000 < length b → heard_at names vars (Trial k, a) ≡ heard_at names vars (Trial k, b)
  trial_long k a b long_a long_b = ap (λ said. record { who = Trial k; said = said }) (plain_long a long_a ∙ sym (plain_long b long_b))

  if_marked : (k m : ℕ) (a b : ℕ) (line : List ℕ) (mark : Bool) → 20000 < m → m ≤ length line
      → heard_at names vars (marked k (a ∷ b ∷ take m line) (cond mark (Some (take m line)) None)) ≡ heard_at names vars (marked k (a ∷ b ∷ line) (cond mark (Some line) None))
  if_marked k m a b line true long few = trial_long k (take m line) line (omega (arith, long, few, length-take-le m line few)) (omega (arith, long, few))
  if_marked k m a b line false long few =
      session_long k (a ∷ b ∷ take m line) (a ∷ b ∷ line) (omega (arith, long, few, length-take-le m line few)) (omega (arith, long, few))

  -- a front of a session's line that is too long
  marked_front : (k m : ℕ) (line : List ℕ) → 20003 ≤ m → m ≤ length line → heard_at names vars (marked k (take m line) (behind_mark (take m line))) ≡ heard_at names vars (marked k line (behind_mark line))
  marked_front k m [] long few = absurd (omega (arith, long, few))
  marked_front k m (a ∷ []) long few = absurd (omega (arith, long, few))
  marked_front k zero (a ∷ b ∷ line) long few = absurd (omega (arith, long))
  marked_front k (suc zero) (a ∷ b ∷ line) long few = absurd (omega (arith, long))
  marked_front k (suc (suc m)) (a ∷ b ∷ line) long few = if_marked k m a b line ((a == 63) && (b == 32)) (omega (arith, long)) (omega (arith, few))

  numbered_front : (n : Option ℕ) (m : ℕ) (line : List ℕ) → 20003 ≤ m → m ≤ length line → heard_at names vars (numbered n (take m line)) ≡ heard_at names vars (numbered n line)
  numbered_front None m line long few = refl
  numbered_front (Some k) m line long few = marked_front k m line long few

-- what stands before the first space of a front of a line

not_true : (t : Bool) → not t ≡ true → t ≡ false
not_true true h = cc
not_true false h = refl

none_some : (p : List ℕ × List ℕ) → ◌≡◌ {A = Option (List ℕ × List ℕ)} None (Some p) → ⊥
none_some p same = cc

if_space : (t : Bool) (b : ℕ) (line : List ℕ) → (b == 32) ≡ t → at_space (b ∷ line) ≡ cond t (Some ([], line)) (before_space b (at_space line))
if_space t b line is = ap (λ u. cond u (Some ([], line)) (before_space b (at_space line))) is

-- what was split, put together again
abbrev Splits : List ℕ → Type 0
Splits line = (e s : List ℕ) → at_space line ≡ Some (e, s) → (line ≡ e ++ 32 ∷ s) × (lacks 32 e ≡ true)

pub split_there : (line d r : List ℕ) → at_space line ≡ Some (d, r) → (line ≡ d ++ 32 ∷ r) × (lacks 32 d ≡ true)
split_there [] d r is = absurd (none_some (d, r) is)
split_there (b ∷ line) d r is = by_test (λ e s same. split_there line e s same) (b == 32) refl where
  behind : Splits line → (o : Option (List ℕ × List ℕ)) → (b == 32) ≡ false → at_space line ≡ o → before_space b o ≡ Some (d, r) → (b ∷ line ≡ d ++ 32 ∷ r) × (lacks 32 d ≡ true)
  behind more None other there same = absurd (none_some (d, r) same)
  behind later (Some p) other there same =
      let pair : ◌≡◌ {A = List ℕ × List ℕ} (b ∷ p.0, p.1) (d, r) = cc in
      let front : b ∷ p.0 ≡ d = ap (λ (q : List ℕ × List ℕ). q.0) pair in
      let left : p.1 ≡ r = ap (λ (q : List ℕ × List ℕ). q.1) pair in
      let more = later p.0 p.1 there in (
        ap (λ (l : List ℕ). b ∷ l) more.0 ∙ ap (λ (l : List ℕ). l ++ 32 ∷ p.1) front ∙ ap (λ (l : List ℕ). d ++ 32 ∷ l) left,
        subst (λ (l : List ℕ). lacks 32 l ≡ true) front (both_true (ap not other) more.1),
      )

  by_test : Splits line → (t : Bool) → (b == 32) ≡ t → (b ∷ line ≡ d ++ 32 ∷ r) × (lacks 32 d ≡ true)
  by_test later true here =
      let same : ◌≡◌ {A = Option (List ℕ × List ℕ)} (Some ([], line)) (Some (d, r)) = sym (if_space true b line here) ∙ is in
      let pair : ◌≡◌ {A = List ℕ × List ℕ} ([], line) (d, r) = cc in
      let none : [] ≡ d = ap (λ (q : List ℕ × List ℕ). q.0) pair in
      let left : line ≡ r = ap (λ (q : List ℕ × List ℕ). q.1) pair in (
        ap (λ (c : ℕ). c ∷ line) (eqb-true b 32 here) ∙ ap (λ (l : List ℕ). 32 ∷ l) left ∙ ap (λ (l : List ℕ). l ++ 32 ∷ r) none,
        subst (λ (l : List ℕ). lacks 32 l ≡ true) none refl,
      )
  by_test later false here = behind later (at_space line) here refl (sym (if_space false b line here) ∙ is)

pub split_here : (d r : List ℕ) → lacks 32 d ≡ true → at_space (d ++ 32 ∷ r) ≡ Some (d, r)
split_here [] r h = refl
split_here (b ∷ d) r h =
    let parts = and_parts (not (b == 32)) (lacks 32 d) h in
    if_space false b (d ++ 32 ∷ r) (not_true (b == 32) parts.0) ∙ ap (before_space b) (split_here d r parts.1)

pub split_none : (line : List ℕ) → lacks 32 line ≡ true → at_space line ≡ None
split_none [] h = refl
split_none (b ∷ line) h =
    let parts = and_parts (not (b == 32)) (lacks 32 line) h in
    if_space false b line (not_true (b == 32) parts.0) ∙ ap (before_space b) (split_none line parts.1)

lacks_there : (line : List ℕ) → at_space line ≡ None → lacks 32 line ≡ true
lacks_there [] is = refl
lacks_there (b ∷ line) is = by_test (λ none. lacks_there line none) (b == 32) refl where
  behind : (o : Option (List ℕ × List ℕ)) → at_space line ≡ o → before_space b o ≡ None → at_space line ≡ None
  behind None there same = there
  behind (Some p) there same = absurd (none_some (b ∷ p.0, p.1) (sym same))

  by_test : (at_space line ≡ None → lacks 32 line ≡ true) → (t : Bool) → (b == 32) ≡ t → lacks 32 (b ∷ line) ≡ true
  by_test later true here = absurd (none_some ([], line) (sym is ∙ if_space true b line here))
  by_test later false here = both_true (ap not here) (later (behind (at_space line) refl (sym (if_space false b line here) ∙ is)))

lacks_take : (n : ℕ) (line : List ℕ) → lacks 32 line ≡ true → lacks 32 (take n line) ≡ true
lacks_take zero line h = refl
lacks_take (suc n) [] h = refl
lacks_take (suc n) (b ∷ line) h =
    let parts = and_parts (not (b == 32)) (lacks 32 line) h in
    both_true parts.0 (lacks_take n line parts.1)

-- by the places that hold a space
pub no_space : (line : List ℕ) → ((k : ℕ) → k < length line → get_or line k 0 ≡ 32 → ⊥) → lacks 32 line ≡ true
no_space [] none = refl
no_space (b ∷ line) none =
    both_true (ap not (ne_eqb b 32 (none 0 (omega arith))))
    (no_space line (λ k h. none (suc k) (omega arith)))

either_false : (here t more : Bool) → t ≡ false → more ≡ false → (here && t) || more ≡ false
either_false true t more is others = ap (λ u. u || more) is ∙ others
either_false false t more is others = others

-- a line without the byte has no variable
pub no_variable : (here : Bool) (line : List ℕ) → ((k : ℕ) → k < length line → get_or line k 0 ≡ 36 → ⊥) → has_variable here line ≡ false
no_variable here [] none = refl
no_variable here (b ∷ line) none =
    either_false here (b == 36) (has_variable (b == 32) line) (ne_eqb b 36 (none 0 (omega arith)))
    (no_variable (b == 32) line (λ k h. none (suc k) (omega arith)))

pub first_space : (line front back rest : List ℕ) (n : ℕ) → n < length line → ((k : ℕ) → k < n → get_or line k 0 ≡ 32 → ⊥) → get_or line n 0 ≡ 32
    → front ≡ take n line → back ≡ drop n line → rest ≡ drop 1 back → at_space line ≡ Some (front, rest)
first_space line front back rest n within none_before here is_front is_back is_rest =
    let begins : drop n line ≡ 32 ∷ drop (suc n) line = drop-cons line n 0 within ∙ ap (λ b. b ∷ drop (suc n) line) here in
    let is : rest ≡ drop (suc n) line = is_rest ∙ ap (drop 1) (is_back ∙ begins) in
    let clean : lacks 32 front ≡ true =
    ap (lacks 32) is_front ∙ no_space (take n line) (λ k h e. let below : k < n = omega (arith, length-take-le n line (omega arith)) in none_before k below (sym (get_or-take n line k 0 below) ∙ e)) in
    let whole : line ≡ front ++ 32 ∷ rest = sym (take-append-drop n line) ∙ ap (λ f. f ++ drop n line) (sym is_front) ∙ ap (λ d. front ++ d) (begins ∙ ap (λ r. 32 ∷ r) (sym is)) in
    ap at_space whole ∙ split_here front rest clean

-- a session's number is short
short_number : (d : List ℕ) (k : ℕ) → decimal_within MAX_SESSION d ≡ Some k → length d ≤ 10
short_number d k is =
    let few : k ≤ MAX_SESSION = decimal-limit MAX_SESSION (omega arith) d k is in
    omega (arith, ap length (decimal-text MAX_SESSION (omega arith) d k is), length-decimal-le 10 k (omega arith) (omega (arith, few)) (omega (arith, few)))

module _ (names : Names) (vars : List (List ℕ × ℕ)) where
  abbrev said_at : Option (List ℕ × List ℕ) → Heard
  said_at o = heard_at names vars (spaced o)

  long_digits : (d r : List ℕ) (o : Option ℕ) → decimal_within MAX_SESSION d ≡ o → 10 < length d → said_at (Some (d, r)) ≡ said_at None
  long_digits d r None is long = ap (λ x. heard_at names vars (numbered x r)) is
  long_digits d r (Some k) is long = absurd (omega (arith, long, short_number d k is))

  cut_short : (d r : List ℕ) → 20014 < length (d ++ 32 ∷ r) → lacks 32 d ≡ true → length d ≤ 10 → said_at (at_space (take 20014 (d ++ 32 ∷ r))) ≡ said_at (Some (d, r))
  cut_short d r long clean few =
      let m = 20014 - length d - 1 in
      let front : take 20014 (d ++ 32 ∷ r) ≡ d ++ 32 ∷ take m r =
      ap (λ n. take n (d ++ 32 ∷ r)) (let e : 20014 ≡ length d + suc m = omega (arith, few) in e) ∙ take-append-add d (32 ∷ r) (suc m) in
      ap said_at (ap at_space front ∙ split_here d (take m r) clean) ∙ numbered_front names vars (decimal_within MAX_SESSION d) m r (omega (arith, few)) (omega (arith, long, length-append d (32 ∷ r)))

  cut_long : (d r : List ℕ) → lacks 32 d ≡ true → 10 < length d → said_at (at_space (take 20014 (d ++ 32 ∷ r))) ≡ said_at (Some (d, r))
  cut_long d r clean long =
      elim (cases_lt (length d) 20014) [
        | inl short ↦
            let m = 20014 - length d - 1 in
            let front : take 20014 (d ++ 32 ∷ r) ≡ d ++ 32 ∷ take m r =
            ap (λ n. take n (d ++ 32 ∷ r)) (let e : 20014 ≡ length d + suc m = omega (arith, short) in e) ∙ take-append-add d (32 ∷ r) (suc m) in
            ap said_at (ap at_space front ∙ split_here d (take m r) clean) ∙ long_digits d (take m r) (decimal_within MAX_SESSION d) refl long ∙ sym (long_digits d r (decimal_within MAX_SESSION d) refl long)
        | inr over ↦
            let front : take 20014 (d ++ 32 ∷ r) ≡ take 20014 d = take-append-le 20014 d (32 ∷ r) (omega (arith, over)) in
            ap said_at (ap at_space front ∙ split_none (take 20014 d) (lacks_take 20014 d clean)) ∙ sym (long_digits d r (decimal_within MAX_SESSION d) refl long)
      ]

  cut_at_space : (line : List ℕ) (o : Option (List ℕ × List ℕ)) → at_space line ≡ o → 20014 < length line → said_at (at_space (take 20014 line)) ≡ said_at (at_space line)
  cut_at_space line None is long =
      ap said_at (split_none (take 20014 line) (lacks_take 20014 line (lacks_there line is)) ∙ sym is)
  cut_at_space line (Some p) is long =
      let parts = split_there line p.0 p.1 is in
      ap (λ (l : List ℕ). said_at (at_space (take 20014 l))) parts.0
      ∙ elim (cases_lt 10 (length p.0)) [
        | inl far ↦ cut_long p.0 p.1 parts.1 far
        | inr near ↦ cut_short p.0 p.1 (omega (arith, long, ap length parts.0)) parts.1 near
      ]
      ∙ ap said_at (sym is)

  heard_kept : (a : Asker) (line : List ℕ) → heard names a vars (kept_of line) ≡ heard names a vars line
  heard_kept a line = elim (cases_lt 20014 (length line)) [ inl long ↦ cut a long | inr fits ↦ ap (heard names a vars) (take_all 20014 line fits) ] where
    cut : (a : Asker) → 20014 < length line → heard names a vars (kept_of line) ≡ heard names a vars line
    cut (asker.Session k) long = ap (λ said. record { who = Script k; said = said })
        (too_long names vars (take 20014 line) (omega (arith, long, length-take-le 20014 line (omega (arith, long)))) ∙ sym (too_long names vars line (omega (arith, long))))
    cut asker.EachLine long = cut_at_space line (at_space line) refl long

-- a line of which a beginning was kept says what the line says
pub kept_says : (names : Names) (a : Asker) (kept line last keeps : List ℕ) → kept ≡ kept_of line → keeps ≡ kept_of (kept ++ last) → SaysSame names a (line ++ last) keeps
kept_says names a kept line last keeps is keeps_is vars =
    let all : keeps ≡ kept_of (line ++ last) = keeps_is ∙ ap (λ l. kept_of (l ++ last)) is ∙ kept_of-joined line last in
    sym (heard_kept names vars a (line ++ last)) ∙ ap (heard names a vars) (sym all)
