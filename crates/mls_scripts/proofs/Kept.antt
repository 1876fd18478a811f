-- What is kept of a line tells as much as the line.
use Rattle.std.proofs.Common.{◌≡◌, ℕ, ◌+◌, ◌-◌, ◌<◌, ◌≤◌, min, arith, length, take, List, [], ◌∷◌, ◌++◌, eqb, ltb, true, false, sym, refl, ap, ◌∙◌, inl, inr}
use Rattle.std.proofs.lemmas.Bool.{cases_lt, true≢false}
use Rattle.std.proofs.lemmas.List.{take_all, take-take, length-take, take-append-le, length-take-le}
use Rattle.std.proofs.lemmas.Bool.Decides.{nat_tests}
use Rattle.std.proofs.Math.Dec.{eqb-suc-zero}
use Rattle.std.proofs.Math.Seq.{take-append-add}
use Rattle.mls_scripts.specs.Lines.{kept_of}
use Rattle.mls_lines.specs.Names.{Names}
use Rattle.mls_lines.specs.ScriptLine.{line_of}
use Rattle.mls_scripts.specs.Script.{Standing, answer_bytes, said_to, left_by, answer_to, after_line}

take-joined : (n : ℕ) (l m : List ℕ) → take n (take n l ++ m) ≡ take n (l ++ m)
take-joined n l m =
    elim (cases_lt n (length l)) [
      | inl long ↦
          take-append-le n (take n l) m (omega (arith, length-take-le n l (omega arith)))
          ∙ take-take n n l (omega arith) ∙ sym (take-append-le n l m (omega arith))
      | inr fits ↦ ap (λ t. take n (t ++ m)) (take_all n l fits)
    ]

-- what is kept of a line with more bytes
pub kept_of-joined : (line more : List ℕ) → kept_of (kept_of line ++ more) ≡ kept_of (line ++ more)
kept_of-joined line more = take-joined 20001 line more

-- as many as there are, or as there is room for
pub same_front : (m : List ℕ) (c k : ℕ) → c ≡ min (length m) k → take c m ≡ take k m
same_front m c k is =
    elim (cases_lt k (length m)) [
      | inl long ↦ ap (λ n. take n m) (let e : c ≡ k = omega arith in e)
      | inr fits ↦ take_all c m (omega arith) ∙ sym (take_all k m fits)
    ]

-- as many more bytes as there is room for
kept_of-grown : (line more : List ℕ) (count : ℕ) → length line ≤ 20001 → count ≡ min (length more) (20001 - length line) → line ++ take count more ≡ kept_of (line ++ more)
kept_of-grown line more count fits is =
    ap (λ t. line ++ t) (same_front more count (20001 - length line) is)
    ∙ sym (ap (λ n. take n (line ++ more)) (let e : 20001 ≡ length line + (20001 - length line) = omega arith in e) ∙ take-append-add line more (20001 - length line))

-- a line that was extended by as many more bytes as there is room for
pub kept_of-extended : (line more new : List ℕ) (count len : ℕ) → new ≡ line ++ take count more → len ≡ length line → len ≤ 20001
    → count ≡ min (length more) (20001 - len) → new ≡ kept_of (line ++ more)
kept_of-extended line more new count len grown is fits counted =
    grown ∙ kept_of-grown line more count (omega arith) (rw is at counted)

pub length-kept_of : (kept line : List ℕ) → kept ≡ kept_of line → length kept ≤ 20001
length-kept_of kept line is =
    elim (cases_lt 20001 (length line)) [
      | inl long ↦ rw is (omega (arith, length-take-le 20001 line (omega arith)))
      | inr fits ↦ rw is (rw (take_all 20001 line fits) fits)
    ]

take_nothing : (n : ℕ) (line : List ℕ) → 0 < n → take n line ≡ [] → line ≡ []
take_nothing n [] h is = refl
take_nothing n (b ∷ line) h is = absurd (omega (arith, length-take n (b ∷ line), ap length is))

-- nothing is kept of what is empty alone
pub kept_nothing : (kept line : List ℕ) → true ≡ eqb (length kept) 0 → kept ≡ kept_of line → line ≡ []
kept_nothing [] line h is = take_nothing 20001 line (omega arith) (sym is)
kept_nothing (b ∷ kept) line h is = absurd (true≢false (h ∙ eqb-suc-zero (length kept)))

pub kept_something : (kept line : List ℕ) → false ≡ eqb (length kept) 0 → kept ≡ kept_of line → false ≡ eqb (length line) 0
kept_something kept [] h is = h ∙ ap (λ k. eqb (length k) 0) (is ∙ take_all 20001 [] (omega arith))
kept_something kept (c ∷ line) h is = sym (eqb-suc-zero (length line))

-- both a line and what is kept of it are too long, or they are the same
pub line_of-kept : (names : Names) (vars : List (List ℕ × ℕ)) (line : List ℕ) → line_of names vars (kept_of line) ≡ line_of names vars line
line_of-kept names vars line =
    elim (cases_lt 20001 (length line)) [
      | inl long ↦
          let kept : ltb 20000 (length (kept_of line)) ≡ true = grind (arith, nat_tests, length-take-le 20001 line (omega arith)) in
          let whole : ltb 20000 (length line) ≡ true = grind (arith, nat_tests) in
          rw (kept, whole) refl
      | inr fits ↦ ap (line_of names vars) (take_all 20001 line fits)
    ]

pub answer_to-kept : (names : Names) (s : Standing) (line : List ℕ) → answer_to names s (kept_of line) ≡ answer_to names s line
unfolding answer_to
answer_to-kept names s line = ap (λ said. answer_bytes (said_to s said)) (line_of-kept names s.vars line)

pub after_line-kept : (names : Names) (session : ℕ) (s : Standing) (line : List ℕ) → after_line names session s (kept_of line) ≡ after_line names session s line
unfolding after_line
after_line-kept names session s line = ap (left_by session s) (line_of-kept names s.vars line)
