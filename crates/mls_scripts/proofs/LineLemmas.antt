-- The lines of a script that comes in pieces.
use Rattle.std.proofs.Common.{◌≡◌, ℕ, suc, ◌<◌, arith, length, get_or, take, drop, Bool, true, false, ◌||◌, List, [], ◌∷◌, ◌++◌, eqb, cond, sym, refl, ap, ◌∙◌, append_assoc, take-append-drop, drop-cons, get_or-take, length-append}
use Rattle.std.proofs.lemmas.List.{length-take-le, take_all, drop_all}
use Rattle.std.proofs.Math.Dec.{eqb-suc-zero}
use Rattle.std.proofs.lemmas.Bool.{ne_eqb, true≢false}
use Rattle.mls_scripts.specs.Lines.{onto_first, lines_of, has_newline, closed_part, open_part, closed_lines, Cuts}

or_true : (a b : Bool) → b ≡ true → (a || b) ≡ true
or_true true b h = refl
or_true false b h = h

pub has_newline-append : (xs ys : List ℕ) → has_newline (xs ++ ys) ≡ (has_newline xs || has_newline ys)
has_newline-append [] ys = refl
has_newline-append (x ∷ xs) ys =
    elim (eqb x 10) as (λ t. (t || has_newline (xs ++ ys)) ≡ ((t || has_newline xs) || has_newline ys)) [ true ↦ refl | false ↦ has_newline-append xs ys ]

stays_true : (xs ys : List ℕ) → has_newline xs ≡ true → has_newline (xs ++ ys) ≡ true
stays_true xs ys h = has_newline-append xs ys ∙ ap (λ t. t || has_newline ys) h

closed_when : (b : ℕ) (r : List ℕ) → has_newline (b ∷ r) ≡ true → closed_part (b ∷ r) ≡ b ∷ closed_part r
closed_when b r h = ap (λ t. cond t (b ∷ closed_part r) []) h

closed_not : (b : ℕ) (r : List ℕ) → has_newline (b ∷ r) ≡ false → closed_part (b ∷ r) ≡ []
closed_not b r h = ap (λ t. cond t (b ∷ closed_part r) []) h

open_when : (b : ℕ) (r : List ℕ) → has_newline (b ∷ r) ≡ true → open_part (b ∷ r) ≡ open_part r
open_when b r h = ap (λ t. cond t (open_part r) (b ∷ r)) h

open_not : (b : ℕ) (r : List ℕ) → has_newline (b ∷ r) ≡ false → open_part (b ∷ r) ≡ b ∷ r
open_not b r h = ap (λ t. cond t (open_part r) (b ∷ r)) h

-- no newline: nothing is closed
pub closed_none : (r : List ℕ) → has_newline r ≡ false → closed_part r ≡ []
closed_none [] h = refl
closed_none (b ∷ r) h = closed_not b r h

pub open_none : (r : List ℕ) → has_newline r ≡ false → open_part r ≡ r
open_none [] h = refl
open_none (b ∷ r) h = open_not b r h

pub open_part_is_open : (r : List ℕ) → has_newline (open_part r) ≡ false
open_part_is_open [] = refl
open_part_is_open (b ∷ r) =
    let P : Bool → Type 0 = λ t. has_newline (b ∷ r) ≡ t → has_newline (open_part (b ∷ r)) ≡ false in
    let cases : (t : Bool) → P t = λ t. elim t as P [
      | true ↦ λ h. ap has_newline (open_when b r h) ∙ open_part_is_open r
      | false ↦ λ h. ap has_newline (open_not b r h) ∙ h
    ] in
    cases (has_newline (b ∷ r)) refl

pub closed-append : (r p : List ℕ) → closed_part (r ++ p) ≡ closed_part r ++ closed_part (open_part r ++ p)
closed-append [] p = refl
closed-append (b ∷ r) p =
    let P : Bool → Type 0 = λ t. has_newline (b ∷ r) ≡ t → closed_part (b ∷ (r ++ p)) ≡ closed_part (b ∷ r) ++ closed_part (open_part (b ∷ r) ++ p) in
    let cases : (t : Bool) → P t = λ t. elim t as P [
      | true ↦ λ h. closed_when b (r ++ p) (stays_true (b ∷ r) p h) ∙ ap (λ c. b ∷ c) (closed-append r p)
          ∙ ap (λ c. c ++ closed_part (open_part r ++ p)) (sym (closed_when b r h))
          ∙ ap (λ o. closed_part (b ∷ r) ++ closed_part (o ++ p)) (sym (open_when b r h))
      | false ↦ λ h. ap (λ o. closed_part (o ++ p)) (sym (open_not b r h)) ∙ ap (λ c. c ++ closed_part (open_part (b ∷ r) ++ p)) (sym (closed_not b r h))
    ] in
    cases (has_newline (b ∷ r)) refl

pub open-append : (r p : List ℕ) → open_part (r ++ p) ≡ open_part (open_part r ++ p)
open-append [] p = refl
open-append (b ∷ r) p =
    let P : Bool → Type 0 = λ t. has_newline (b ∷ r) ≡ t → open_part (b ∷ (r ++ p)) ≡ open_part (open_part (b ∷ r) ++ p) in
    let cases : (t : Bool) → P t = λ t. elim t as P [
      | true ↦ λ h. open_when b (r ++ p) (stays_true (b ∷ r) p h) ∙ open-append r p ∙ ap (λ o. open_part (o ++ p)) (sym (open_when b r h))
      | false ↦ λ h. ap (λ o. open_part (o ++ p)) (sym (open_not b r h))
    ] in
    cases (has_newline (b ∷ r)) refl

-- the closed part, and then the open part
pub closed_then_open : (r : List ℕ) → r ≡ closed_part r ++ open_part r
closed_then_open [] = refl
closed_then_open (b ∷ r) =
    let P : Bool → Type 0 = λ t. has_newline (b ∷ r) ≡ t → b ∷ r ≡ closed_part (b ∷ r) ++ open_part (b ∷ r) in
    let cases : (t : Bool) → P t = λ t. elim t as P [
      | true ↦ λ h. ap (λ x. b ∷ x) (closed_then_open r) ∙ ap (λ c. c ++ open_part r) (sym (closed_when b r h)) ∙ ap (λ o. closed_part (b ∷ r) ++ o) (sym (open_when b r h))
      | false ↦ λ h. sym (open_not b r h) ∙ ap (λ c. c ++ open_part (b ∷ r)) (sym (closed_not b r h))
    ] in
    cases (has_newline (b ∷ r)) refl

-- a byte begins a line
lines_begin : (b : ℕ) (xs : List ℕ) → (line : List ℕ) × (lines : List (List ℕ)) × (lines_of (b ∷ xs) ≡ line ∷ lines)
lines_begin b xs =
    let onto : (ls : List (List ℕ)) → (line : List ℕ) × (lines : List (List ℕ)) × (onto_first b ls ≡ line ∷ lines) =
    λ ls. elim ls as (λ (ls : List (List ℕ)). (line : List ℕ) × (lines : List (List ℕ)) × (onto_first b ls ≡ line ∷ lines)) [ [] ↦ (b ∷ [], [], refl) | l ∷ ls ↦ (b ∷ l, ls, refl) ] in
    elim (eqb b 10) as (λ t. (line : List ℕ) × (lines : List (List ℕ)) × (cond t ([] ∷ lines_of xs) (onto_first b (lines_of xs)) ≡ line ∷ lines))
    [ true ↦ ([], lines_of xs, refl) | false ↦ onto (lines_of xs) ]

onto_append : (b : ℕ) (front back : List (List ℕ)) → ((line : List ℕ) × (lines : List (List ℕ)) × (front ≡ line ∷ lines)) → onto_first b (front ++ back) ≡ onto_first b front ++ back
onto_append b front back (line, lines, e) =
    ap (λ f. onto_first b (f ++ back)) e ∙ ap (λ f. onto_first b f ++ back) (sym e)

closed_begins : (r : List ℕ) → has_newline r ≡ true → (line : List ℕ) × (lines : List (List ℕ)) × (lines_of (closed_part r) ≡ line ∷ lines)
closed_begins [] h = cc
closed_begins (b ∷ r) h =
    let found = lines_begin b (closed_part r) in
    (found.0, found.1, ap lines_of (closed_when b r h) ∙ found.2)

-- what is closed is lines, whatever follows
pub lines_of-closed : (r s : List ℕ) → lines_of (closed_part r ++ s) ≡ closed_lines r ++ lines_of s
lines_of-closed [] s = refl
lines_of-closed (b ∷ r) s =
    let here = closed_part r in
    let again : lines_of (here ++ s) ≡ lines_of here ++ lines_of s = lines_of-closed r s in
    let Q : Bool → Type 0 = λ t. has_newline (b ∷ r) ≡ true → eqb b 10 ≡ t →
    cond t ([] ∷ lines_of (here ++ s)) (onto_first b (lines_of (here ++ s))) ≡ cond t ([] ∷ lines_of here) (onto_first b (lines_of here)) ++ lines_of s in
    let inner : (t : Bool) → Q t = λ t. elim t as Q [
      | true ↦ λ h e. ap (λ ls. [] ∷ ls) again
      | false ↦ λ h e. ap (onto_first b) again ∙ onto_append b (lines_of here) (lines_of s) (closed_begins r (sym (ap (λ u. u || has_newline r) e) ∙ h))
    ] in
    let P : Bool → Type 0 = λ t. has_newline (b ∷ r) ≡ t → lines_of (closed_part (b ∷ r) ++ s) ≡ lines_of (closed_part (b ∷ r)) ++ lines_of s in
    let cases : (t : Bool) → P t = λ t. elim t as P [
      | true ↦ λ h. ap (λ c. lines_of (c ++ s)) (closed_when b r h) ∙ inner (eqb b 10) h refl ∙ ap (λ c. lines_of c ++ lines_of s) (sym (closed_when b r h))
      | false ↦ λ h. ap (λ c. lines_of (c ++ s)) (closed_not b r h) ∙ ap (λ c. lines_of c ++ lines_of s) (sym (closed_not b r h))
    ] in
    cases (has_newline (b ∷ r)) refl

-- the closed lines of a text in two pieces
pub closed_lines-append : (r p : List ℕ) → closed_lines (r ++ p) ≡ closed_lines r ++ closed_lines (open_part r ++ p)
closed_lines-append r p = ap lines_of (closed-append r p) ∙ lines_of-closed r (closed_part (open_part r ++ p))

-- the lines of a text: those that are closed, and those of what is open
pub lines_of-parts : (r : List ℕ) → lines_of r ≡ closed_lines r ++ lines_of (open_part r)
lines_of-parts r = ap lines_of (closed_then_open r) ∙ lines_of-closed r (open_part r)

first_or : (a b : Bool) → (a || b) ≡ false → a ≡ false
first_or true b h = h
first_or false b h = refl

second_or : (a b : Bool) → (a || b) ≡ false → b ≡ false
second_or true b h = cc
second_or false b h = h

-- a line alone
pub one_line : (b : ℕ) (line : List ℕ) → has_newline (b ∷ line) ≡ false → lines_of (b ∷ line) ≡ (b ∷ line) ∷ []
one_line b [] h = ap (λ t. cond t ([] ∷ []) ((b ∷ []) ∷ [])) (first_or (eqb b 10) false h)
one_line b (c ∷ line) h =
    ap (λ t. cond t ([] ∷ lines_of (c ∷ line)) (onto_first b (lines_of (c ∷ line)))) (first_or (eqb b 10) (has_newline (c ∷ line)) h)
    ∙ ap (onto_first b) (one_line c line (second_or (eqb b 10) (has_newline (c ∷ line)) h))

ends_with_newline : (line : List ℕ) → has_newline (line ++ 10 ∷ []) ≡ true
ends_with_newline line = has_newline-append line (10 ∷ []) ∙ or_true (has_newline line) true refl

-- a text that ends with a newline is closed
pub closed_whole : (line : List ℕ) → closed_part (line ++ 10 ∷ []) ≡ line ++ 10 ∷ []
closed_whole [] = refl
closed_whole (b ∷ line) = closed_when b (line ++ 10 ∷ []) (ends_with_newline (b ∷ line)) ∙ ap (λ c. b ∷ c) (closed_whole line)

pub open_whole : (line : List ℕ) → open_part (line ++ 10 ∷ []) ≡ []
open_whole [] = refl
open_whole (b ∷ line) = open_when b (line ++ 10 ∷ []) (ends_with_newline (b ∷ line)) ∙ open_whole line

ended_line : (line : List ℕ) → has_newline line ≡ false → lines_of (line ++ 10 ∷ []) ≡ line ∷ []
ended_line [] h = refl
ended_line (b ∷ line) h =
    ap (λ t. cond t ([] ∷ lines_of (line ++ 10 ∷ [])) (onto_first b (lines_of (line ++ 10 ∷ [])))) (first_or (eqb b 10) (has_newline line) h)
    ∙ ap (onto_first b) (ended_line line (second_or (eqb b 10) (has_newline line) h))

-- a newline ends the line
pub closed_lines-ended : (line : List ℕ) → has_newline line ≡ false → closed_lines (line ++ 10 ∷ []) ≡ line ∷ []
closed_lines-ended line h = ap lines_of (closed_whole line) ∙ ended_line line h

-- another byte doesn't
pub still_open : (line : List ℕ) (b : ℕ) → has_newline line ≡ false → eqb b 10 ≡ false → has_newline (line ++ b ∷ []) ≡ false
still_open line b h e = has_newline-append line (b ∷ []) ∙ ap (λ t. t || (eqb b 10 || false)) h ∙ ap (λ t. t || false) e

-- a newline closes the line
pub closed_by_newline : (line text : List ℕ) (byte : ℕ) → has_newline line ≡ false → text ≡ line → byte ≡ 10 → closed_lines (line ++ byte ∷ []) ≡ text ∷ []
closed_by_newline line text byte h same newline =
    ap (λ b. closed_lines (line ++ b ∷ [])) newline ∙ closed_lines-ended line h ∙ ap (λ t. t ∷ []) (sym same)

pub emptied_by_newline : (line : List ℕ) (byte : ℕ) → byte ≡ 10 → open_part (line ++ byte ∷ []) ≡ []
emptied_by_newline line byte newline = ap (λ b. open_part (line ++ b ∷ [])) newline ∙ open_whole line

goes_on : (line : List ℕ) (byte : ℕ) → has_newline line ≡ false → (byte ≡ 10 → ⊥) → has_newline (line ++ byte ∷ []) ≡ false
goes_on line byte h other = still_open line byte h (ne_eqb byte 10 other)

-- another byte closes none
pub not_closed : (line : List ℕ) (byte : ℕ) → has_newline line ≡ false → (byte ≡ 10 → ⊥) → closed_lines (line ++ byte ∷ []) ≡ []
not_closed line byte h other = ap lines_of (closed_none (line ++ byte ∷ []) (goes_on line byte h other))

pub line_grows : (line : List ℕ) (byte : ℕ) → has_newline line ≡ false → (byte ≡ 10 → ⊥) → open_part (line ++ byte ∷ []) ≡ line ++ byte ∷ []
line_grows line byte h other = open_none (line ++ byte ∷ []) (goes_on line byte h other)

-- what has no byte has no line
pub no_line : (line : List ℕ) → true ≡ eqb (length line) 0 → lines_of line ≡ []
no_line [] h = refl
no_line (b ∷ line) h = absurd (true≢false (h ∙ eqb-suc-zero (length line)))

-- bytes without a newline are one line
pub last_line : (line : List ℕ) → has_newline line ≡ false → false ≡ eqb (length line) 0 → lines_of line ≡ line ∷ []
last_line [] none h = absurd (true≢false (sym h))
last_line (b ∷ line) none h = one_line b line none

pub closed_lines-open : (line : List ℕ) → has_newline line ≡ false → closed_lines line ≡ []
closed_lines-open line none = ap lines_of (closed_none line none)

-- bytes that a newline ends are a line, whatever follows
pub closed_lines-cut : (line rest : List ℕ) → has_newline line ≡ false → closed_lines (line ++ 10 ∷ rest) ≡ line ∷ closed_lines rest
closed_lines-cut line rest none =
    ap closed_lines (sym (append_assoc line (10 ∷ []) rest)) ∙ closed_lines-append (line ++ 10 ∷ []) rest
    ∙ ap (λ ls. ls ++ closed_lines (open_part (line ++ 10 ∷ []) ++ rest)) (closed_lines-ended line none)
    ∙ ap (λ o. line ∷ closed_lines (o ++ rest)) (open_whole line)

pub open_part-cut : (line rest : List ℕ) → open_part (line ++ 10 ∷ rest) ≡ open_part rest
open_part-cut line rest =
    ap open_part (sym (append_assoc line (10 ∷ []) rest)) ∙ open-append (line ++ 10 ∷ []) rest ∙ ap (λ o. open_part (o ++ rest)) (open_whole line)

both_open : (a b : Bool) → a ≡ false → b ≡ false → (a || b) ≡ false
both_open true b h k = h
both_open false b h k = k

-- an open line with more bytes before a newline is a line
pub closed_lines-cuts : (line piece last rest : List ℕ) → has_newline line ≡ false → Cuts piece last rest
    → closed_lines (line ++ piece) ≡ (line ++ last) ∷ closed_lines rest
closed_lines-cuts line piece last rest none cuts =
    ap (λ p. closed_lines (line ++ p)) cuts.whole ∙ ap closed_lines (sym (append_assoc line last (10 ∷ rest)))
    ∙ closed_lines-cut (line ++ last) rest (has_newline-append line last ∙ both_open _ _ none cuts.line_open)

pub open_part-cuts : (line piece last rest : List ℕ) → Cuts piece last rest → open_part (line ++ piece) ≡ open_part rest
open_part-cuts line piece last rest cuts =
    ap (λ p. open_part (line ++ p)) cuts.whole ∙ ap open_part (sym (append_assoc line last (10 ∷ rest)))
    ∙ open_part-cut (line ++ last) rest

-- what stands after a line is shorter
pub shorter : (bytes line rest : List ℕ) → Cuts bytes line rest → length rest < length bytes
shorter bytes line rest cuts = omega (arith, ap length cuts.whole, length-append line (10 ∷ rest))

-- pieces without a newline
pub has_newline-joined : (line piece : List ℕ) → has_newline line ≡ false → has_newline piece ≡ false → has_newline (line ++ piece) ≡ false
has_newline-joined line piece none no_more = has_newline-append line piece ∙ both_open _ _ none no_more

-- no place holds a newline
pub no_newline : (bytes : List ℕ) → ((k : ℕ) → k < length bytes → get_or bytes k 0 ≡ 10 → ⊥) → has_newline bytes ≡ false
no_newline [] none = refl
no_newline (b ∷ bytes) none =
    both_open (eqb b 10) (has_newline bytes) (ne_eqb b 10 (none 0 (omega arith)))
    (no_newline bytes (λ k h. none (suc k) (omega arith)))

-- the first place that holds a newline ends the first line
pub first_newline : (bytes front back rest : List ℕ) (n : ℕ) → n < length bytes → ((k : ℕ) → k < n → get_or bytes k 0 ≡ 10 → ⊥) → get_or bytes n 0 ≡ 10
    → front ≡ take n bytes → back ≡ drop n bytes → rest ≡ drop 1 back → Cuts bytes front rest
first_newline bytes front back rest n within none_before here is_front is_back is_rest =
    let begins : drop n bytes ≡ 10 ∷ drop (suc n) bytes = drop-cons bytes n 0 within ∙ ap (λ b. b ∷ drop (suc n) bytes) here in
    let is : rest ≡ drop (suc n) bytes = is_rest ∙ ap (drop 1) (is_back ∙ begins) in
    record {
      line_open = ap has_newline is_front ∙ no_newline (take n bytes) (λ k h e. let below : k < n = omega (arith, length-take-le n bytes (omega arith)) in none_before k below (sym (get_or-take n bytes k 0 below) ∙ e));
      whole = sym (take-append-drop n bytes) ∙ ap (λ f. f ++ drop n bytes) (sym is_front) ∙ ap (λ d. front ++ d) (begins ∙ ap (λ r. 10 ∷ r) (sym is));
    }

-- the lines of bytes that begin with a line and its newline
pub lines_of-cuts : (bytes line rest : List ℕ) → Cuts bytes line rest → lines_of bytes ≡ line ∷ lines_of rest
lines_of-cuts bytes line rest cuts =
    ap lines_of (cuts.whole ∙ sym (append_assoc line (10 ∷ []) rest) ∙ ap (λ c. c ++ rest) (sym (closed_whole line)))
    ∙ lines_of-closed (line ++ 10 ∷ []) rest ∙ ap (λ ls. ls ++ lines_of rest) (closed_lines-ended line cuts.line_open)

-- bytes without a newline are one line, and nothing stands after it
pub lines_of-last : (bytes line rest : List ℕ) (n : ℕ) → has_newline bytes ≡ false → false ≡ eqb (length bytes) 0 → n ≡ length bytes → line ≡ take n bytes → rest ≡ drop n bytes
    → lines_of bytes ≡ line ∷ lines_of rest
lines_of-last bytes line rest n none some is front back =
    let same : line ≡ bytes = front ∙ take_all n bytes (omega arith) in
    let no_more : rest ≡ [] = back ∙ drop_all n bytes (omega arith) in
    last_line bytes none some ∙ ap (λ l. l ∷ []) (sym same) ∙ ap (λ r. line ∷ lines_of r) (sym no_more)
