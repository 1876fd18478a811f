-- A script whose session is alone in what the journal got prints what `serve` answers.
use Rattle.std.proofs.Common.{◌≡◌, ℕ, ◌+◌, ◌≤◌, Bool, true, false, List, [], ◌∷◌, ◌++◌, length, Option, Some, refl, sym, ap, ◌∙◌, subst, arith, append-nil, append_assoc, ◌==◌}
use Rattle.std.specs.Prelude.{slice_get, if◌then◌else◌}
use Rattle.std.specs.FinSet as set
use Rattle.std.proofs.Math.Seq.{take-append_seam}
use mathlib.Core.List.{cons≢nil}
use Rattle.mls_rules.specs.Rules.{reply}
use Rattle.mls_requests.specs.declared.ask.Ask.{Ask}
use Rattle.mls_requests.specs.declared.ask.Ask.TheVariants.{Submit, Check}
use Rattle.mls_requests.specs.declared.entry.Entry.{Entry}
use Rattle.mls_monitor.specs.Journal.{IsLegal, fold}
use Rattle.mls_lines.specs.Names.{Names}
use Rattle.mls_monitor.specs.Feeds.{Exchange, IsTold, AreTold}
use Rattle.mls_monitor.specs.Entries.{of_session}
use Rattle.mls_monitor.specs.declared.feed.Answer.{Answer as Told}
use Rattle.mls_monitor.specs.declared.feed.Answer.TheVariants as told
use Rattle.mls_scripts.specs.Fed.{Prints}
use Rattle.mls_scripts.specs.Halves.{Asking, next_of, heard_by, vars_told, told_by, after_ask}
use Rattle.mls_scripts.specs.Script.{Standing, state_at, entry_for, answer_bytes, answers, after_lines}
use Rattle.mls_scripts.proofs.HalfSteps.{at_end, by_halves}

tail_of : List Entry → List Entry
tail_of [] = []
tail_of (e ∷ es) = es

if_short : (b : Bool) (e : Entry) (xs : List Entry) (n : ℕ) → length xs ≤ n → length (if b then e ∷ xs else xs) ≤ n + 1
if_short true e xs n le = omega arith
if_short false e xs n le = omega arith

short : (k : ℕ) (es : List Entry) → length (of_session k es) ≤ length es
short k [] = omega arith
short k (e ∷ es) = let s = if_short (e.session == k) e (of_session k es) (length es) (short k es) in omega arith

-- where all are the session's, the first and the others are
is_own : (b : Bool) (e : Entry) (xs es : List Entry) → (if b then e ∷ xs else xs) ≡ e ∷ es → length xs ≤ length es → (b ≡ true) × (xs ≡ es)
unfolding tail_of
is_own true e xs es same le = (refl, ap tail_of same)
is_own false e xs es same le = let l = ap (λ ys. length ys) same in absurd (omega arith)

module _ (k : ℕ) where
  all_own : (es fs : List Entry) → of_session k (es ++ fs) ≡ es ++ fs → of_session k es ≡ [] → (es ≡ []) × (of_session k fs ≡ fs)
  all_own [] fs only none = (refl, only)
  all_own (e ∷ es) fs only none =
      let mine = (is_own (e.session == k) e (of_session k (es ++ fs)) (es ++ fs) only (short k (es ++ fs))).0 in
      absurd (cons≢nil (ap (λ b. if b then e ∷ of_session k es else of_session k es) (sym mine) ∙ none))

  rest_own : (e : Entry) (fs : List Entry) → of_session k (e ∷ fs) ≡ e ∷ fs → of_session k fs ≡ fs
  rest_own e fs only = (is_own (e.session == k) e (of_session k fs) fs only (short k fs)).1

at_place : (xs ys : List Entry) (e : Entry) → slice_get (xs ++ e ∷ ys) (length xs) ≡ Some e
at_place [] ys e = refl
at_place (x ∷ xs) ys e = at_place xs ys e

-- an answer in the journal is the monitor's, and leaves the journal with its entry
told_is : (k : ℕ) (s : Standing) (first rest : List Entry) (bind : Option (List ℕ)) (a : Ask) (t : Told) → IsLegal s.start (s.entries ++ (first ++ rest)) → of_session k (first ++ rest) ≡ first ++ rest
    → IsTold s.start k s.entries a t first → (t ≡ told_by k s a) × ((after_ask k s (bind, a)).entries ≡ s.entries ++ first) × (of_session k rest ≡ rest)
told_is k s first rest bind (Submit r) (told.Entry e) legal only is =
    let cut : first ++ rest ≡ is.0 ++ (e ∷ rest) = ap (λ es. es ++ rest) is.1 ∙ append_assoc is.0 (e ∷ []) rest in
    let own = all_own k is.0 (e ∷ rest) (subst (λ es. of_session k es ≡ es) cut only) is.2 in
    let one : first ≡ e ∷ [] = is.1 ∙ ap (λ es. es ++ e ∷ []) own.0 in
    let here = legal (length s.entries) e (ap (λ es. slice_get (s.entries ++ es) (length s.entries)) (ap (λ es. es ++ rest) one) ∙ at_place s.entries rest e) in
    let replied : e.reply ≡ reply (state_at s) r =
    here.reply ∙ ap (λ es. reply (fold s.start es) e.request) (take-append_seam s.entries (first ++ rest)) ∙ ap (λ q. reply (state_at s) q) is.4 in
    let whole : e ≡ entry_for k s r = λ i. record { number = here.number i; session = is.3 i; reply = replied i; request = is.4 i } in
    (ap (λ x. told.Entry x) whole, ap (λ x. s.entries ++ x ∷ []) (sym whole) ∙ ap (λ es. s.entries ++ es) (sym one), rest_own k e rest own.1)
told_is k s first rest bind (Submit r) (told.Held held) legal only is = absurd is
told_is k s first rest bind (Check t o x) (told.Entry e) legal only is = absurd is
told_is k s first rest bind (Check t o x) (told.Held held) legal only is =
    let own = all_own k first rest only is.0 in
    let still : s.entries ++ first ≡ s.entries = ap (λ es. s.entries ++ es) own.0 ∙ append-nil s.entries in
    (ap (λ b. told.Held b) (is.1 ∙ ap (λ es. set.contains (fold s.start es).accesses (t, o, x)) still), sym still, own.1)

after_start : (k : ℕ) (s : Standing) (q : Asking) → (after_ask k s q).start ≡ s.start
after_start k s (bind, Submit r) = refl
after_start k s (bind, Check t o x) = refl

module _ (names : Names) (k : ℕ) where
  pub alone : (xs : List Exchange) (s : Standing) (since : List Entry) (lines : List (List ℕ)) (text : List ℕ) → IsLegal s.start (s.entries ++ since) → of_session k since ≡ since
      → AreTold s.start k s.entries since xs → Prints names s.vars lines xs text → (text ≡ answers names k s lines) × ((after_lines names k s lines).entries ≡ s.entries ++ since)
  alone [] s since lines text legal only are prints =
      let end = at_end names k s lines prints.0 in
      let none : since ≡ [] = sym only ∙ are in
      (prints.1 ∙ sym end.0, ap (λ t. t.entries) end.1 ∙ sym (append-nil s.entries) ∙ ap (λ es. s.entries ++ es) (sym none))
  alone (x ∷ xs) s since lines text legal only are prints =
      let first : List Entry = are.0 in
      let rest : List Entry = are.1 in
      let q : Asking = (prints.0, x.0) in
      let next : Standing = after_ask k s q in
      let halves = by_halves names k s lines q prints.2 in
      let step = told_is k s first rest prints.0 x.0 x.1 (subst (λ es. IsLegal s.start (s.entries ++ es)) are.2 legal) (subst (λ es. of_session k es ≡ es) are.2 only) are.3 in
      let whole : s.entries ++ since ≡ next.entries ++ rest =
      ap (λ es. s.entries ++ es) are.2 ∙ sym (append_assoc s.entries first rest) ∙ ap (λ es. es ++ rest) (sym step.1) in
      let starts : s.start ≡ next.start = sym (after_start k s q) in
      let later = alone xs next rest (next_of names s.vars lines).rest prints.1
      (subst (λ v. IsLegal v (next.entries ++ rest)) starts (subst (IsLegal s.start) whole legal)) step.2
      (subst (λ v. AreTold v k next.entries rest xs) starts (subst (λ es. AreTold s.start k es rest xs) (sym step.1) are.4))
      (subst (λ vs. Prints names vs (next_of names s.vars lines).rest xs prints.1) (ap (λ t. vars_told s.vars prints.0 (heard_by x.0 t)) step.0 ∙ sym halves.vars) prints.4) in (
        prints.3 ∙ ap (λ t. ((next_of names s.vars lines).text ++ answer_bytes (heard_by x.0 t)) ++ prints.1) step.0
            ∙ ap (λ t. ((next_of names s.vars lines).text ++ answer_bytes (heard_by x.0 (told_by k s x.0))) ++ t) later.0 ∙ sym halves.text,
        ap (λ t. t.entries) halves.stands ∙ later.1 ∙ sym whole,
      )
