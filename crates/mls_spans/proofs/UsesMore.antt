-- The uses of a permission with one entry more.
use Rattle.std.proofs.Common.{◌≡◌, ℕ, ◌+◌, Bool, true, false, cond, List, [], ◌∷◌, ◌++◌, length, Option, Some, None, refl, ap, ◌∙◌, append-nil}
use Rattle.std.specs.Prelude.{not, filter}
use Rattle.std.proofs.lemmas.List.{length_push}
use Rattle.std.proofs.lemmas.List.Elements.{filter-append}
use Rattle.mls_monitor.specs.Journal.{fold}
use Rattle.mls_requests.specs.declared.entry.Entry.{Entry}
use Rattle.mls_rules.specs.Rules.{reply, after}
use Rattle.mls_state.specs.State.{State}
use Rattle.mls_tables.specs.Triples.{Triple}
use Rattle.mls_spans.specs.Sweeping.{is_granted}
use Rattle.mls_spans.specs.Uses.{asked_over, is_use, uses_over, is_grant, is_denial, last_number, uses_of}
use Rattle.mls_spans.specs.Kept.{with_use}
use Rattle.mls_spans.specs.declared.uses.Uses.{Uses}

asked_push : (v : State) (es : List Entry) (e : Entry) → asked_over v (es ++ e ∷ []) ≡ asked_over v es ++ (fold v es, e) ∷ []
asked_push v [] e = refl
asked_push v (f ∷ es) e = λ i. (v, f) ∷ asked_push (after v f.request) es e i

last_push : (known : Option ℕ) (xs : List (State × Entry)) (a : State × Entry) → last_number known (xs ++ a ∷ []) ≡ Some a.1.number
last_push known [] a = refl
last_push known (b ∷ xs) a = last_push (Some b.1.number) xs a

count_by_test : (p : State × Entry → Bool) (xs : List (State × Entry)) (a : State × Entry) (b : Bool)
    → length (filter p xs ++ cond b (a ∷ []) []) ≡ cond b (length (filter p xs) + 1) (length (filter p xs))
count_by_test p xs a true = length_push (filter p xs) a
count_by_test p xs a false = ap length (append-nil (filter p xs))

count_push : (p : State × Entry → Bool) (xs : List (State × Entry)) (a : State × Entry)
    → length (filter p (xs ++ a ∷ [])) ≡ cond (p a) (length (filter p xs) + 1) (length (filter p xs))
count_push p xs a = ap length (filter-append p xs (a ∷ [])) ∙ count_by_test p xs a (p a)

swapped : (b : Bool) (x y : ℕ) → cond (not b) x y ≡ cond b y x
swapped true x y = refl
swapped false x y = refl

-- what is told of some uses
abbrev told : List (State × Entry) → Uses
told xs = record {
  granted = length (filter is_grant xs);
  denied = length (filter is_denial xs);
  last = last_number None xs;
}

told_push : (xs : List (State × Entry)) (a : State × Entry) → told (xs ++ a ∷ []) ≡ with_use (told xs) (is_grant a) a.1.number
told_push xs a =
    let denied : length (filter is_denial (xs ++ a ∷ [])) ≡ cond (is_grant a) (length (filter is_denial xs)) (length (filter is_denial xs) + 1) =
    count_push is_denial xs a ∙ swapped (is_grant a) (length (filter is_denial xs) + 1) (length (filter is_denial xs)) in
    λ i. record { granted = count_push is_grant xs a i; denied = denied i; last = last_push None xs a i }

told_more : (b : Bool) (xs : List (State × Entry)) (a : State × Entry)
    → told (xs ++ cond b (a ∷ []) []) ≡ cond b (with_use (told xs) (is_grant a) a.1.number) (told xs)
told_more true xs a = told_push xs a
told_more false xs a = ap told (append-nil xs)

uses_push : (v : State) (es : List Entry) (e : Entry) (t : Triple)
    → uses_over v (es ++ e ∷ []) t ≡ uses_over v es t ++ cond (is_use t (fold v es, e)) ((fold v es, e) ∷ []) []
uses_push v es e t = ap (filter (is_use t)) (asked_push v es e) ∙ filter-append (is_use t) (asked_over v es) ((fold v es, e) ∷ [])

pub uses_more : (v : State) (es : List Entry) (e : Entry) (t : Triple)
    → uses_of v (es ++ e ∷ []) t
    ≡ cond (is_use t (fold v es, e)) (with_use (uses_of v es t) (is_granted (reply (fold v es) e.request)) e.number) (uses_of v es t)
uses_more v es e t = ap told (uses_push v es e t) ∙ told_more (is_use t (fold v es, e)) (uses_over v es t) (fold v es, e)
