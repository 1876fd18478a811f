-- Labels that are added one after the other, where they aren't there yet, are those of a list in the order in which they first stand.
use Rattle.std.proofs.Common.{◌≡◌, ℕ, ◌+◌, Bool, true, false, cond, not, ◌||◌, List, [], ◌∷◌, ◌++◌, filter, refl, sym, ap, ◌∙◌, append-nil}
use Rattle.std.specs.List.{fold, list_any, flat_map}
use Rattle.std.proofs.lemmas.List.{append_assoc}
use Rattle.std.proofs.lemmas.List.Elements.{filter-append}
use Rattle.std.proofs.lemmas.Grind.{fold-append}
use Rattle.std.proofs.lemmas.Map.Views.{any-filter_same}
use Rattle.mls_labels.specs.Label.{Label}
use Rattle.mls_labels.specs.Same.{same_label}
use Rattle.mls_labels.proofs.Laws.{labels_same}
use Rattle.mls_review.specs.Distinct.{below, firsts, with_one}
use Rattle.mls_review.proofs.Lists.{below_flat_more}

abbrev differs : Label → Label → Bool
differs x m = not (same_label x m)

abbrev is : Label → Label → Bool
is l m = same_label m l

filtered_last : (p : Label → Bool) (ys : List Label) (l : Label) (b : Bool) → p l ≡ b → filter p (ys ++ l ∷ []) ≡ filter p ys ++ cond b (l ∷ []) []
filtered_last p ys l b h = filter-append p ys (l ∷ []) ∙ ap (λ c. filter p ys ++ cond c (l ∷ []) []) h

same_first : (x l : Label) (ys : List Label) (a : Bool) → same_label x l ≡ true
    → x ∷ filter (differs x) (cond a ys (ys ++ l ∷ [])) ≡ x ∷ filter (differs x) ys
same_first x l ys true h = refl
same_first x l ys false h = ap (λ t. x ∷ t) (filtered_last (differs x) ys l false (ap not h) ∙ append-nil (filter (differs x) ys))

other_first : (x l : Label) (ys : List Label) (a : Bool) → same_label x l ≡ false
    → x ∷ filter (differs x) (cond a ys (ys ++ l ∷ [])) ≡ cond a (x ∷ filter (differs x) ys) ((x ∷ filter (differs x) ys) ++ l ∷ [])
other_first x l ys true h = refl
other_first x l ys false h = ap (λ t. x ∷ t) (filtered_last (differs x) ys l true (ap not h))

still_there : (x l : Label) (ys : List Label) → same_label x l ≡ false → list_any (is l) (filter (differs x) ys) ≡ list_any (is l) ys
still_there x l ys h = any-filter_same (is l) (differs x) true (λ k same. ap (λ m. not (same_label x m)) ((labels_same k l).0 same) ∙ ap not h) ys

step : (x l : Label) (ys : List Label) (b : Bool) → same_label x l ≡ b
    → x ∷ filter (differs x) (cond (list_any (is l) ys) ys (ys ++ l ∷ []))
    ≡ cond (b || list_any (is l) (filter (differs x) ys)) (x ∷ filter (differs x) ys) ((x ∷ filter (differs x) ys) ++ l ∷ [])
step x l ys true h = same_first x l ys (list_any (is l) ys) h
step x l ys false h =
    other_first x l ys (list_any (is l) ys) h
    ∙ ap (λ a. cond a (x ∷ filter (differs x) ys) ((x ∷ filter (differs x) ys) ++ l ∷ [])) (sym (still_there x l ys h))

-- with one label more
pub firsts_push : (ls : List Label) (l : Label) → firsts (ls ++ l ∷ []) ≡ with_one (firsts ls) l
unfolding firsts
firsts_push [] l = refl
firsts_push (x ∷ xs) l = ap (λ t. x ∷ filter (differs x) t) (firsts_push xs l) ∙ step x l (firsts xs) (same_label x l) refl

-- with more labels
with_more : (more xs : List Label) → fold with_one (firsts more) xs ≡ firsts (more ++ xs)
with_more more [] = ap firsts (sym (append-nil more))
with_more more (x ∷ xs) =
    ap (λ t. fold with_one t xs) (sym (firsts_push more x)) ∙ with_more (more ++ x ∷ []) xs ∙ ap firsts (append_assoc more (x ∷ []) xs)

-- those that are added to none
pub all_added : (xs : List Label) → fold with_one [] xs ≡ firsts xs
unfolding firsts
all_added xs = with_more [] xs

-- those of two lists, one after the other
pub both_added : (xs ys : List Label) → fold with_one (fold with_one [] xs) ys ≡ firsts (xs ++ ys)
both_added xs ys = sym (fold-append with_one [] xs ys) ∙ all_added (xs ++ ys)

-- those of one number more
pub added_more : (f : ℕ → List Label) (n : ℕ) (old now new : List Label) → now ≡ fold with_one old (flat_map f (below n)) → new ≡ fold with_one now (f n)
    → new ≡ fold with_one old (flat_map f (below (n + 1)))
added_more f n old now new before new_is =
    new_is ∙ ap (λ t. fold with_one t (f n)) before ∙ sym (fold-append with_one old (flat_map f (below n)) (f n)) ∙ ap (fold with_one old) (sym (below_flat_more f n))
