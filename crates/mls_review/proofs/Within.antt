-- Labels in places, and that the places of covering pairs are those of labels.
use Rattle.std.proofs.Common.{◌≡◌, ℕ, ◌<◌, All, Bool, true, false, cond, List, [], ◌∷◌, length, get_or, filter, sym, ap, ◌∙◌, subst, arith}
use Rattle.std.specs.FinSet as set
use Rattle.std.proofs.lemmas.List.{get_or_default}
use Rattle.std.proofs.lemmas.List.Elements.{All-nil, All-cons}
use Rattle.mls_labels.specs.Label.{Label}
use Rattle.mls_review.specs.Covers.{label_at, is_over, covers, cover_at, covers_of, covering, IsWithin}
use Rattle.mls_review.specs.declared.cover.Cover.{Cover}
use Rattle.mls_review.proofs.Lists.{all_range}

if_one : (P : Cover → Type 0) (b : Bool) (c : Cover) → P c → All P (cond b (c ∷ []) [])
if_one P true c h = All-cons P c [] h (All-nil P)
if_one P false c h = All-nil P

covering_within : (labels : List Label) → All (IsWithin (length labels)) (covering labels)
covering_within labels =
    let n = length labels in
    all_range (IsWithin n) (covers_of labels) 0 n (λ lower _ low.
    all_range (IsWithin n) (cover_at labels lower) 0 n (λ upper _ up.
    if_one (IsWithin n) (covers labels (label_at labels upper) (label_at labels lower)) (record { lower = lower; upper = upper }) (omega arith, omega arith)))

pub found_within : (labels : List Label) (found : List Cover) → found ≡ covering labels → All (IsWithin (length labels)) found
found_within labels found is = subst (All (IsWithin (length labels))) (sym is) (covering_within labels)

-- the label that was read in a place
at_place : (labels : List Label) (i : ℕ) (l : Label) → i < length labels → l ≡ get_or labels i l → l ≡ label_at labels i
at_place labels i l h is = is ∙ get_or_default labels i l (record { level = 0; categories = set.empty }) h

pub covered : (labels over : List Label) (lower upper : ℕ) (a b : Label) (r : Bool) → lower < length labels → upper < length labels
    → a ≡ get_or labels lower a → b ≡ get_or labels upper b → over ≡ filter (λ c. is_over c (label_at labels lower)) labels
    → ((ls : List Label) → over ≡ filter (λ c. is_over c a) ls → r ≡ covers ls b a) → r ≡ covers labels (label_at labels upper) (label_at labels lower)
covered labels over lower upper a b r low up a_read b_read over_is says =
    let a_is = at_place labels lower a low a_read in
    let b_is = at_place labels upper b up b_read in
    says labels (over_is ∙ ap (λ l. filter (λ c. is_over c l) labels) (sym a_is)) ∙ (λ i. covers labels (b_is i) (a_is i))
