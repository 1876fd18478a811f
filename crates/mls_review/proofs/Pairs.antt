-- Pairs of objects that are gathered object by object.
use Rattle.std.proofs.Common.{◌≡◌, ℕ, ◌+◌, ◌<◌, Bool, true, cond, Option, None, Some, List, [], ◌∷◌, ◌++◌, length, get_or, take, drop, map, filter, refl, sym, ap, ◌∙◌, arith, length-append}
use Rattle.std.specs.List.{slice_get, flat_map}
use Rattle.std.specs.Option.{option_or}
use Rattle.std.specs.FinMap as table
use Rattle.std.proofs.lemmas.List.{take-append-drop, length-map}
use Rattle.std.proofs.lemmas.List.Elements.{filter-append, filter_more}
use Rattle.mls_facts.proofs.Gathered.{flat_map_more}
use Rattle.mls_labels.specs.Label.{Label}
use Rattle.mls_state.specs.State.{State}
use Rattle.mls_review.specs.Flows.{is_not_above, pairs_from, count_not_above, flow_of_pairs}

-- the first of two lists, one after the other
pub first-append : {X : Type 0} (xs ys : List X) → slice_get (xs ++ ys) 0 ≡ option_or (slice_get xs 0) (slice_get ys 0)
first-append [] ys = refl
first-append (x ∷ xs) ys = refl

or_none : {X : Type 0} (first : Option X) → option_or first None ≡ first
or_none None = refl
or_none (Some x) = refl

-- no item gives no pair
pub none_more : {X Y : Type 0} (first : Option Y) (f : X → Y) (ys : List X) → length ys ≡ 0 → option_or first (slice_get (map f ys) 0) ≡ first
none_more first f [] none = or_none first
none_more first f (y ∷ ys) none = absurd (omega (arith, none))

-- one object more
pub gathered_more : {X Y : Type 0} (f : X → List Y) (xs : List X) (i : ℕ) (x : X) (now new : List Y) → i < length xs → x ≡ get_or xs i x
    → now ≡ flat_map f (take i xs) → new ≡ now ++ f x → new ≡ flat_map f (take (i + 1) xs)
gathered_more f xs i x now new h is before here =
    here ∙ ap (λ t. t ++ f x) before ∙ ap (λ y. flat_map f (take i xs) ++ f y) is ∙ sym (flat_map_more f xs i x h)

pub count_more : {X Y : Type 0} (f : X → List Y) (xs : List X) (i : ℕ) (x : X) (count more new : ℕ) → i < length xs → x ≡ get_or xs i x
    → count ≡ length (flat_map f (take i xs)) → more ≡ length (f x) → new ≡ count + more → new ≡ length (flat_map f (take (i + 1) xs))
count_more f xs i x count more new h is before here sum =
    sum ∙ (λ k. before k + here k) ∙ ap (λ y. length (flat_map f (take i xs)) + length (f y)) is
    ∙ sym (length-append (flat_map f (take i xs)) (f (get_or xs i x))) ∙ ap length (sym (flat_map_more f xs i x h))

pub first_of_more : {X Y : Type 0} (f : X → List Y) (xs : List X) (i : ℕ) (x : X) (first new : Option Y) → i < length xs → x ≡ get_or xs i x
    → first ≡ slice_get (flat_map f (take i xs)) 0 → new ≡ option_or first (slice_get (f x) 0) → new ≡ slice_get (flat_map f (take (i + 1) xs)) 0
first_of_more f xs i x first new h is before here =
    here ∙ ap (λ a. option_or a (slice_get (f x) 0)) before ∙ ap (λ y. option_or (slice_get (flat_map f (take i xs)) 0) (slice_get (f y) 0)) is
    ∙ sym (first-append (flat_map f (take i xs)) (f (get_or xs i x))) ∙ ap (λ t. slice_get t 0) (sym (flat_map_more f xs i x h))

-- the finding of pairs that are counted
pub no_flow : (s : ℕ) (all : List (ℕ × ℕ)) → None ≡ slice_get all 0 → None ≡ flow_of_pairs s all
no_flow s [] h = refl
no_flow s (p ∷ ps) h = cc

pub some_flow : (s count : ℕ) (pair : ℕ × ℕ) (all : List (ℕ × ℕ)) → count ≡ length all → Some pair ≡ slice_get all 0
    → Some (record { subject = s; pairs = count; from = pair.0; to = pair.1 }) ≡ flow_of_pairs s all
some_flow s count pair [] is h = cc
some_flow s count pair (p ∷ ps) is h =
    let same : pair ≡ p = cc in
    λ i. Some (record { subject = s; pairs = is i; from = (same i).0; to = (same i).1 })

-- the first item that passes
pub first_found : {X Y : Type 0} (f : X → Y) (p : X → Bool) (xs : List X) (i : ℕ) (x : X) → i < length xs → x ≡ get_or xs i x → filter p (take i xs) ≡ [] → p x ≡ true
    → Some (f x) ≡ slice_get (map f (filter p xs)) 0
first_found f p xs i x h is none passes =
    let found : filter p (take i xs) ++ cond (p (get_or xs i x)) (get_or xs i x ∷ []) [] ≡ x ∷ [] =
    ap (λ t. t ++ cond (p (get_or xs i x)) (get_or xs i x ∷ []) []) none ∙ ap (λ y. cond (p y) (y ∷ []) []) (sym is) ∙ ap (λ b. cond b (x ∷ []) []) passes in
    let whole : filter p xs ≡ (x ∷ []) ++ filter p (drop (i + 1) xs) =
    ap (filter p) (sym (take-append-drop (i + 1) xs)) ∙ filter-append p (take (i + 1) xs) (drop (i + 1) xs)
    ∙ ap (λ t. t ++ filter p (drop (i + 1) xs)) (filter_more p xs i x h ∙ found) in
    ap (λ ys. slice_get (map f ys) 0) (sym whole)

-- how many pairs an object has
pub pairs_length : (v : State) (altered : List ℕ) (a : ℕ) (label : Label) (count : ℕ) → table.get v.object_label a ≡ Some label → count ≡ count_not_above v altered label
    → count ≡ length (pairs_from v altered a)
pairs_length v altered a label count is counted =
    counted ∙ ap (λ l. length (filter (is_not_above v l) altered)) (sym is)
    ∙ sym (length-map (filter (is_not_above v (table.get v.object_label a)) altered) (λ b. (a, b)))

-- an object without pairs
pub no_pairs : (v : State) (altered : List ℕ) (a : ℕ) (label : Label) (first : Option (ℕ × ℕ)) (count : ℕ) → table.get v.object_label a ≡ Some label
    → count ≡ count_not_above v altered label → count ≡ 0 → first ≡ option_or first (slice_get (pairs_from v altered a) 0)
no_pairs v altered a label first count is counted none =
    sym (none_more first (λ b. (a, b)) (filter (is_not_above v (table.get v.object_label a)) altered)
    (ap (λ l. length (filter (is_not_above v l) altered)) is ∙ sym counted ∙ none))

-- the test of an object by the label that another has
pub not_above : (v : State) (a b : ℕ) (label : Label) (test : Bool) → table.get v.object_label a ≡ Some label → test ≡ is_not_above v (Some label) b → test ≡ true
    → is_not_above v (table.get v.object_label a) b ≡ true
not_above v a b label test there is passes = ap (λ l. is_not_above v l b) there ∙ sym is ∙ passes
