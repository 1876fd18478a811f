-- The places of names in a list.
use Rattle.std.specs.Prelude.{◌≡◌, ℕ, zero, suc, ◌+◌, ◌<◌, Bool, true, false, cond, not, ◌||◌, nat_lt, List, [], ◌∷◌, ◌++◌, length, map, take, Option, None, Some, option_map, position, slice_get, refl}
use Rattle.std.specs.List.{list_any, prefix_len}
use Rattle.std.specs.Str.{bytes_eq}
use Rattle.std.proofs.Common.{◌⊎◌, inl, inr, arith, sym, ap, ◌∙◌, Bor, String, get_or, string_bytes}
use Rattle.std.proofs.lemmas.Bool.Decides.{nat_tests}
use Rattle.std.proofs.lemmas.Bool.{both_ways, or_cases, or_right}
use Rattle.std.proofs.lemmas.List.Folds.{list_any-append}
use Rattle.std.proofs.lemmas.List.{length-map, map-append, take-map, take_more}
use Rattle.std.specs.String.{string_eq}
use Rattle.std.proofs.lemmas.Slice.Eq.{bytes_eq-Decides}
use Rattle.mls_labels.specs.Names.{has_twice}
use Rattle.mls_labels.specs.LabelText.{IsIn}
use Rattle.mls_labels.specs.Reading.{place_of}

-- a word that stands among some stands there with one more at the end
pub at_front : (words : List (List ℕ)) (w v : List ℕ) (i : ℕ) → slice_get words i ≡ Some v → slice_get (words ++ w ∷ []) i ≡ Some v
at_front [] w v i h = cc
at_front (x ∷ words) w v zero h = h
at_front (x ∷ words) w v (suc i) h = at_front words w v i h

-- the one at the end stands there
pub at_end : (words : List (List ℕ)) (w : List ℕ) → slice_get (words ++ w ∷ []) (length words) ≡ Some w
at_end [] w = refl
at_end (x ∷ words) w = at_end words w

-- what stands among them with one more stands among them, or is the one at the end
pub at_either : (words : List (List ℕ)) (w v : List ℕ) (i : ℕ) → slice_get (words ++ w ∷ []) i ≡ Some v → (slice_get words i ≡ Some v) ⊎ ((i ≡ length words) × (w ≡ v))
at_either [] w v zero h = inr (refl, cc)
at_either [] w v (suc i) h = cc
at_either (x ∷ words) w v zero h = inl h
at_either (x ∷ words) w v (suc i) h = elim (at_either words w v i h) [ inl e ↦ inl e | inr e ↦ inr (ap suc e.0, e.1) ]

-- where none passes, the one in this place doesn't
pub none_passes : (p : List ℕ → Bool) (words : List (List ℕ)) (i : ℕ) (v : List ℕ) → list_any p words ≡ false → slice_get words i ≡ Some v → p v ≡ false
none_passes p [] i v none h = cc
none_passes p (x ∷ words) zero v none h =
    let same : x ≡ v = cc in
    elim (p x) as (λ b. p x ≡ b → (b || list_any p words) ≡ false → p v ≡ false) [ true ↦ λ _ n. cc | false ↦ λ e _. rw same at e ] refl none
none_passes p (x ∷ words) (suc i) v none h =
    elim (p x) as (λ b. (b || list_any p words) ≡ false → p v ≡ false) [ true ↦ λ n. cc | false ↦ λ n. none_passes p words i v n h ] none

next_place : (b : Bool) (k n : ℕ) (r : Option ℕ) → cond (nat_lt k n) (Some k) None ≡ r → cond (nat_lt (cond (not b) (1 + k) 0) (suc n)) (Some (cond (not b) (1 + k) 0)) None ≡ cond b (Some 0) (option_map (λ m. suc m) r)
next_place true k n r h = let t : nat_lt 0 (suc n) ≡ true = grind (arith, nat_tests) in rw t refl
next_place false k n r h =
    let t : nat_lt (1 + k) (suc n) ≡ nat_lt k n = grind (arith, nat_tests) in
    let e : 1 + k ≡ suc k = omega arith in
    rw (t, e) (raised (nat_lt k n) ∙ ap (option_map (λ m. suc m)) h) where
      raised : (c : Bool) → cond c (Some (suc k)) None ≡ option_map (λ m. suc m) (cond c (Some k) None)
      raised true = refl
      raised false = refl

-- the place that a scan finds
pub position-place_of : (name : List ℕ) (names : List (List ℕ)) → position (bytes_eq name) names ≡ place_of names name
unfolding place_of
position-place_of name [] = refl
position-place_of name (x ∷ names) = next_place (bytes_eq name x) (prefix_len (λ y. not (bytes_eq name y)) names) (length names) (place_of names name) (position-place_of name names)

front_mapped : {X Y : Type 0} (f : X → Y) (p : Y → Bool) (xs : List X) → prefix_len p (map f xs) ≡ prefix_len (λ x. p (f x)) xs
front_mapped f p [] = refl
front_mapped f p (x ∷ xs) = ap (λ n. cond (p (f x)) (1 + n) 0) (front_mapped f p xs)

-- the place in a list that is mapped
pub position-map : {X Y : Type 0} (f : X → Y) (p : Y → Bool) (xs : List X) → position p (map f xs) ≡ position (λ x. p (f x)) xs
position-map f p xs =
    ap (λ n. cond (nat_lt n (length (map f xs))) (Some n) None) (front_mapped f (λ y. not (p y)) xs)
    ∙ ap (λ k. cond (nat_lt (prefix_len (λ x. not (p (f x))) xs) k) (Some (prefix_len (λ x. not (p (f x))) xs)) None) (length-map xs f)

-- the place of a name, as a set of texts finds it
pub place_word : {Z : Type 0} (keys : List (String Z)) (name : List ℕ) → place_of (map string_bytes keys) name ≡ position (λ key. bytes_eq name (string_bytes key)) keys
place_word keys name = sym (position-place_of name (map string_bytes keys)) ∙ position-map string_bytes (bytes_eq name) keys

any_mapped : {X Y : Type 0} (f : X → Y) (p : Y → Bool) (xs : List X) → list_any p (map f xs) ≡ list_any (λ x. p (f x)) xs
any_mapped f p [] = refl
any_mapped f p (x ∷ xs) = ap (λ t. p (f x) || t) (any_mapped f p xs)

-- in the place of a name it stands
pub named_there : (names : List (List ℕ)) (name : List ℕ) (n : ℕ) → place_of names name ≡ Some n → slice_get names n ≡ Some name
unfolding place_of
named_there [] name n h = cc
named_there (x ∷ names) name n h =
    elim (bytes_eq name x) as (λ b. bytes_eq name x ≡ b → cond b (Some 0) (option_map (λ m. suc m) (place_of names name)) ≡ Some n → slice_get (x ∷ names) n ≡ Some name) [
      | true ↦ λ e h. let same : name ≡ x = (bytes_eq-Decides name x).0 e in let first : 0 ≡ n = cc in rw (← first) (ap Some (sym same))
      | false ↦ λ _ h. elim (place_of names name) as (λ r. place_of names name ≡ r → option_map (λ m. suc m) r ≡ Some n → slice_get (x ∷ names) n ≡ Some name) [
        | None ↦ λ _ h. cc
        | Some m ↦ λ e h. let later : suc m ≡ n = cc in rw (← later) (named_there names name m e)
      ] refl h
    ] refl h

not_after : (x : List ℕ) (names : List (List ℕ)) (name : List ℕ) → ((m : ℕ) → slice_get names m ≡ Some name → ⊥) → bytes_eq name x ≡ false → (n : ℕ) → slice_get (x ∷ names) n ≡ Some name → ⊥
not_after x names name later e zero there = let same : name ≡ x = cc in both_ways (bytes_eq name x) e ((bytes_eq-Decides name x).1 same)
not_after x names name later e (suc m) there = later m there

-- a name without a place stands nowhere
pub named_nowhere : (names : List (List ℕ)) (name : List ℕ) (n : ℕ) → place_of names name ≡ None → slice_get names n ≡ Some name → ⊥
unfolding place_of
named_nowhere [] name n h there = cc
named_nowhere (x ∷ names) name n h there =
    elim (bytes_eq name x) as (λ b. bytes_eq name x ≡ b → cond b (Some 0) (option_map (λ m. suc m) (place_of names name)) ≡ None → ⊥) [
      | true ↦ λ _ h. cc
      | false ↦ λ e h. elim (place_of names name) as (λ r. place_of names name ≡ r → option_map (λ m. suc m) r ≡ None → ⊥) [
        | None ↦ λ none _. not_after x names name (λ m there. named_nowhere names name m none there) e n there
        | Some m ↦ λ _ h. cc
      ] refl h
    ] refl h

-- where no name stands twice, a name's place is where it stands
pub place_of-named : (names : List (List ℕ)) (name : List ℕ) (n : ℕ) → has_twice names ≡ false → slice_get names n ≡ Some name → place_of names name ≡ Some n
unfolding place_of
place_of-named [] name n once h = cc
place_of-named (x ∷ names) name zero once h = let same : name ≡ x = cc in rw ((bytes_eq-Decides name x).1 same) refl
place_of-named (x ∷ names) name (suc n) once h =
    elim (list_any (λ other. bytes_eq other x) names) as (λ b. list_any (λ other. bytes_eq other x) names ≡ b → (b || has_twice names) ≡ false → cond (bytes_eq name x) (Some 0) (option_map (λ m. suc m) (place_of names name)) ≡ Some (suc n)) [
      | true ↦ λ _ once. cc
      | false ↦ λ none once. rw (none_passes (λ other. bytes_eq other x) names n name none h, place_of-named names name n once h) refl
    ] refl once

-- where no name stands twice, a name stands in one place
pub one_place : (names : List (List ℕ)) (name : List ℕ) (m n : ℕ) → has_twice names ≡ false → slice_get names m ≡ Some name → slice_get names n ≡ Some name → m ≡ n
one_place names name m n once h k = let e : Some m ≡ Some n = sym (place_of-named names name m once h) ∙ place_of-named names name n once k in cc

-- a name that stands somewhere has a place
pub has_place : (names : List (List ℕ)) (name : List ℕ) → IsIn names name → (n : ℕ) × (place_of names name ≡ Some n)
has_place names name there = elim (place_of names name) as (λ r. place_of names name ≡ r → (n : ℕ) × (place_of names name ≡ Some n)) [
  | None ↦ λ e. absurd (named_nowhere names name there.0 e there.1)
  | Some n ↦ λ e. (n, e)
] refl

regrouped : (a e b h : Bool) → ((a || (e || false)) || (b || h)) ≡ ((e || b) || (a || h))
regrouped true true b h = refl
regrouped true false true h = refl
regrouped true false false h = refl
regrouped false true b h = refl
regrouped false false b h = refl

-- one name more at the end: a name stands twice where that one stood there, or one did before
pub has_twice-more : (names : List (List ℕ)) (name : List ℕ) → has_twice (names ++ name ∷ []) ≡ (list_any (bytes_eq name) names || has_twice names)
has_twice-more [] name = refl
has_twice-more (x ∷ names) name =
    rw (list_any-append (λ other. bytes_eq other x) names (name ∷ []), has_twice-more names name)
    (regrouped (list_any (λ other. bytes_eq other x) names) (bytes_eq name x) (list_any (bytes_eq name) names) (has_twice names))

any_of_front : (p : List ℕ → Bool) (names : List (List ℕ)) (n : ℕ) → list_any p (take n names) ≡ true → list_any p names ≡ true
any_of_front p [] zero h = cc
any_of_front p [] (suc n) h = cc
any_of_front p (x ∷ names) zero h = cc
any_of_front p (x ∷ names) (suc n) h = elim (or_cases (p x) (list_any p (take n names)) h) [
  | inl here ↦ rw here refl
  | inr later ↦ or_right (p x) (list_any p names) (any_of_front p names n later)
]

-- a name that stands twice among the first stands twice
pub twice_of_front : (names : List (List ℕ)) (n : ℕ) → has_twice (take n names) ≡ true → has_twice names ≡ true
twice_of_front [] zero h = cc
twice_of_front [] (suc n) h = cc
twice_of_front (x ∷ names) zero h = cc
twice_of_front (x ∷ names) (suc n) h = elim (or_cases (list_any (λ other. bytes_eq other x) (take n names)) (has_twice (take n names)) h) [
  | inl here ↦ rw (any_of_front (λ other. bytes_eq other x) names n here) refl
  | inr later ↦ or_right (list_any (λ other. bytes_eq other x) names) (has_twice names) (twice_of_front names n later)
]

-- the first names and the next are one more of the first
next_taken : (names : List (Bor (List ℕ))) (n : ℕ) (d : Bor (List ℕ)) (kept : List (List ℕ)) → n < length names → kept ≡ map (λ name. name.now) (take n names) → kept ++ (get_or names n d).now ∷ [] ≡ map (λ name. name.now) (take (n + 1) names)
next_taken names n d kept within is =
    ap (λ front. front ++ (get_or names n d).now ∷ []) is ∙ sym (map-append (λ name. name.now) (take n names) (get_or names n d ∷ [])) ∙ ap (map (λ name. name.now)) (sym (take_more names n d within))

-- a name that is added to those so far, since it wasn't there, is one more of the first
pub added_is : (names : List (Bor (List ℕ))) (n : ℕ) (d : Bor (List ℕ)) (kept new : List (List ℕ)) (added : Bool) → n < length names → kept ≡ map (λ name. name.now) (take n names)
    → new ≡ cond added (kept ++ (get_or names n d).now ∷ []) kept → added ≡ true → new ≡ map (λ name. name.now) (take (n + 1) names)
added_is names n d kept new added within is e h = e ∙ ap (λ t. cond t (kept ++ (get_or names n d).now ∷ []) kept) h ∙ next_taken names n d kept within is

pub added_once : (name : List ℕ) (kept new : List (List ℕ)) (added : Bool) → has_twice kept ≡ false → added ≡ not (list_any (bytes_eq name) kept) → new ≡ cond added (kept ++ name ∷ []) kept → added ≡ true → has_twice new ≡ false
added_once name kept new added once is e h = elim (list_any (bytes_eq name) kept) as (λ b. list_any (bytes_eq name) kept ≡ b → added ≡ not b → has_twice new ≡ false) [
  | true ↦ λ _ no. absurd (both_ways added no h)
  | false ↦ λ none _. ap has_twice (e ∙ ap (λ t. cond t (kept ++ name ∷ []) kept) h) ∙ has_twice-more kept name ∙ rw (none, once) refl
] refl is

-- a name that isn't added stands among the first, and so stands twice
pub twice_where_not_added : (names : List (Bor (List ℕ))) (n : ℕ) (d : Bor (List ℕ)) (kept : List (List ℕ)) (added : Bool) → n < length names → kept ≡ map (λ name. name.now) (take n names)
    → added ≡ not (list_any (bytes_eq (get_or names n d).now) kept) → added ≡ false → has_twice (map (λ name. name.now) names) ≡ true
twice_where_not_added names n d kept added within is e h =
    let name = (get_or names n d).now in
    let there : list_any (bytes_eq name) kept ≡ true = elim (list_any (bytes_eq name) kept) as (λ b. added ≡ not b → b ≡ true) [ true ↦ λ _. refl | false ↦ λ yes. absurd (both_ways added h yes) ] e in
    let twice : has_twice (kept ++ name ∷ []) ≡ true = has_twice-more kept name ∙ rw there refl in
    twice_of_front (map (λ name. name.now) names) (n + 1) (ap has_twice (take-map (λ name. name.now) (n + 1) names ∙ sym (next_taken names n d kept within is)) ∙ twice)

-- what a set of texts does with a name, seen as bytes
pub was_added : {Z : Type 0} (keys : List (String Z)) (text : String Z) (name : List ℕ) → string_bytes text ≡ name → not (list_any (string_eq text) keys) ≡ not (list_any (bytes_eq name) (map string_bytes keys))
was_added keys text name is = ap not (sym (any_mapped string_bytes (bytes_eq (string_bytes text)) keys) ∙ ap (λ bytes. list_any (bytes_eq bytes) (map string_bytes keys)) is)

pub kept_with : {Z : Type 0} (keys : List (String Z)) (text : String Z) (name : List ℕ) (added : Bool) → string_bytes text ≡ name → added ≡ not (list_any (string_eq text) keys)
    → map string_bytes (cond (list_any (string_eq text) keys) keys (keys ++ text ∷ [])) ≡ cond added (map string_bytes keys ++ name ∷ []) (map string_bytes keys)
kept_with keys text name added is e = elim (list_any (string_eq text) keys) as (λ b. added ≡ not b → map string_bytes (cond b keys (keys ++ text ∷ [])) ≡ cond added (map string_bytes keys ++ name ∷ []) (map string_bytes keys)) [
  | true ↦ λ no. rw no refl
  | false ↦ λ yes. rw (yes, map-append) (ap (λ last. map string_bytes keys ++ last ∷ []) is)
] e
