-- Names in lists, one after the other.
use Rattle.std.proofs.Common.{◌≡◌, ℕ, ◌+◌, ◌<◌, ◌≤◌, Bool, true, false, cond, List, [], ◌∷◌, ◌++◌, length, get_or, drop, map, Option, Some, None, refl, sym, ap, ◌∙◌, append-nil, arith, suc}
use Rattle.std.proofs.lemmas.List.{append_assoc, drop_more, drop_all}
use Rattle.std.proofs.lemmas.List.Concat.{flat_map-cons}
use Rattle.std.specs.Prelude.{◌||◌, filter, is_some, option_map}
use Rattle.std.proofs.lemmas.Option.{slice_get-map}
use Rattle.std.specs.List.{flat_map, slice_get}
use Rattle.std.specs.Str.{bytes_eq}
use Rattle.mls_labels.specs.LabelText.{words_after}
use Rattle.mls_labels.specs.Reading.{place_of}
use Rattle.mls_differences.specs.Counterparts.{is_among}
use Rattle.json.specs.Token.{string}

-- a name is none of no names, and one of some where it is the first or one of the others
pub among_none : (name : List ℕ) → is_among [] name ≡ false
unfolding place_of
among_none name = refl

some_behind : (o : Option ℕ) → is_some (option_map (λ n. suc n) o) ≡ is_some o
some_behind None = refl
some_behind (Some n) = refl

pub among_next : (other : List ℕ) (others : List (List ℕ)) (name : List ℕ) → is_among (other ∷ others) name ≡ (bytes_eq name other || is_among others name)
unfolding place_of
among_next other others name = elim (bytes_eq name other) as (λ b. is_some (cond b (Some 0) (option_map (λ n. suc n) (place_of others name))) ≡ (b || is_among others name)) [
  | true ↦ refl
  | false ↦ some_behind (place_of others name)
]

-- what of a list stands behind a place, and in it
pub names_behind : {X : Type 0} (f : X → List ℕ) (xs : List X) (i : ℕ) (x : X) → i < length xs → x ≡ get_or xs i x → map f (drop i xs) ≡ f x ∷ map f (drop (i + 1) xs)
names_behind f xs i x within is = ap (map f) (drop_more xs i x within ∙ ap (λ y. y ∷ drop (i + 1) xs) (sym is))

pub none_behind : {X : Type 0} (f : X → List ℕ) (xs : List X) (i : ℕ) → length xs ≤ i → map f (drop i xs) ≡ []
none_behind f xs i past = ap (map f) (drop_all i xs past)

-- a name that is the next of others, or isn't
pub among_here : (left more : List (List ℕ)) (other name : List ℕ) (b : Bool) → left ≡ other ∷ more → is_among left name ≡ b → bytes_eq name other ≡ true → true ≡ b
among_here left more other name b begins whole same =
    sym (ap (λ c. c || is_among more name) same) ∙ sym (among_next other more name) ∙ ap (λ l. is_among l name) (sym begins) ∙ whole

pub among_later : (left more : List (List ℕ)) (other name : List ℕ) (b : Bool) → left ≡ other ∷ more → is_among left name ≡ b → bytes_eq name other ≡ false
    → is_among more name ≡ b
among_later left more other name b begins whole differs =
    sym (ap (λ c. c || is_among more name) differs) ∙ sym (among_next other more name) ∙ ap (λ l. is_among l name) (sym begins) ∙ whole

-- one name more of those that two lists share
common_step : (b : Bool) (text name : List ℕ) (separator : ℕ) (rest : List (List ℕ))
    → (text ++ cond b (separator ∷ name) []) ++ words_after (cond b 44 separator) rest ≡ text ++ words_after separator (cond b (name ∷ rest) rest)
common_step true text name separator rest = append_assoc text (separator ∷ name) (words_after 44 rest)
common_step false text name separator rest = ap (λ t. t ++ words_after separator rest) (append-nil text)

pub common_more : (others left more : List (List ℕ)) (name text new whole : List ℕ) (separator next : ℕ) (b : Bool) → left ≡ name ∷ more
    → b ≡ is_among others name → new ≡ text ++ cond b (separator ∷ name) [] → next ≡ cond b 44 separator
    → text ++ words_after separator (filter (is_among others) left) ≡ whole → new ++ words_after next (filter (is_among others) more) ≡ whole
common_more others left more name text new whole separator next b begins is added after so_far =
    let rest = filter (is_among others) more in
    (λ i. added i ++ words_after (after i) rest) ∙ common_step b text name separator rest
    ∙ ap (λ c. text ++ words_after separator (cond c (name ∷ rest) rest)) is
    ∙ ap (λ l. text ++ words_after separator (filter (is_among others) l)) (sym begins) ∙ so_far

pub next_below : (b : Bool) (separator next : ℕ) → next ≡ cond b 44 separator → separator < 128 → next < 128
next_below true separator next is below = omega (arith, is)
next_below false separator next is below = omega (arith, is, below)

pub common_all : (others left : List (List ℕ)) (text whole : List ℕ) (separator : ℕ) → left ≡ [] → text ++ words_after separator (filter (is_among others) left) ≡ whole
    → text ≡ whole
common_all others left text whole separator none so_far =
    sym (append-nil text) ∙ ap (λ l. text ++ words_after separator (filter (is_among others) l)) (sym none) ∙ so_far

-- the strings of those that two lists share, name by name
pub common_strings : {X : Type 0} (f : X → List ℕ) (others : List (List ℕ)) (xs : List X)
    → flat_map (λ x. cond (is_among others (f x)) (string (f x) ∷ []) []) xs ≡ map string (filter (is_among others) (map f xs))
common_strings f others [] = refl
common_strings f others (x ∷ xs) =
    flat_map-cons (λ y. cond (is_among others (f y)) (string (f y) ∷ []) []) x xs
    ∙ ap (λ t. cond (is_among others (f x)) (string (f x) ∷ []) [] ++ t) (common_strings f others xs)
    ∙ by_name (is_among others (f x)) where
      by_name : (b : Bool) → cond b (string (f x) ∷ []) [] ++ map string (filter (is_among others) (map f xs))
          ≡ map string (cond b (f x ∷ filter (is_among others) (map f xs)) (filter (is_among others) (map f xs)))
      by_name true = refl
      by_name false = refl

-- the name in a place
pub named_place : {X : Type 0} (f : X → List ℕ) (xs : List X) (n : ℕ) → slice_get (map f xs) n ≡ option_map f (slice_get xs n)
named_place f xs n = slice_get-map f xs n
