-- The names of a start: where each stands, and that none begins with `#`.
use Rattle.std.proofs.Common.{◌≡◌, ℕ, zero, suc, ◌<◌, ◌^◌, ◌⊎◌, inl, inr, Bool, true, false, cond, List, [], ◌∷◌, length, get_or, Option, None, Some, refl, sym, ap, ◌∙◌, arith}
use Rattle.std.specs.Prelude.{◌||◌, option_map, slice_get}
use Rattle.std.specs.Fmt.{decimal}
use Rattle.std.specs.List.{list_all, list_any}
use Rattle.std.specs.Str.{bytes_eq}
use Rattle.std.proofs.lemmas.Bool.{and_parts, both_ways}
use Rattle.std.proofs.lemmas.Fmt.{decimal_injective}
use Rattle.std.proofs.lemmas.Option.{slice_get-get_or}
use Rattle.std.proofs.lemmas.Slice.Eq.{bytes_eq-Decides}
use Rattle.mls_labels.specs.Names.{is_name, is_name_byte, has_twice}
use Rattle.mls_labels.specs.Reading.{place_of}
use Rattle.mls_lines.specs.Grammar.{IsNamed, IsNumber}
use Rattle.mls_wording.specs.ReadBack.{AreNames}
use Rattle.mls_wording.specs.Wording.{name_or}

-- where none passes, the one in a place doesn't
none_passes : (p : List ℕ → Bool) (words : List (List ℕ)) (i : ℕ) (v : List ℕ) → list_any p words ≡ false → slice_get words i ≡ Some v → p v ≡ false
none_passes p [] i v none h = cc
none_passes p (x ∷ words) zero v none h =
    let same : x ≡ v = cc in
    elim (p x) as (λ b. p x ≡ b → (b || list_any p words) ≡ false → p v ≡ false) [ true ↦ λ _ n. cc | false ↦ λ e _. rw same at e ] refl none
none_passes p (x ∷ words) (suc i) v none h =
    elim (p x) as (λ b. (b || list_any p words) ≡ false → p v ≡ false) [ true ↦ λ n. cc | false ↦ λ n. none_passes p words i v n h ] none

-- where no name stands twice, a name's place is where it stands
place_of-named : (names : List (List ℕ)) (name : List ℕ) (n : ℕ) → has_twice names ≡ false → slice_get names n ≡ Some name → place_of names name ≡ Some n
unfolding place_of
place_of-named [] name n once h = cc
place_of-named (x ∷ names) name zero once h = let same : name ≡ x = cc in rw ((bytes_eq-Decides name x).1 same) refl
place_of-named (x ∷ names) name (suc n) once h =
    elim (list_any (λ other. bytes_eq other x) names) as (λ b. list_any (λ other. bytes_eq other x) names ≡ b → (b || has_twice names) ≡ false → cond (bytes_eq name x) (Some 0) (option_map (λ m. suc m) (place_of names name)) ≡ Some (suc n)) [
      | true ↦ λ _ once. cc
      | false ↦ λ none once. rw (none_passes (λ other. bytes_eq other x) names n name none h, place_of-named names name n once h) refl
    ] refl once

one_place : (names : List (List ℕ)) (name : List ℕ) (m n : ℕ) → has_twice names ≡ false → slice_get names m ≡ Some name → slice_get names n ≡ Some name → m ≡ n
one_place names name m n once h k = let e : Some m ≡ Some n = sym (place_of-named names name m once h) ∙ place_of-named names name n once k in cc

-- what stands among names is one
pub is_one : (names : List (List ℕ)) (n : ℕ) (name : List ℕ) → list_all is_name names ≡ true → slice_get names n ≡ Some name → is_name name ≡ true
is_one [] n name all h = cc
is_one (x ∷ names) zero name all h =
    let same : x ≡ name = cc in
    rw same at (and_parts (is_name x) (list_all is_name names) all).0
is_one (x ∷ names) (suc n) name all h = is_one names n name (and_parts (is_name x) (list_all is_name names) all).1 h

-- the bytes of a name
pub name_bytes : (name : List ℕ) → is_name name ≡ true → list_all is_name_byte name ≡ true
name_bytes name h = (and_parts _ (list_all is_name_byte name) h).1

-- no name begins with `#`
pub no_sign : (name more : List ℕ) → is_name name ≡ true → name ≡ 35 ∷ more → ⊥
no_sign name more h e =
    let bytes : list_all is_name_byte (35 ∷ more) ≡ true = ap (list_all is_name_byte) (sym e) ∙ name_bytes name h in
    both_ways (is_name_byte 35) refl (and_parts (is_name_byte 35) (list_all is_name_byte more) bytes).0

-- what is written of a number is its name, or `#` and the number
pub name_or_number : (names : List (List ℕ)) → AreNames names → (n : ℕ) → n < 2 ^ 16 → IsNamed names (name_or (slice_get names n) n) n ⊎ IsNumber (name_or (slice_get names n) n) n
name_or_number names are n fits = from (slice_get names n) refl where
  from : (found : Option (List ℕ)) → slice_get names n ≡ found → IsNamed names (name_or found n) n ⊎ IsNumber (name_or found n) n
  from (Some name) e = inl (is_one names n name are.each e, place_of-named names name n are.once e)
  from None e = inr (omega (arith, fits), refl)

-- and where there is a name, that is read as its number
pub placed : (names : List (List ℕ)) → AreNames names → (n : ℕ) → n < length names → place_of names (name_or (slice_get names n) n) ≡ Some n
placed names are n within = from (slice_get names n) refl where
  from : (found : Option (List ℕ)) → slice_get names n ≡ found → place_of names (name_or found n) ≡ Some n
  from (Some name) e = place_of-named names name n are.once e
  from None e = absurd (let no : None ≡ Some (get_or names n []) = sym e ∙ slice_get-get_or names n [] within in cc)

-- no two numbers have one text
pub numbers_apart : (names : List (List ℕ)) → AreNames names → (m n : ℕ) → m < 2 ^ 16 → n < 2 ^ 16 → name_or (slice_get names m) m ≡ name_or (slice_get names n) n → m ≡ n
numbers_apart names are m n first second same = from (slice_get names m) refl (slice_get names n) refl same where
  from : (found : Option (List ℕ)) → slice_get names m ≡ found → (other : Option (List ℕ)) → slice_get names n ≡ other → name_or found m ≡ name_or other n → m ≡ n
  from (Some name) e (Some word) k is = one_place names name m n are.once e (k ∙ ap Some (sym is))
  from (Some name) e None k is = absurd (no_sign name (decimal n) (is_one names m name are.each e) is)
  from None e (Some word) k is = absurd (no_sign word (decimal m) (is_one names n word are.each k) (sym is))
  from None e None k is =
      let digits : decimal m ≡ decimal n = cc in
      decimal_injective m n (omega (arith, first)) (omega (arith, second)) digits
