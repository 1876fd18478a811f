-- The names of levels and categories in what a scheme writes of labels.
use Rattle.std.proofs.Common.{◌≡◌, ◌≢◌, ℕ, zero, suc, ◌+◌, ◌<◌, ◌≤◌, ◌⊎◌, inl, inr, Bool, true, false, cond, ◌==◌, List, [], ◌∷◌, ◌++◌, length, get_or, take, drop, Option, Some, None, refl, sym, ap, ◌∙◌, arith}
use Rattle.std.proofs.lemmas.Bool.Decides.{nat_tests}
use Rattle.std.proofs.lemmas.Bool.{and_parts, not-false, or_parts}
use Rattle.std.proofs.lemmas.Grind.{common_steps}
use Rattle.std.proofs.lemmas.List.{drop_at, append_assoc, get_or_append_left, get_or_at, length_push}
use Rattle.std.proofs.lemmas.List.Sums.{position_or_len_is}
use Rattle.std.proofs.lemmas.Option.{slice_get_cases, slice_get_past}
use Rattle.std.specs.Cmp.{nat_cmp_total}
use Rattle.std.specs.FinSet as set
use Rattle.std.specs.FinSet.{nat_cmp-IsAntisymmetric}
use Rattle.std.specs.List.{list_all, after_first, position_or_len}
use Rattle.std.specs.Ordering.{nat_cmp}
use Rattle.std.specs.Prelude.{◌&&◌, ◌||◌, not, nat_eq, nat_lt, slice_get, unwrap_or, IsTrue}
use Rattle.mls_facts.specs.Each.{each}
use Rattle.mls_facts.proofs.Each.{each-contains}
use Rattle.mls_labels.specs.Label.{has_label}
use Rattle.mls_labels.specs.LabelText.{written, name_at}
use Rattle.mls_labels.specs.Names.{is_name, is_name_byte, is_name_len, has_twice}
use Rattle.mls_labels.specs.Scheme.{Scheme, IsScheme, bounds_of}
use Rattle.mls_labels.specs.declared.limits.TheConstants.{MAX_LEVELS, MAX_CATEGORIES}
use Rattle.mls_labels.specs.declared.scheme_fault.SchemeFault.TheVariants.{NoLevels, TooManyLevels, TooManyCategories, BadName, RepeatedName}
use Rattle.mls_snapshots.specs.Schemes.{level_alone, lowest_with, name_where}
use Rattle.mls_snapshots.proofs.SchemeTexts.{in_one, level_written, category_written, has_level, has_category, Counted, counted}

-- the names before the next place
take_next : (names : List (List ℕ)) (n : ℕ) → take (suc n) names ≡ take n names ++ name_where (slice_get names n)
take_next [] zero = refl
take_next [] (suc n) = refl
take_next (name ∷ names) zero = refl
take_next (name ∷ names) (suc n) = ap (λ t. name ∷ t) (take_next names n)

pub names_more : (names : List (List ℕ)) (n : ℕ) (found new : List (List ℕ)) (name : Option (List ℕ)) → found ≡ take n names → name ≡ slice_get names n
    → new ≡ found ++ name_where name → new ≡ take (n + 1) names
names_more names n found new name so_far is added =
    let next : n + 1 ≡ suc n = omega arith in
    added ∙ (λ i. so_far i ++ name_where (is i)) ∙ sym (take_next names n) ∙ ap (λ k. take k names) (sym next)

-- a scheme has no more names than it may
pub few_levels : (s : Scheme) → IsScheme s → length s.levels ≤ MAX_LEVELS
few_levels s sound = (counted s sound).1

pub few_categories : (s : Scheme) → IsScheme s → length s.categories ≤ MAX_CATEGORIES
few_categories s sound = (counted s sound).2

-- the name in a place that there is
at_name : (names : List (List ℕ)) (n : ℕ) → n < length names → slice_get names n ≡ Some (name_at names n)
at_name names n within = from (slice_get_cases {X = List ℕ} names n).1 where
  from : ((z : List ℕ) × (n < length names) × (slice_get names n ≡ Some z) × (get_or names n z ≡ z)) ⊎ ((length names ≤ n) × (slice_get names n ≡ None))
      → slice_get names n ≡ Some (name_at names n)
  from (inl there) = there.2 ∙ ap (λ (z : List ℕ). Some z) (sym (ap (λ (z : Option (List ℕ)). unwrap_or z []) there.2))
  from (inr past) = absurd (let many : length names ≤ n = past.0 in omega arith)

-- below a count or not
below : (n count : ℕ) (P : Type 0) → (n < count → P) → (count ≤ n → P) → P
below n count P within otherwise = from (nat_lt n count) refl where
  from : (b : Bool) → nat_lt n count ≡ b → P
  from true is = within (grind (arith, nat_tests, is))
  from false is = otherwise (grind (arith, nat_tests, is))

-- what is written of a level alone is the name in its place
pub level_named : (s : Scheme) (n : ℕ) (text : List ℕ) → has_label (bounds_of s) (level_alone n) ≡ true → text ≡ written s (level_alone n)
    → Some text ≡ slice_get s.levels n
level_named s n text has is =
    let parts = and_parts (nat_lt n (length s.levels)) (each (set.empty {R = nat_cmp}) (λ q. nat_lt q (length s.categories))) has in
    let level : nat_lt n (length s.levels) ≡ true = parts.0 in
    let within : n < length s.levels = grind (arith, nat_tests, level) in
    ap (λ (z : List ℕ). Some z) (is ∙ level_written s n) ∙ sym (at_name s.levels n within)

pub level_lacks : (s : Scheme) (n : ℕ) → has_label (bounds_of s) (level_alone n) ≡ false → None ≡ slice_get s.levels n
level_lacks s n lacks =
    below n (length s.levels) (None ≡ slice_get s.levels n) (λ within. absurd (let no : true ≡ false = sym (has_level s n within) ∙ lacks in cc))
    (λ past. sym (slice_get_past s.levels n past))

-- a scheme has a label of the lowest level and a category just where it has that one
pub category_lacks : (s : Scheme) (n : ℕ) → IsScheme s → has_label (bounds_of s) (lowest_with n) ≡ false → None ≡ slice_get s.categories n
category_lacks s n sound lacks =
    let some : 0 < length s.levels = (counted s sound).0 in
    below n (length s.categories) (None ≡ slice_get s.categories n) (λ within. absurd (let no : true ≡ false = sym (has_category s n some within) ∙ lacks in cc))
    (λ past. sym (slice_get_past s.categories n past))

category_within : (s : Scheme) (n : ℕ) → has_label (bounds_of s) (lowest_with n) ≡ true → n < length s.categories
category_within s n has =
    let parts = and_parts (nat_lt 0 (length s.levels)) (each (set.insert (set.empty {R = nat_cmp}) n) (λ q. nat_lt q (length s.categories))) has in
    let itself : nat_eq n n ≡ true = grind (arith, nat_tests) in
    let one : nat_lt n (length s.categories) ≡ true =
    each-contains nat_cmp_total nat_cmp-IsAntisymmetric (set.insert (set.empty {R = nat_cmp}) n) (λ q. nat_lt q (length s.categories)) n parts.1 (in_one n n ∙ itself) in
    grind (arith, nat_tests, one)

-- no byte of a text is a colon
abbrev pub Colonless : List ℕ → Type 0
Colonless text = (i : ℕ) → i < length text → get_or text i 0 ≢ 58

name_colonless : (text : List ℕ) → list_all is_name_byte text ≡ true → Colonless text
name_colonless [] all i within = absurd (omega arith)
name_colonless (b ∷ text) all zero within =
    let parts = and_parts (is_name_byte b) (list_all is_name_byte text) all in
    λ is. let no : true ≡ false = sym parts.0 ∙ ap is_name_byte is in cc
name_colonless (b ∷ text) all (suc i) within =
    let parts = and_parts (is_name_byte b) (list_all is_name_byte text) all in
    name_colonless text parts.1 i (omega arith)

fourth : {X : Type 0} (a b c d : Bool) (x y z w : X) (rest : Option X) → cond a (Some x) (cond b (Some y) (cond c (Some z) (cond d (Some w) rest))) ≡ None → d ≡ false
fourth true b c d x y z w rest none = cc
fourth false true c d x y z w rest none = cc
fourth false false true d x y z w rest none = cc
fourth false false false true x y z w rest none = cc
fourth false false false false x y z w rest none = refl

level_names_are : (s : Scheme) → IsScheme s → list_all is_name s.levels ≡ true
level_names_are s sound =
    let bad : (not (list_all is_name s.levels) || not (list_all is_name s.categories)) ≡ false =
    fourth (nat_eq (length s.levels) 0) (nat_lt MAX_LEVELS (length s.levels)) (nat_lt MAX_CATEGORIES (length s.categories))
    (not (list_all is_name s.levels) || not (list_all is_name s.categories)) NoLevels TooManyLevels TooManyCategories BadName
    (cond (has_twice s.levels || has_twice s.categories) (Some RepeatedName) None) sound in
    not-false (list_all is_name s.levels) (or_parts (not (list_all is_name s.levels)) (not (list_all is_name s.categories)) bad).0

first_colonless : (names : List (List ℕ)) → list_all is_name names ≡ true → 0 < length names → Colonless (name_at names 0)
first_colonless [] all some = absurd (omega arith)
first_colonless (name ∷ names) all some =
    let parts = and_parts (is_name name) (list_all is_name names) all in
    let bytes = and_parts (is_name_len (length name)) (list_all is_name_byte name) parts.0 in
    name_colonless name bytes.1

-- where the first colon is, and what stands behind it
colon_at : (xs ys : List ℕ) → Colonless xs → position_or_len (λ x. x == 58) (xs ++ 58 ∷ ys) ≡ length xs
colon_at xs ys h =
    position_or_len_is (λ x. x == 58) (xs ++ 58 ∷ ys) (length xs) 0 (grind (arith, common_steps))
    (λ k lt. let ne = h k lt in rw get_or_append_left (grind (arith, nat_tests))) (λ _. rw (get_or_at xs 58 ys 0 (length xs) refl) refl)

behind_at : (xs ys : List ℕ) → Colonless xs → after_first (λ x. x == 58) (xs ++ 58 ∷ ys) ≡ ys
behind_at xs ys h =
    ap (λ n. drop (n + 1) (xs ++ 58 ∷ ys)) (colon_at xs ys h)
    ∙ ap (drop (length xs + 1)) (sym (append_assoc xs (58 ∷ []) ys)) ∙ drop_at (xs ++ 58 ∷ []) ys (length xs + 1) (length_push xs 58)

-- what is written of the lowest level and a category, taken apart
module _ (s : Scheme) (n : ℕ) (text : List ℕ) (sound : IsScheme s) (has : has_label (bounds_of s) (lowest_with n) ≡ true) (is : text ≡ written s (lowest_with n)) where
  colonless : Colonless (name_at s.levels 0)
  colonless = first_colonless s.levels (level_names_are s sound) (counted s sound).0

  apart : text ≡ name_at s.levels 0 ++ 58 ∷ name_at s.categories n
  apart =
      let within : n < length s.categories = category_within s n has in
      let few : length s.categories ≤ MAX_CATEGORIES = few_categories s sound in
      is ∙ category_written s n (omega arith)

  pub category_named : (name : List ℕ) → name ≡ after_first (λ b. b == 58) text → Some name ≡ slice_get s.categories n
  category_named name behind =
      let found : name ≡ name_at s.categories n =
      behind ∙ ap (after_first (λ b. b == 58)) apart ∙ behind_at (name_at s.levels 0) (name_at s.categories n) colonless in
      ap (λ (z : List ℕ). Some z) found ∙ sym (at_name s.categories n (category_within s n has))

  pub category_has_colon : position_or_len (λ b. b == 58) text ≡ length text → ⊥
  category_has_colon none =
      let at : position_or_len (λ b. b == 58) (name_at s.levels 0 ++ 58 ∷ name_at s.categories n) ≡ length (name_at s.levels 0) =
      colon_at (name_at s.levels 0) (name_at s.categories n) colonless in
      let all : length text ≡ length (name_at s.levels 0) = sym none ∙ ap (position_or_len (λ b. b == 58)) apart ∙ at in
      let more : length text ≡ length (name_at s.levels 0 ++ 58 ∷ name_at s.categories n) = ap length apart in
      grind (arith, common_steps)
