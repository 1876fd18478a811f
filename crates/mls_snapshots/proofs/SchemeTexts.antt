-- Schemes that write the same of each level and of each category alone are one.
use Rattle.std.proofs.Common.{◌≡◌, ℕ, zero, suc, ◌+◌, ◌<◌, ◌≤◌, ◌⊎◌, inl, inr, Bool, true, false, cond, List, [], ◌∷◌, ◌++◌, length, get_or, map, Option, Some, None, refl, sym, ap, ◌∙◌, arith, append-nil}
use Rattle.std.proofs.lemmas.Bool.Decides.{nat_tests}
use Rattle.std.proofs.lemmas.List.{append_cancel_left}
use Rattle.std.proofs.lemmas.Option.{slice_get_cases}
use Rattle.std.specs.Prelude.{◌||◌, ◌&&◌, nat_eq, nat_lt, slice_get, unwrap_or, IsTrue}
use Rattle.std.specs.Cmp.{nat_cmp_total, unsigned_tied}
use Rattle.std.specs.Ordering.{nat_cmp}
use Rattle.std.specs.FinSet as set
use Rattle.std.specs.FinSet.{FinSet, nat_cmp-IsAntisymmetric}
use Rattle.mls_facts.specs.Each.{each}
use Rattle.mls_facts.proofs.Each.{contains-each}
use Rattle.mls_labels.specs.Ascending.{numbers, ascending}
use Rattle.mls_labels.specs.Label.{has_label}
use Rattle.mls_labels.specs.LabelText.{written, name_at, words_after}
use Rattle.mls_labels.specs.Scheme.{Scheme, IsScheme, bounds_of}
use Rattle.mls_labels.specs.declared.limits.TheConstants.{MAX_LEVELS, MAX_CATEGORIES}
use Rattle.mls_labels.specs.declared.scheme_fault.SchemeFault.{SchemeFault}
use Rattle.mls_labels.specs.declared.scheme_fault.SchemeFault.TheVariants.{NoLevels, TooManyLevels, TooManyCategories}
use Rattle.mls_snapshots.specs.Schemes.{level_alone, lowest_with, IsWrittenAlike}
use Rattle.mls_snapshots.proofs.Gets.{same_gets}

-- no number passes a test that none from one on passes
numbers_none : (p : ℕ → Bool) (count from : ℕ) → ((q : ℕ) → from ≤ q → p q ≡ false) → numbers p count from ≡ []
unfolding numbers
numbers_none p zero from none = refl
numbers_none p (suc count) from none =
    let rest : numbers p count (suc from) ≡ [] = numbers_none p count (suc from) (λ q h. none q (omega arith)) in
    ap (λ b. cond b (from ∷ numbers p count (suc from)) (numbers p count (suc from))) (none from (omega arith)) ∙ rest

-- one number alone passes a test that it alone passes
numbers_one : (p : ℕ → Bool) (n : ℕ) → ((q : ℕ) → p q ≡ nat_eq q n) → (count from : ℕ) → from ≤ n → n < from + count → numbers p count from ≡ n ∷ []
unfolding numbers
numbers_one p n only zero from least most = absurd (omega arith)
numbers_one p n only (suc count) from least most = at (λ later. numbers_one p n only count (suc from) later (omega arith)) (nat_eq from n) refl where
  at : (suc from ≤ n → numbers p count (suc from) ≡ n ∷ []) → (b : Bool) → nat_eq from n ≡ b → cond (p from) (from ∷ numbers p count (suc from)) (numbers p count (suc from)) ≡ n ∷ []
  at behind true is =
      let same : from ≡ n = grind (arith, nat_tests, is) in
      let rest : numbers p count (suc from) ≡ [] = numbers_none p count (suc from) (λ q h. let no : nat_eq q n ≡ false = grind (arith, nat_tests) in only q ∙ no) in
      ap (λ b. cond b (from ∷ numbers p count (suc from)) (numbers p count (suc from))) (only from ∙ is) ∙ (λ i. same i ∷ rest i)
  at behind false is =
      let other : suc from ≤ n = grind (arith, nat_tests, is) in
      ap (λ b. cond b (from ∷ numbers p count (suc from)) (numbers p count (suc from))) (only from ∙ is)
      ∙ behind other

no_categories : FinSet nat_cmp
no_categories = set.empty

-- the categories of no category
none_ascending : ascending (set.empty {R = nat_cmp}) ≡ []
none_ascending = numbers_none (set.contains (set.empty {R = nat_cmp})) MAX_CATEGORIES 0 (λ q _. set.contains-empty nat_cmp q)

-- what is a member of one alone
pub in_one : (c q : ℕ) → set.contains (set.insert (set.empty {R = nat_cmp}) c) q ≡ nat_eq q c
in_one c q =
    set.contains-insert nat_cmp_total (set.empty {R = nat_cmp}) c q
    ∙ (λ i. unsigned_tied q c i || set.contains-empty nat_cmp q i) ∙ or_false (nat_eq q c) where
      or_false : (b : Bool) → (b || false) ≡ b
      or_false true = refl
      or_false false = refl

one_ascending : (c : ℕ) → c < MAX_CATEGORIES → ascending (set.insert (set.empty {R = nat_cmp}) c) ≡ c ∷ []
one_ascending c within = numbers_one (set.contains (set.insert (set.empty {R = nat_cmp}) c)) c (in_one c) MAX_CATEGORIES 0 (omega arith) (omega arith)

-- what is written of a level alone is its name
pub level_written : (s : Scheme) (n : ℕ) → written s (level_alone n) ≡ name_at s.levels n
level_written s n = ap (λ ns. name_at s.levels n ++ words_after 58 (map (name_at s.categories) ns)) none_ascending ∙ append-nil (name_at s.levels n)

-- what is written of the lowest level and a category has that one's name behind a colon
pub category_written : (s : Scheme) (c : ℕ) → c < MAX_CATEGORIES → written s (lowest_with c) ≡ name_at s.levels 0 ++ (58 ∷ name_at s.categories c)
category_written s c within =
    ap (λ ns. name_at s.levels 0 ++ words_after 58 (map (name_at s.categories) ns)) (one_ascending c within)
    ∙ ap (λ t. name_at s.levels 0 ++ (58 ∷ t)) (append-nil (name_at s.categories c))

-- a scheme has the labels of its levels alone, and of its categories
pub has_level : (s : Scheme) (n : ℕ) → n < length s.levels → IsTrue (has_label (bounds_of s) (level_alone n))
has_level s n within =
    let level : nat_lt n (length s.levels) ≡ true = grind (arith, nat_tests) in
    let none : each (set.empty {R = nat_cmp}) (λ q. nat_lt q (length s.categories)) ≡ true =
    contains-each nat_cmp_total nat_cmp-IsAntisymmetric (set.empty {R = nat_cmp}) (λ q. nat_lt q (length s.categories))
    (λ q there. absurd (let no : true ≡ false = sym there ∙ set.contains-empty nat_cmp q in cc)) in
    λ i. level i && none i

pub has_category : (s : Scheme) (c : ℕ) → 0 < length s.levels → c < length s.categories → IsTrue (has_label (bounds_of s) (lowest_with c))
has_category s c some within =
    let level : nat_lt 0 (length s.levels) ≡ true = grind (arith, nat_tests) in
    let one : each (set.insert (set.empty {R = nat_cmp}) c) (λ q. nat_lt q (length s.categories)) ≡ true =
    contains-each nat_cmp_total nat_cmp-IsAntisymmetric (set.insert (set.empty {R = nat_cmp}) c) (λ q. nat_lt q (length s.categories))
    (λ q there. let is : nat_eq q c ≡ true = sym (in_one c q) ∙ there in
    let same : q ≡ c = grind (arith, nat_tests, is) in grind (arith, nat_tests)) in
    λ i. level i && one i

-- names that are the same in each place of one list, of two of one length, are one
same_names : (xs ys : List (List ℕ)) → length xs ≡ length ys → ((n : ℕ) → n < length xs → name_at ys n ≡ name_at xs n) → ys ≡ xs
same_names xs ys many same = same_gets xs ys at where
  at : (n : ℕ) → slice_get ys n ≡ slice_get xs n
  at n = from (slice_get_cases {X = List ℕ} xs n).1 (slice_get_cases {X = List ℕ} ys n).1 where
    Cases : List (List ℕ) → Type 0
    Cases zs = ((z : List ℕ) × (n < length zs) × (slice_get zs n ≡ Some z) × (get_or zs n z ≡ z)) ⊎ ((length zs ≤ n) × (slice_get zs n ≡ None))

    from : Cases xs → Cases ys → slice_get ys n ≡ slice_get xs n
    from (inl x) (inl y) =
        let within : n < length xs = x.1 in
        let first : name_at xs n ≡ x.0 = ap (λ (z : Option (List ℕ)). unwrap_or z []) x.2 in
        let second : name_at ys n ≡ y.0 = ap (λ (z : Option (List ℕ)). unwrap_or z []) y.2 in
        let is : y.0 ≡ x.0 = sym second ∙ same n within ∙ first in
        y.2 ∙ ap (λ (z : List ℕ). Some z) is ∙ sym x.2
    from (inl x) (inr y) = absurd (let a : n < length xs = x.1 in let b : length ys ≤ n = y.0 in omega arith)
    from (inr x) (inl y) = absurd (let a : n < length ys = y.1 in let b : length xs ≤ n = x.0 in omega arith)
    from (inr x) (inr y) = y.1 ∙ sym x.1

-- how many levels and categories a scheme has
abbrev pub Counted : Scheme → Type 0
Counted s = (0 < length s.levels) × (length s.levels ≤ MAX_LEVELS) × (length s.categories ≤ MAX_CATEGORIES)

first_three : (a b c : Bool) (rest : Option SchemeFault)
    → cond a (Some NoLevels) (cond b (Some TooManyLevels) (cond c (Some TooManyCategories) rest)) ≡ None
    → (a ≡ false) × (b ≡ false) × (c ≡ false)
first_three true b c rest none = absurd (cc)
first_three false true c rest none = absurd (cc)
first_three false false true rest none = absurd (cc)
first_three false false false rest none = (refl, refl, refl)

pub counted : (s : Scheme) → IsScheme s → Counted s
counted s faultless =
    let parts : (nat_eq (length s.levels) 0 ≡ false) × (nat_lt MAX_LEVELS (length s.levels) ≡ false) × (nat_lt MAX_CATEGORIES (length s.categories) ≡ false) =
    first_three (nat_eq (length s.levels) 0) (nat_lt MAX_LEVELS (length s.levels)) (nat_lt MAX_CATEGORIES (length s.categories)) _ faultless in
    (grind (arith, nat_tests, parts.0), grind (arith, nat_tests, parts.1), grind (arith, nat_tests, parts.2))

-- schemes of one count that write the same are one
pub schemes_same : (a b : Scheme) → IsScheme a → bounds_of a ≡ bounds_of b → ((n : ℕ) → n < MAX_LEVELS → IsWrittenAlike a b (level_alone n))
    → ((n : ℕ) → n < MAX_CATEGORIES → IsWrittenAlike a b (lowest_with n)) → b ≡ a
schemes_same a b faultless bounds levels categories =
    let many : Counted a = counted a faultless in
    let some : 0 < length a.levels = many.0 in
    let few : length a.levels ≤ MAX_LEVELS = many.1 in
    let fewer : length a.categories ≤ MAX_CATEGORIES = many.2 in
    let level : (n : ℕ) → n < length a.levels → name_at b.levels n ≡ name_at a.levels n =
    (λ n within. sym (level_written b n) ∙ levels n (omega arith) (has_level a n within) ∙ level_written a n) in
    let lowest : name_at b.levels 0 ≡ name_at a.levels 0 = level 0 some in
    let category : (n : ℕ) → n < length a.categories → name_at b.categories n ≡ name_at a.categories n =
    (λ n within. behind a b n lowest (sym (category_written b n (omega arith))
    ∙ categories n (omega arith) (has_category a n some within) ∙ category_written a n (omega arith))) in
    let first : b.levels ≡ a.levels = same_names a.levels b.levels (ap (λ x. x.levels) bounds) level in
    let second : b.categories ≡ a.categories = same_names a.categories b.categories (ap (λ x. x.categories) bounds) category in
    (λ i. record { levels = first i; categories = second i }) where
      behind : (a b : Scheme) (n : ℕ) → name_at b.levels 0 ≡ name_at a.levels 0
          → name_at b.levels 0 ++ (58 ∷ name_at b.categories n) ≡ name_at a.levels 0 ++ (58 ∷ name_at a.categories n) → name_at b.categories n ≡ name_at a.categories n
      behind a b n lowest same =
          let both : 58 ∷ name_at b.categories n ≡ 58 ∷ name_at a.categories n =
          append_cancel_left (name_at a.levels 0) _ _ (ap (λ t. t ++ (58 ∷ name_at b.categories n)) (sym lowest) ∙ same) in
          cc
