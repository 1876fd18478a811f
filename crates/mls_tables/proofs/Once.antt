-- That the indexes give each triple of a set once.
use Rattle.std.specs.Prelude.{◌≡◌, ℕ, ◌+◌, ◌<◌, ◌≤◌, Bool, true, false, cond, ◌&&◌, ◌||◌, List, [], ◌∷◌, filter, refl}
use Rattle.std.specs.FinSet as set
use Rattle.std.specs.List.{list_any, range_with_len, flat_map, count_by}
use Rattle.std.specs.List.Sorted.{IsStrictlyIncreasing, IsStrictlySortedBy}
use Rattle.std.specs.Ordering.{nat_cmp}
use Rattle.std.proofs.Common.{arith, sym, ap, subst, ◌∙◌, eqb, ltb}
use Rattle.std.proofs.lemmas.Bool.{eqb-true, lt-ltb}
use Rattle.std.proofs.lemmas.List.Sums.{sum_by-append, sum_by-cons}
use Rattle.std.proofs.lemmas.Map.Keys.{sorted_tail, sorted_from_strictly_increasing}
use Rattle.mls_facts.proofs.Filters.{filter_all}
use Rattle.mls_facts.proofs.Increasing.{IsStrictlyIncreasing-filter_range}
use Rattle.mls_facts.proofs.Ranges.{list_any-range}
use Rattle.mls_tables.specs.declared.limits.TheConstants.{MAX_SUBJECTS, MAX_OBJECTS}
use Rattle.mls_tables.specs.declared.mode.Mode.{Mode}
use Rattle.mls_tables.specs.declared.mode.Mode.TheVariants.{Execute, Read, Append, Write}
use Rattle.mls_tables.specs.Mode.{mode_number}
use Rattle.mls_tables.specs.Triples.{Triple, TripleSet, triple_cmp, is_triple}
use Rattle.mls_tables.specs.Table.{IsWithin}
use Rattle.mls_tables.specs.Held.{is_held, objects_of, subjects_of}
use Rattle.mls_tables.specs.Once.{accesses_at, by_subject, by_object, each_below, times}
use Rattle.mls_tables.proofs.Laws.{is_triple-true, held_at, triples_total, same_triples, eq_by_cmp-triple}
use Rattle.mls_tables.proofs.Rows.{IsStrictlyIncreasing-listed}
use Rattle.mls_tables.proofs.Indexes.{list_any-listed}
use Rattle.mls_tables.proofs.Ordered.{behind_absent}

-- a number where a test passes, else none
abbrev number : Bool → ℕ → ℕ
number b n = cond b n 0

kept_or_not : (p e d : Bool) (m n : ℕ) → (e ≡ true → p ≡ d) → n ≡ cond d m 0 → cond p (cond e 1 0 + n) n ≡ cond d (cond e 1 0 + m) 0
kept_or_not true true true m n same is = ap (λ k. 1 + k) is
kept_or_not true true false m n same is = let no : true ≡ false = same refl in cc
kept_or_not true false true m n same is = omega (arith, is)
kept_or_not true false false m n same is = omega (arith, is)
kept_or_not false true true m n same is = let no : false ≡ true = same refl in cc
kept_or_not false true false m n same is = is
kept_or_not false false true m n same is = omega (arith, is)
kept_or_not false false false m n same is = is

-- of the four modes one is the triple's
four_modes : (x : Mode) (a e : Bool) → cond (a && (e && eqb (mode_number x) 0)) 1 0 + (cond (a && (e && eqb (mode_number x) 1)) 1 0 + (cond (a && (e && eqb (mode_number x) 2)) 1 0 + (cond (a && (e && eqb (mode_number x) 3)) 1 0 + 0))) ≡ cond (a && e) 1 0
four_modes Execute true true = refl
four_modes Read true true = refl
four_modes Append true true = refl
four_modes Write true true = refl
four_modes x true false = refl
four_modes x false e = refl

either : (a r : Bool) (c : ℕ) → (a ≡ true → r ≡ false) → cond a c 0 + cond r c 0 ≡ cond (a || r) c 0
either true true c apart = let no : true ≡ false = apart refl in cc
either true false c apart = omega arith
either false r c apart = omega arith

second_first : (d a e : Bool) → number d (number (a && e) 1) ≡ number e (number d (number a 1))
second_first true true e = refl
second_first true false true = refl
second_first true false false = refl
second_first false a true = refl
second_first false a false = refl

first_first : (d a e : Bool) → number d (number (a && e) 1) ≡ number a (number d (number e 1))
first_first true true e = refl
first_first true false e = refl
first_first false true e = refl
first_first false false e = refl

-- where what is held is listed, the list needn't be asked
in_list : (l d a : Bool) → (d ≡ true → a ≡ true → l ≡ true) → number l (number d (number a 1)) ≡ number a (number d 1)
in_list true true true known = refl
in_list false true true known = let no : false ≡ true = known refl refl in cc
in_list true true false known = refl
in_list false true false known = refl
in_list true false true known = refl
in_list true false false known = refl
in_list false false true known = refl
in_list false false false known = refl

in_range : (l d : Bool) → (d ≡ true → l ≡ true) → number l (number d 1) ≡ number d 1
in_range true d known = refl
in_range false true known = let no : false ≡ true = known refl in cc
in_range false false known = refl

range-rises : (n : ℕ) → IsStrictlySortedBy nat_cmp (range_with_len 0 n)
range-rises n = sorted_from_strictly_increasing (range_with_len 0 n) (subst IsStrictlyIncreasing (filter_all (λ x. true) (range_with_len 0 n) (λ x. refl)) (IsStrictlyIncreasing-filter_range (λ x. true) 0 n))

objects-rise : (b : TripleSet) (s : ℕ) → IsStrictlySortedBy nat_cmp (objects_of b s)
unfolding objects_of
objects-rise b s = sorted_from_strictly_increasing _ (IsStrictlyIncreasing-listed (is_held b s) MAX_OBJECTS)

subjects-rise : (b : TripleSet) (o : ℕ) → IsStrictlySortedBy nat_cmp (subjects_of b o)
unfolding subjects_of
subjects-rise b o = sorted_from_strictly_increasing _ (IsStrictlyIncreasing-listed (λ s. is_held b s o) MAX_SUBJECTS)

object-there : (b : TripleSet) (s o : ℕ) (x : Mode) → o < MAX_OBJECTS → set.contains b (s, o, x) ≡ true → list_any (eqb o) (objects_of b s) ≡ true
unfolding objects_of
object-there b s o x below there = list_any-listed (is_held b s) o MAX_OBJECTS ∙ (λ i. held_at b s o x there i && lt-ltb o MAX_OBJECTS below i)

subject-there : (b : TripleSet) (s o : ℕ) (x : Mode) → s < MAX_SUBJECTS → set.contains b (s, o, x) ≡ true → list_any (eqb s) (subjects_of b o) ≡ true
unfolding subjects_of
subject-there b s o x below there = list_any-listed (λ a. is_held b a o) s MAX_SUBJECTS ∙ (λ i. held_at b s o x there i && lt-ltb s MAX_SUBJECTS below i)

module _ (b : TripleSet) (t : Triple) where
  abbrev there : Bool
  there = set.contains b t

  one_more : (u : Triple) (ts : List Triple) → times t (u ∷ ts) ≡ cond (is_triple t u) 1 0 + times t ts
  one_more u ts = sum_by-cons (λ x. cond (is_triple t x) 1 0) u ts

  -- a triple stands in what a set keeps of a list where it is in the set
  times-filter : (ts : List Triple) → times t (filter (set.contains b) ts) ≡ cond there (times t ts) 0
  times-filter [] = from there where
    from : (d : Bool) → 0 ≡ number d 0
    from true = refl
    from false = refl
  times-filter (u ∷ ts) =
      counted (set.contains b u)
      ∙ kept_or_not (set.contains b u) (is_triple t u) there (times t ts) (times t (filter (set.contains b) ts)) (λ same. ap (set.contains b) (sym (is_triple-true t u same))) (times-filter ts)
      ∙ ap (λ n. cond there n 0) (sym (one_more u ts)) where
        counted : (p : Bool) → times t (cond p (u ∷ filter (set.contains b) ts) (filter (set.contains b) ts)) ≡ cond p (cond (is_triple t u) 1 0 + times t (filter (set.contains b) ts)) (times t (filter (set.contains b) ts))
        counted true = one_more u (filter (set.contains b) ts)
        counted false = refl

  times-accesses_at : (s o : ℕ) → times t (accesses_at b s o) ≡ cond there (cond (eqb t.0 s && eqb t.1 o) 1 0) 0
  times-accesses_at s o =
      times-filter ((s, o, Execute) ∷ (s, o, Read) ∷ (s, o, Append) ∷ (s, o, Write) ∷ [])
      ∙ ap (λ n. cond there n 0) (each_of_four ∙ four_modes t.2 (eqb t.0 s) (eqb t.1 o)) where
        is : Mode → ℕ
        is x = cond (is_triple t (s, o, x)) 1 0

        each_of_four : times t ((s, o, Execute) ∷ (s, o, Read) ∷ (s, o, Append) ∷ (s, o, Write) ∷ []) ≡ is Execute + (is Read + (is Append + (is Write + 0)))
        each_of_four =
            one_more (s, o, Execute) ((s, o, Read) ∷ (s, o, Append) ∷ (s, o, Write) ∷ [])
            ∙ ap (λ n. is Execute + n) (one_more (s, o, Read) ((s, o, Append) ∷ (s, o, Write) ∷ [])
            ∙ ap (λ n. is Read + n) (one_more (s, o, Append) ((s, o, Write) ∷ [])
            ∙ ap (λ n. is Append + n) (one_more (s, o, Write) [])))

  -- over numbers that rise, of which one gives the triple
  times-spread : (f : ℕ → List Triple) (k c : ℕ) (xs : List ℕ) → ((x : ℕ) → times t (f x) ≡ cond (eqb k x) c 0) → IsStrictlySortedBy nat_cmp xs → times t (flat_map f xs) ≡ cond (list_any (eqb k) xs) c 0
  times-spread f k c [] one up = refl
  times-spread f k c (x ∷ xs) one up =
      sum_by-append _ (f x) (flat_map f xs)
      ∙ (λ i. one x i + times-spread f k c xs one (sorted_tail nat_cmp x xs up) i)
      ∙ either (eqb k x) (list_any (eqb k) xs) c (λ same. ap (λ y. list_any (eqb y) xs) (eqb-true k x same) ∙ behind_absent x xs up)

  module _ (n m : ℕ) (few_subjects : n ≤ MAX_SUBJECTS) (few_objects : m ≤ MAX_OBJECTS) (within : IsWithin n m b) where
    row : (s : ℕ) → times t (flat_map (λ o. accesses_at b s o) (objects_of b s)) ≡ cond (eqb t.0 s) (cond there 1 0) 0
    row s =
        times-spread (λ o. accesses_at b s o) t.1 (cond there (cond (eqb t.0 s) 1 0) 0) (objects_of b s) (λ o. times-accesses_at s o ∙ second_first there (eqb t.0 s) (eqb t.1 o)) (objects-rise b s)
        ∙ in_list (list_any (eqb t.1) (objects_of b s)) there (eqb t.0 s) (λ is own. let low : t.1 < m = (within t is).1 in ap (λ k. list_any (eqb t.1) (objects_of b k)) (sym (eqb-true t.0 s own)) ∙ object-there b t.0 t.1 t.2 (omega arith) is)

    column : (o : ℕ) → times t (flat_map (λ s. accesses_at b s o) (subjects_of b o)) ≡ cond (eqb t.1 o) (cond there 1 0) 0
    column o =
        times-spread (λ s. accesses_at b s o) t.0 (cond there (cond (eqb t.1 o) 1 0) 0) (subjects_of b o) (λ s. times-accesses_at s o ∙ first_first there (eqb t.0 s) (eqb t.1 o)) (subjects-rise b o)
        ∙ in_list (list_any (eqb t.0) (subjects_of b o)) there (eqb t.1 o) (λ is own. let low : t.0 < n = (within t is).0 in ap (λ k. list_any (eqb t.0) (subjects_of b k)) (sym (eqb-true t.1 o own)) ∙ subject-there b t.0 t.1 t.2 (omega arith) is)

    pub once_by_subject : times t (by_subject b n) ≡ cond there 1 0
    once_by_subject =
        times-spread (λ s. flat_map (λ o. accesses_at b s o) (objects_of b s)) t.0 (cond there 1 0) (range_with_len 0 n) row (range-rises n)
        ∙ in_range (list_any (eqb t.0) (range_with_len 0 n)) there (λ is. list_any-range t.0 n ∙ lt-ltb t.0 n (within t is).0)

    pub once_by_object : times t (by_object b m) ≡ cond there 1 0
    once_by_object =
        times-spread (λ o. flat_map (λ s. accesses_at b s o) (subjects_of b o)) t.1 (cond there 1 0) (range_with_len 0 m) column (range-rises m)
        ∙ in_range (list_any (eqb t.1) (range_with_len 0 m)) there (λ is. list_any-range t.1 m ∙ lt-ltb t.1 m (within t is).1)

    below : (s : ℕ) → times t (flat_map (λ o. accesses_at b s o) (range_with_len 0 m)) ≡ cond (eqb t.0 s) (cond there 1 0) 0
    below s =
        times-spread (λ o. accesses_at b s o) t.1 (cond there (cond (eqb t.0 s) 1 0) 0) (range_with_len 0 m) (λ o. times-accesses_at s o ∙ second_first there (eqb t.0 s) (eqb t.1 o)) (range-rises m)
        ∙ in_list (list_any (eqb t.1) (range_with_len 0 m)) there (eqb t.0 s) (λ is own. list_any-range t.1 m ∙ lt-ltb t.1 m (within t is).1)

    pub once_below : times t (each_below b n m) ≡ cond there 1 0
    once_below =
        times-spread (λ s. flat_map (λ o. accesses_at b s o) (range_with_len 0 m)) t.0 (cond there 1 0) (range_with_len 0 n) below (range-rises n)
        ∙ in_range (list_any (eqb t.0) (range_with_len 0 n)) there (λ is. list_any-range t.0 n ∙ lt-ltb t.0 n (within t is).0)

-- what a list has, it has more often than never
any-counted : {X : Type 0} (p : X → Bool) (xs : List X) → list_any p xs ≡ ltb 0 (count_by p xs)
any-counted p [] = refl
any-counted p (x ∷ xs) = first (p x) (list_any p xs) (count_by p xs) (any-counted p xs) ∙ sym (ap (ltb 0) (sum_by-cons (λ y. cond (p y) 1 0) x xs)) where
  first : (b any : Bool) (n : ℕ) → any ≡ ltb 0 n → (b || any) ≡ ltb 0 (cond b 1 0 + n)
  first true any n rest = let more : 0 < 1 + n = omega arith in sym (lt-ltb 0 (1 + n) more)
  first false any n rest = rest ∙ ap (ltb 0) (let same : n ≡ 0 + n = omega arith in same)

-- the list of the triples below is the set
pub from_list-each_below : (b : TripleSet) (n m : ℕ) → n ≤ MAX_SUBJECTS → m ≤ MAX_OBJECTS → IsWithin n m b → set.from_list {R = triple_cmp} (each_below b n m) ≡ b
from_list-each_below b n m few_subjects few_objects within = same_triples _ _ same where
  at_most_one : (d : Bool) → ltb 0 (cond d 1 0) ≡ d
  at_most_one true = refl
  at_most_one false = refl

  same : (t : Triple) → set.contains (set.from_list {R = triple_cmp} (each_below b n m)) t ≡ set.contains b t
  same t =
      set.contains-from_list triples_total (each_below b n m) t
      ∙ ap (λ p. list_any p (each_below b n m)) (λ i u. eq_by_cmp-triple t u i)
      ∙ any-counted (is_triple t) (each_below b n m)
      ∙ ap (ltb 0) (once_below b t n m few_subjects few_objects within)
      ∙ at_most_one (set.contains b t)
