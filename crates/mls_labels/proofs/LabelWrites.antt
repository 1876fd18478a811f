-- What is written of a label spells it.
use Rattle.std.specs.Prelude.{◌≡◌, ◌<◌, ◌≤◌, ◌+◌, ℕ, zero, suc, Bool, true, false, cond, ◌&&◌, nat_lt, List, [], ◌∷◌, ◌++◌, length, map, Some, Result, Ok, Err, OnErr, slice_get, unwrap_or, refl}
use Rattle.std.specs.Ordering.{nat_cmp}
use Rattle.std.specs.Cmp.{nat_cmp_total}
use Rattle.std.specs.List.{list_all}
use Rattle.std.specs.FinSet.{FinSet, empty, insert, contains, same_set, nat_cmp-IsAntisymmetric}
use Rattle.std.proofs.Common.{inl, inr, arith, sym, ap, ◌∙◌}
use Rattle.mls_labels.proofs.Numbers.{ascending-all}
use Rattle.std.proofs.lemmas.Bool.{and_parts, lt-ltb}
use Rattle.std.proofs.Math.Bool.{and-false}
use Rattle.std.proofs.lemmas.Bool.Decides.{nat_tests}
use Rattle.std.proofs.lemmas.Option.{slice_get-get_or, unwrap_or-slice_get}
use Rattle.std.proofs.lemmas.List.{append_assoc}
use Rattle.std.specs.Cmp.Derive.{both_true}
use Rattle.mls_labels.specs.Ascending.{numbers, ascending}
use Rattle.mls_facts.specs.Each.{each}
use Rattle.mls_facts.specs.Passing.{passing}
use Rattle.mls_facts.proofs.Each.{each-contains}
use Rattle.mls_facts.proofs.Passing.{contains-passing}
use Rattle.mls_labels.specs.Label.{Label, has_label}
use Rattle.mls_labels.specs.Names.{is_name, is_name_len, is_name_byte, has_twice}
use Rattle.mls_labels.specs.Scheme.{Scheme, IsScheme, bounds_of}
use Rattle.mls_labels.specs.LabelText.{Extends, AreWords, IsSplit, IsForm, Spells, name_at, words_after, written}
use Rattle.mls_labels.specs.Reading.{with_words, label_with, label_at}
use Rattle.mls_labels.proofs.NamePlaces.{place_of-named}
use Rattle.mls_labels.proofs.LabelForms.{clean, IsTail, names_clean}
use Rattle.mls_labels.proofs.LabelReads.{form_reads, read_is}
use Rattle.mls_labels.proofs.SchemeFacts.{sound}

are_words_after : (word : List ℕ) (words : List (List ℕ)) → clean word ≡ true → list_all clean words ≡ true → AreWords (word ++ words_after 44 words) (word ∷ words)
are_words_after [] [] h k = refl
are_words_after [] (w ∷ words) h k = let parts = and_parts (clean w) (list_all clean words) k in inl (refl, w ∷ words, refl, are_words_after w words parts.0 parts.1)
are_words_after (b ∷ word) words h k = let parts = and_parts (is_name_byte b) (clean word) h in inr (parts.0, word, words, refl, are_words_after word words parts.1 k)

is_tail_after : (words : List (List ℕ)) → list_all clean words ≡ true → IsTail (words_after 58 words) words
is_tail_after [] k = refl
is_tail_after (w ∷ words) k = let parts = and_parts (clean w) (list_all clean words) k in (refl, are_words_after w words parts.0 parts.1)

is_split_after : (level rest : List ℕ) (categories : List (List ℕ)) → clean level ≡ true → IsTail rest categories → IsSplit (level ++ rest) level categories
is_split_after [] [] categories h tail = (refl, tail)
is_split_after [] (b ∷ rest) categories h tail = inl (tail.0, refl, tail.1)
is_split_after (b ∷ level) rest categories h tail = let parts = and_parts (is_name_byte b) (clean level) h in inr (parts.0, level, refl, is_split_after level rest categories parts.1 tail)

is_form_after : (level : List ℕ) (words : List (List ℕ)) → is_name level ≡ true → list_all is_name words ≡ true → IsForm (level ++ words_after 58 words) level words
is_form_after level words named all = record {
  split = is_split_after level (words_after 58 words) words (and_parts (is_name_len (length level)) (clean level) named).1 (is_tail_after words (names_clean words all));
  level_is_name = named;
  each_is_name = all;
}

name_there : (names : List (List ℕ)) (n : ℕ) → n < length names → slice_get names n ≡ Some (name_at names n)
name_there names n within = slice_get-get_or names n [] within ∙ ap Some (sym (unwrap_or-slice_get names n []))

name_passes : (names : List (List ℕ)) (n : ℕ) → list_all is_name names ≡ true → n < length names → is_name (name_at names n) ≡ true
name_passes [] n all within = absurd (omega arith)
name_passes (x ∷ names) zero all within = (and_parts (is_name x) (list_all is_name names) all).0
name_passes (x ∷ names) (suc n) all within = name_passes names n (and_parts (is_name x) (list_all is_name names) all).1 (omega arith)

all_named : (names : List (List ℕ)) (ns : List ℕ) → list_all is_name names ≡ true → list_all (λ n. nat_lt n (length names)) ns ≡ true → list_all is_name (map (name_at names) ns) ≡ true
all_named names [] all within = refl
all_named names (n ∷ ns) all within =
    let parts = and_parts (nat_lt n (length names)) (list_all (λ k. nat_lt k (length names)) ns) within in
    let below : n < length names = grind (arith, nat_tests, parts.0) in
    both_true (name_passes names n all below) (all_named names ns all parts.1)

not_yet : (p : ℕ → Bool) (n : ℕ) → contains (passing p n) n ≡ false
not_yet p n = let none : nat_lt n n ≡ false = grind (arith, nat_tests) in contains-passing p n n ∙ ap (λ t. t && p n) none

-- the names of numbers that pass are read as those numbers
numbers_read : (names : List (List ℕ)) (p : ℕ → Bool) (count from total : ℕ) → total ≡ from + count → has_twice names ≡ false → list_all is_name names ≡ true → ((n : ℕ) → p n ≡ true → n < length names)
    → with_words names (Ok (passing p from)) (map (name_at names) (numbers p count from)) ≡ Ok (passing p total)
unfolding with_words numbers passing
numbers_read names p zero from total e once all known = let same : from ≡ total = omega arith in ap (λ n. Ok (passing p n)) same
numbers_read names p (suc count) from total e once all known =
    let rest : with_words names (Ok (passing p (suc from))) (map (name_at names) (numbers p count (suc from))) ≡ Ok (passing p total) = numbers_read names p count (suc from) total (omega arith) once all known in
    elim (p from) as (λ b. p from ≡ b → with_words names (Ok (cond b (insert (passing p from) from) (passing p from))) (map (name_at names) (numbers p count (suc from))) ≡ Ok (passing p total) → with_words names (Ok (passing p from)) (map (name_at names) (cond b (from ∷ numbers p count (suc from)) (numbers p count (suc from)))) ≡ Ok (passing p total)) [
      | true ↦ λ here rest. let within : from < length names = known from here in
          rw (name_passes names from all within, place_of-named names (name_at names from) from once (name_there names from within), not_yet p from) rest
      | false ↦ λ _ rest. rest
    ] refl rest

all_there : (s : FinSet nat_cmp) → ((n : ℕ) → contains s n ≡ true → n < 256) → passing (contains s) 256 ≡ s
all_there s known = same_set nat_cmp_total nat_cmp-IsAntisymmetric _ s (λ q. contains-passing (contains s) 256 q ∙ elim (contains s q) as (λ b. contains s q ≡ b → (nat_lt q 256 && b) ≡ b) [
  | true ↦ λ there. rw (lt-ltb q 256 (known q there)) refl
  | false ↦ λ _. and-false (nat_lt q 256)
] refl)

from_none : (names : List (List ℕ)) (c : FinSet nat_cmp) → has_twice names ≡ false → list_all is_name names ≡ true → ((n : ℕ) → contains c n ≡ true → n < length names) → with_words names (Ok empty) (map (name_at names) (ascending c)) ≡ Ok (passing (contains c) 256)
unfolding passing
from_none names c once all known = numbers_read names (contains c) 256 0 256 refl once all known

-- what is written is read as the label
pub written_read : (s : Scheme) (l : Label) → IsScheme s → has_label (bounds_of s) l ≡ true → label_at s (written s l) ≡ Ok l
written_read s l is has =
    let facts = sound s is in
    let parts = and_parts (nat_lt l.level (length s.levels)) (each l.categories (λ n. nat_lt n (length s.categories))) has in
    let level : l.level < length s.levels = grind (arith, nat_tests, parts.0) in
    let known : (n : ℕ) → contains l.categories n ≡ true → n < length s.categories = λ n there. below n (length s.categories) (each-contains nat_cmp_total nat_cmp-IsAntisymmetric l.categories (λ k. nat_lt k (length s.categories)) n parts.1 there) in
    let few : length s.categories ≤ 256 = facts.categories in
    let name = name_at s.levels l.level in
    let words = map (name_at s.categories) (ascending l.categories) in
    let all : list_all is_name words ≡ true = all_named s.categories (ascending l.categories) facts.category_names (ascending-all l.categories (λ n. nat_lt n (length s.categories)) parts.1) in
    form_reads s (written s l) name words (is_form_after name words (name_passes s.levels l.level facts.level_names level) all)
    ∙ rw (place_of-named s.levels name l.level facts.levels_once (name_there s.levels l.level level))
    (ap (label_with (Some l.level)) (from_none s.categories l.categories facts.categories_once facts.category_names known) ∙ ap (λ c. Ok (record { level = l.level; categories = c })) (all_there l.categories (λ n there. less n (length s.categories) (known n there) few))) where
      below : (n m : ℕ) → nat_lt n m ≡ true → n < m
      below n m h = grind (arith, nat_tests, h)

      less : (n m : ℕ) → n < m → m ≤ 256 → n < 256
      less n m h k = omega arith

-- what is written spells the label
pub written_spells : (s : Scheme) (l : Label) → IsScheme s → has_label (bounds_of s) l ≡ true → Spells s (written s l) l
written_spells s l is has = let facts = sound s is in rw (written_read s l is has) at (read_is s (written s l) (facts.levels_once, facts.categories_once))

-- a name and those after it
pub words_more : (old : List ℕ) (separator : ℕ) (names : List (List ℕ)) (n : ℕ) (ns ms : List ℕ) (name : List ℕ) → ms ≡ n ∷ ns → slice_get names n ≡ Some name
    → (old ++ separator ∷ name) ++ words_after 44 (map (name_at names) ns) ≡ old ++ words_after separator (map (name_at names) ms)
words_more old separator names n ns ms name e there =
    let is : name_at names n ≡ name = ap (λ o. unwrap_or o []) there in
    rw (e, is, append_assoc) refl

-- a number that stands first is within
pub first_within : (n len : ℕ) (ns ms : List ℕ) → ms ≡ n ∷ ns → list_all (λ k. nat_lt k len) ms ≡ true → n < len
first_within n len ns ms e all = let parts = and_parts (nat_lt n len) (list_all (λ k. nat_lt k len) ns) (rw e at all) in grind (arith, nat_tests, parts.0)

pub others_within : (n len : ℕ) (ns ms : List ℕ) → ms ≡ n ∷ ns → list_all (λ k. nat_lt k len) ms ≡ true → list_all (λ k. nat_lt k len) ns ≡ true
others_within n len ns ms e all = (and_parts (nat_lt n len) (list_all (λ k. nat_lt k len) ns) (rw e at all)).1

-- what goes on where one goes on goes on
pub Extends-trans : (a b c : List ℕ) → Extends a b → Extends b c → Extends a c
Extends-trans a b c h k = (h.0 ++ k.0, k.1 ∙ ap (λ w. w ++ k.0) h.1 ∙ append_assoc a h.0 k.0)

-- a fact is one where a call fails, too
pub on_err : {T E P : Type 0} (r : Result T E) → P → OnErr r P
on_err (Ok x) p = tt
on_err (Err e) p = p
