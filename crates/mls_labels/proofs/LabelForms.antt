-- The form of label text, and the parts that a reader takes it into.
use Rattle.std.specs.Prelude.{◌≡◌, ℕ, suc, ◌+◌, Bool, true, false, cond, ◌&&◌, nat_eq, List, [], ◌∷◌, take, drop, refl}
use Rattle.std.specs.List.{list_all, prefix_len, onto_first}
use Rattle.std.proofs.Common.{inl, inr, arith, sym, ap, ◌∙◌}
use Rattle.std.proofs.lemmas.Bool.{and_parts, both_ways, eqb-true}
use Rattle.std.specs.Cmp.Derive.{both_true}
use Rattle.std.proofs.lemmas.Bool.Decides.{nat_tests}
use Rattle.mls_labels.specs.Names.{is_name, is_name_byte}
use Rattle.mls_labels.specs.LabelText.{AreWords, IsSplit}
use Rattle.mls_labels.specs.Reading.{words_of, front_of, rest_of}

-- a text of bytes of names
abbrev pub clean : List ℕ → Bool
clean word = list_all is_name_byte word

pub not_comma : (b : ℕ) → is_name_byte b ≡ true → nat_eq b 44 ≡ false
not_comma b h = elim (nat_eq b 44) as (λ t. nat_eq b 44 ≡ t → nat_eq b 44 ≡ false) [
  | true ↦ λ e. let is : b ≡ 44 = grind (arith, nat_tests, e) in absurd (both_ways (is_name_byte 44) refl (rw is at h))
  | false ↦ λ e. e
] refl

not_colon : (b : ℕ) → is_name_byte b ≡ true → nat_eq b 58 ≡ false
not_colon b h = elim (nat_eq b 58) as (λ t. nat_eq b 58 ≡ t → nat_eq b 58 ≡ false) [
  | true ↦ λ e. let is : b ≡ 58 = grind (arith, nat_tests, e) in absurd (both_ways (is_name_byte 58) refl (rw is at h))
  | false ↦ λ e. e
] refl

-- the words of a text are those between its commas
pub words_are : (text : List ℕ) (words : List (List ℕ)) → AreWords text words → words_of text ≡ words
words_are [] words e = sym e
words_are (b ∷ text) words (inl (is, rest, e, more)) = rw is (ap (λ ws. [] ∷ ws) (words_are text rest more) ∙ sym e)
words_are (b ∷ text) words (inr (named, first, rest, e, more)) = rw (not_comma b named) (ap (onto_first b) (words_are text (first ∷ rest) more) ∙ sym e)

pub first_part : (text : List ℕ) → (word : List ℕ) × (words : List (List ℕ)) × (words_of text ≡ word ∷ words)
first_part [] = ([], [], refl)
first_part (b ∷ text) = let more = first_part text in
    elim (nat_eq b 44) as (λ t. (word : List ℕ) × (words : List (List ℕ)) × (cond t ([] ∷ words_of text) (onto_first b (words_of text)) ≡ word ∷ words)) [
      | true ↦ ([], words_of text, refl)
      | false ↦ (b ∷ more.0, more.1, ap (onto_first b) more.2)
    ]

goes_on : (b : ℕ) (text word : List ℕ) (words : List (List ℕ)) → words_of text ≡ word ∷ words → (list_all clean (words_of text) ≡ true → AreWords text (words_of text)) → list_all clean (onto_first b (words_of text)) ≡ true → AreWords (b ∷ text) (onto_first b (words_of text))
goes_on b text word words e later h =
    let all : ((is_name_byte b && clean word) && list_all clean words) ≡ true = rw e at h in
    let parts = and_parts (is_name_byte b && clean word) (list_all clean words) all in
    let front = and_parts (is_name_byte b) (clean word) parts.0 in
    let rest : list_all clean (words_of text) ≡ true = rw e (both_true front.1 parts.1) in
    inr (front.0, word, words, ap (onto_first b) e, rw e at (later rest))

-- where the words between the commas are of bytes of names, they are the words
pub are_words : (text : List ℕ) → list_all clean (words_of text) ≡ true → AreWords text (words_of text)
are_words [] h = refl
are_words (b ∷ text) h =
    elim (nat_eq b 44) as (λ t. nat_eq b 44 ≡ t → list_all clean (cond t ([] ∷ words_of text) (onto_first b (words_of text))) ≡ true → AreWords (b ∷ text) (cond t ([] ∷ words_of text) (onto_first b (words_of text)))) [
      | true ↦ λ e h. inl (eqb-true b 44 e, words_of text, refl, are_words text h)
      | false ↦ λ e h. let more = first_part text in goes_on b text more.0 more.1 more.2 (are_words text) h
    ] refl h

-- what stands after a level: nothing, or a colon and words
abbrev pub IsTail : List ℕ → List (List ℕ) → Type 0
IsTail [] categories = categories ≡ []
IsTail (b ∷ text) categories = (b ≡ 58) × AreWords text categories

-- the level is the bytes of a name at the front
pub split_parts : (text level : List ℕ) (categories : List (List ℕ)) → IsSplit text level categories → (front_of text ≡ level) × IsTail (rest_of text) categories
unfolding front_of rest_of
split_parts [] level categories h = (sym h.0, h.1)
split_parts (b ∷ text) level categories (inl (is, none, words)) = rw (is) (sym none, (refl, words))
split_parts (b ∷ text) level categories (inr (named, first, e, more)) =
    let parts = split_parts text first categories more in
    rw named (ap (λ w. b ∷ w) parts.0 ∙ sym e, parts.1)

pub is_split : (text : List ℕ) (categories : List (List ℕ)) → IsTail (rest_of text) categories → IsSplit text (front_of text) categories
unfolding front_of rest_of
is_split [] categories h = (refl, h)
is_split (b ∷ text) categories h =
    elim (is_name_byte b) as (λ t. is_name_byte b ≡ t → IsTail (cond t (rest_of text) (b ∷ text)) categories → IsSplit (b ∷ text) (cond t (b ∷ front_of text) []) categories) [
      | true ↦ λ e h. inr (e, front_of text, refl, is_split text categories h)
      | false ↦ λ e h. inl (h.0, refl, h.1)
    ] refl h

-- the front and the rest, as a reader counts and cuts them
pub front_of-take : (text : List ℕ) → take (prefix_len is_name_byte text) text ≡ front_of text
unfolding front_of
front_of-take [] = refl
front_of-take (b ∷ text) = elim (is_name_byte b) as (λ t. take (cond t (1 + prefix_len is_name_byte text) 0) (b ∷ text) ≡ cond t (b ∷ front_of text) []) [
  | true ↦ let e : 1 + prefix_len is_name_byte text ≡ suc (prefix_len is_name_byte text) = omega arith in rw e (ap (λ w. b ∷ w) (front_of-take text))
  | false ↦ refl
]

pub rest_of-drop : (text : List ℕ) → drop (prefix_len is_name_byte text) text ≡ rest_of text
unfolding rest_of
rest_of-drop [] = refl
rest_of-drop (b ∷ text) = elim (is_name_byte b) as (λ t. drop (cond t (1 + prefix_len is_name_byte text) 0) (b ∷ text) ≡ cond t (rest_of text) (b ∷ text)) [
  | true ↦ let e : 1 + prefix_len is_name_byte text ≡ suc (prefix_len is_name_byte text) = omega arith in rw e (rest_of-drop text)
  | false ↦ refl
]

-- names are of bytes of names
pub names_clean : (words : List (List ℕ)) → list_all is_name words ≡ true → list_all clean words ≡ true
names_clean [] h = refl
names_clean (word ∷ words) h =
    let parts = and_parts (is_name word) (list_all is_name words) h in
    both_true (and_parts _ (clean word) parts.0).1 (names_clean words parts.1)
