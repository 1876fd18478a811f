-- The parts of a text as a reader meets them, one after another.
use Rattle.std.specs.Prelude.{◌≡◌, ◌≢◌, ◌<◌, ◌≤◌, ◌+◌, ◌-◌, ℕ, suc, Bool, true, false, cond, ◌&&◌, nat_eq, List, [], ◌∷◌, ◌++◌, length, take, Result, Ok, Err, refl}
use Rattle.std.specs.Ordering.{nat_cmp}
use Rattle.std.specs.FinSet.{FinSet, empty}
use Rattle.std.specs.List.{prefix_len, onto_first}
use Rattle.std.specs.Str.{IsUtf8, IsCharBoundary}
use Rattle.std.proofs.Common.{◌⊎◌, inl, inr, arith, sym, ap, ◌∙◌, subst, get_or, length-append}
use Rattle.std.proofs.lemmas.Bool.{and_parts, both_ways}
use Rattle.std.proofs.Math.Bool.{and-true}
use Rattle.std.proofs.Math.Seq.{take-append_seam}
use Rattle.std.proofs.lemmas.Bool.Decides.{nat_tests}
use Rattle.std.proofs.lemmas.List.Sums.{prefix_len_passes, prefix_len-le-length}
use Rattle.std.proofs.lemmas.Str.{IsCharBoundary-after_ascii, IsCharBoundary-from_take, IsUtf8-past_char, encode_ascii}
use Rattle.std.specs.Cmp.Derive.{both_true}
use Rattle.mls_labels.specs.Names.{is_name, is_name_len, is_name_byte}
use Rattle.mls_labels.specs.Reading.{place_of, with_one, with_words, words_of, tail_at, front_of, rest_of}
use Rattle.mls_labels.specs.declared.label_fault.LabelFault.{LabelFault}
use Rattle.mls_labels.specs.declared.label_fault.LabelFault.TheVariants.{BadForm}
use Rattle.mls_labels.proofs.LabelForms.{clean, not_comma, first_part}

length-front_of : (text : List ℕ) → length (front_of text) ≡ prefix_len is_name_byte text
unfolding front_of
length-front_of [] = refl
length-front_of (b ∷ text) = elim (is_name_byte b) as (λ t. length (cond t (b ∷ front_of text) []) ≡ cond t (1 + prefix_len is_name_byte text) 0) [
  | true ↦ let more : length (front_of text) ≡ prefix_len is_name_byte text = length-front_of text in omega arith
  | false ↦ refl
]

clean_front : (text : List ℕ) → clean (front_of text) ≡ true
unfolding front_of
clean_front [] = refl
clean_front (b ∷ text) = elim (is_name_byte b) as (λ t. is_name_byte b ≡ t → clean (cond t (b ∷ front_of text) []) ≡ true) [
  | true ↦ λ e. both_true e (clean_front text)
  | false ↦ λ _. refl
] refl

-- the front is a name where it is of a name's length
pub is_name-front_of : (text : List ℕ) (n : ℕ) (t : Bool) → n ≡ prefix_len is_name_byte text → t ≡ is_name_len n → is_name (front_of text) ≡ t
is_name-front_of text n t e f = rw (length-front_of text, clean_front text, f, e) (and-true (is_name_len (prefix_len is_name_byte text)))

small_byte : (b : ℕ) → is_name_byte b ≡ true → b < 128
small_byte b h = grind (arith, nat_tests, h)

some_byte : (n : ℕ) → is_name_len n ≡ true → 0 < n
some_byte n h = grind (arith, nat_tests, h)

-- a text may be cut behind a name
pub front_boundary : (text : List ℕ) (n : ℕ) (t : Bool) → IsUtf8 text → n ≡ prefix_len is_name_byte text → t ≡ is_name_len n → t ≡ true → IsCharBoundary text n
front_boundary text n t utf8 e f h =
    let some : 0 < n = some_byte n (sym f ∙ h) in
    let within : prefix_len is_name_byte text ≤ length text = prefix_len-le-length is_name_byte text in
    let small : get_or text (n - 1) 0 < 128 = small_byte _ (prefix_len_passes is_name_byte text (n - 1) 0 (omega arith)) in
    let last : n - 1 + 1 ≡ n = omega arith in
    subst (IsCharBoundary text) last (IsCharBoundary-after_ascii text (n - 1) utf8 (omega arith) small)

-- where a comma stands behind the front
words_at_comma : (text others : List ℕ) → rest_of text ≡ 44 ∷ others → words_of text ≡ front_of text ∷ words_of others
unfolding front_of rest_of
words_at_comma [] others h = cc
words_at_comma (b ∷ text) others h = elim (is_name_byte b) as (λ t. is_name_byte b ≡ t → cond t (rest_of text) (b ∷ text) ≡ 44 ∷ others → words_of (b ∷ text) ≡ cond t (b ∷ front_of text) [] ∷ words_of others) [
  | true ↦ λ e h. rw (not_comma b e) (ap (onto_first b) (words_at_comma text others h))
  | false ↦ λ _ h. let comma : b ≡ 44 = cc in let same : text ≡ others = cc in rw (comma, same) refl
] refl h

-- where nothing does
words_at_end : (text : List ℕ) → rest_of text ≡ [] → words_of text ≡ front_of text ∷ []
unfolding front_of rest_of
words_at_end [] h = refl
words_at_end (b ∷ text) h = elim (is_name_byte b) as (λ t. is_name_byte b ≡ t → cond t (rest_of text) (b ∷ text) ≡ [] → words_of (b ∷ text) ≡ cond t (b ∷ front_of text) [] ∷ []) [
  | true ↦ λ e h. rw (not_comma b e) (ap (onto_first b) (words_at_end text h))
  | false ↦ λ _ h. cc
] refl h

-- a first word of bytes of names is the front, and ends at a comma or at the end
first_word : (text word : List ℕ) (words : List (List ℕ)) → words_of text ≡ word ∷ words → clean word ≡ true → (front_of text ≡ word) × ((rest_of text ≡ []) ⊎ ((others : List ℕ) × (rest_of text ≡ 44 ∷ others)))
unfolding front_of rest_of
first_word [] word words e h = let none : [] ≡ word = cc in (none, inl refl)
first_word (b ∷ text) word words e h = elim (nat_eq b 44) as (λ t. nat_eq b 44 ≡ t → cond t ([] ∷ words_of text) (onto_first b (words_of text)) ≡ word ∷ words → (front_of (b ∷ text) ≡ word) × ((rest_of (b ∷ text) ≡ []) ⊎ ((others : List ℕ) × (rest_of (b ∷ text) ≡ 44 ∷ others)))) [
  | true ↦ λ comma e. let none : [] ≡ word = cc in let is : b ≡ 44 = grind (arith, nat_tests, comma) in rw is (none, inr (text, refl))
  | false ↦ λ _ e.
      let more = first_part text in
      let joined : (b ∷ more.0) ∷ more.1 ≡ word ∷ words = sym (ap (onto_first b) more.2) ∙ e in
      let same : b ∷ more.0 ≡ word = cc in
      let bytes : (is_name_byte b && clean more.0) ≡ true = ap clean same ∙ h in
      let parts = and_parts (is_name_byte b) (clean more.0) bytes in
      let later = first_word text more.0 more.1 more.2 parts.1 in
      rw parts.0 (ap (λ w. b ∷ w) later.0 ∙ same, later.1)
] refl e

clean_name : (word : List ℕ) → is_name word ≡ true → clean word ≡ true
clean_name word h = (and_parts (is_name_len (length word)) (clean word) h).1

module _ (names : List (List ℕ)) (found : Result (FinSet nat_cmp) LabelFault) where
  bad_first : (text : List ℕ) → ((word : List ℕ) (words : List (List ℕ)) → words_of text ≡ word ∷ words → is_name word ≡ true → ⊥) → with_words names found (words_of text) ≡ Err BadForm
  unfolding with_words
  bad_first text bad =
      let first = first_part text in
      rw first.2 (elim (is_name first.0) as (λ t. is_name first.0 ≡ t → cond t (with_words names (with_one found (place_of names first.0)) first.1) (Err BadForm) ≡ Err BadForm) [
        | true ↦ λ named. absurd (bad first.0 first.1 first.2 named)
        | false ↦ λ _. refl
      ] refl)

  -- where no name stands at the front
  pub bad_front : (text : List ℕ) → is_name (front_of text) ≡ false → with_words names found (words_of text) ≡ Err BadForm
  bad_front text h = bad_first text (λ word words e named. both_ways (is_name (front_of text)) h (rw (first_word text word words e (clean_name word named)).0 named))

  -- where something else than a comma stands behind it
  pub bad_after : (text : List ℕ) → 0 < length (rest_of text) → ((others : List ℕ) → rest_of text ≢ 44 ∷ others) → with_words names found (words_of text) ≡ Err BadForm
  bad_after text some other = bad_first text (λ word words e named. elim (first_word text word words e (clean_name word named)).1 [
    | inl none ↦ let empty : length (rest_of text) ≡ 0 = ap length none in omega arith
    | inr comma ↦ other comma.0 comma.1
  ])

  -- the last word
  pub last_word : (text : List ℕ) → is_name (front_of text) ≡ true → rest_of text ≡ [] → with_words names found (words_of text) ≡ with_one found (place_of names (front_of text))
  unfolding with_words
  last_word text named e = rw (words_at_end text e, named) refl

  -- a word that others follow
  pub next_word : (text others : List ℕ) → is_name (front_of text) ≡ true → rest_of text ≡ 44 ∷ others → with_words names found (words_of text) ≡ with_words names (with_one found (place_of names (front_of text))) (words_of others)
  unfolding with_words
  next_word text others named e = rw (words_at_comma text others e, named) refl

-- what follows is shorter
pub rest_of-le : (text : List ℕ) → length (rest_of text) ≤ length text
unfolding rest_of
rest_of-le [] = omega arith
rest_of-le (b ∷ text) = elim (is_name_byte b) as (λ t. length (cond t (rest_of text) (b ∷ text)) ≤ suc (length text)) [
  | true ↦ let more : length (rest_of text) ≤ length text = rest_of-le text in omega arith
  | false ↦ omega arith
]

pub none_left : (text : List ℕ) → length text ≡ 0 → text ≡ []
none_left [] h = refl
none_left (b ∷ text) h = absurd (omega arith)

-- where something else than a colon stands behind the level
pub bad_tail : (names : List (List ℕ)) (text : List ℕ) → 0 < length text → ((words : List ℕ) → text ≢ 58 ∷ words) → tail_at names text ≡ Err BadForm
bad_tail names [] some other = absurd (omega arith)
bad_tail names (b ∷ text) some other = elim (nat_eq b 58) as (λ t. nat_eq b 58 ≡ t → cond t (with_words names (Ok empty) (words_of text)) (Err BadForm) ≡ Err BadForm) [
  | true ↦ λ e. let colon : b ≡ 58 = grind (arith, nat_tests, e) in absurd (other text (ap (λ c. c ∷ text) colon))
  | false ↦ λ _. refl
] refl

past_ascii : (b : ℕ) (text : List ℕ) → b < 128 → IsUtf8 (b ∷ text) → IsUtf8 text
past_ascii b text small utf8 = IsUtf8-past_char (b ∷ text) text b utf8 (ap (λ c. c ++ text) (sym (encode_ascii b small)))

rest_utf8 : (text : List ℕ) → IsUtf8 text → IsUtf8 (rest_of text)
unfolding rest_of
rest_utf8 [] utf8 = utf8
rest_utf8 (b ∷ text) utf8 = elim (is_name_byte b) as (λ t. is_name_byte b ≡ t → IsUtf8 (cond t (rest_of text) (b ∷ text))) [
  | true ↦ λ e. rest_utf8 text (past_ascii b text (small_byte b e) utf8)
  | false ↦ λ _. utf8
] refl

-- what stands behind a separator is text
pub others_utf8 : (text others : List ℕ) (separator : ℕ) → separator < 128 → IsUtf8 text → rest_of text ≡ separator ∷ others → IsUtf8 others
others_utf8 text others separator small utf8 e = past_ascii separator others small (subst IsUtf8 e (rest_utf8 text utf8))

-- the end of a text is a place where a longer one may be cut
pub old_end : (old new more : List ℕ) → IsUtf8 old → IsUtf8 new → new ≡ old ++ more → IsCharBoundary new (length old)
old_end old new more utf8 also e =
    let front : take (length old) new ≡ old = ap (take (length old)) e ∙ take-append_seam old more in
    let longer : length new ≡ length old + length more = ap length e ∙ length-append old more in
    IsCharBoundary-from_take new (length old) also (omega arith) (subst IsUtf8 (sym front) utf8)
