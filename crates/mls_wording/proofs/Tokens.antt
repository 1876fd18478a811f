-- What is written of subjects, objects, labels and words is a token of a line, and not a long one.
use Rattle.std.proofs.Common.{◌≡◌, ◌≢◌, ℕ, zero, suc, ◌+◌, ◌*◌, ◌<◌, ◌≤◌, ◌^◌, ◌%◌, ◌⊎◌, inl, inr, Bool, true, false, cond, List, [], ◌∷◌, length, map, Option, None, Some, refl, sym, ap, subst, ◌∙◌, arith}
use Rattle.std.specs.Prelude.{◌||◌, not, nat_eq, nat_le, nat_lt, All}
use Rattle.std.specs.Fmt.{decimal}
use Rattle.std.specs.List.{list_all}
use Rattle.std.specs.Ordering.{nat_cmp}
use Rattle.std.specs.Cmp.Derive.{both_true}
use Rattle.std.specs.FinSet.{FinSet, contains}
use Rattle.std.proofs.lemmas.Bool.{and_parts, both_ways, or_parts, not-false}
use Rattle.std.proofs.lemmas.Bool.Decides.{nat_tests}
use Rattle.std.proofs.lemmas.Fmt.{decimal_by_steps, length-decimal-le}
use Rattle.std.proofs.lemmas.List.{length-append}
use Rattle.std.proofs.lemmas.List.Elements.{All-nil, All-cons}
use Rattle.std.proofs.lemmas.List.Folds.{list_all-append}
use Rattle.mls_labels.specs.Ascending.{numbers, ascending}
use Rattle.mls_labels.specs.Label.{Label}
use Rattle.mls_labels.specs.LabelText.{AreWords, IsSplit, name_at, words_after, written}
use Rattle.mls_labels.specs.Names.{is_name, is_name_len, is_name_byte, has_twice}
use Rattle.mls_labels.specs.Scheme.{Scheme, IsScheme}
use Rattle.mls_labels.specs.declared.limits.TheConstants.{MAX_LEVELS, MAX_CATEGORIES}
use Rattle.mls_labels.specs.declared.scheme_fault.SchemeFault.{SchemeFault}
use Rattle.mls_labels.specs.declared.scheme_fault.SchemeFault.TheVariants.{NoLevels, TooManyLevels, TooManyCategories, BadName, RepeatedName}
use Rattle.mls_tables.specs.declared.mode.Mode.{Mode}
use Rattle.mls_tables.specs.declared.mode.Mode.TheVariants.{Execute, Read, Append, Write}
use Rattle.mls_requests.specs.ActionWords.{action_word}
use Rattle.mls_requests.specs.ModeWords.{mode_word}
use Rattle.mls_requests.specs.declared.action_word.ActionWord.{ActionWord}
use Rattle.mls_requests.specs.declared.action_word.ActionWord.TheVariants as word
use Rattle.mls_lines.specs.Grammar.{IsNamed, IsNumber}
use Rattle.mls_lines.specs.Labels.{is_label_byte}
use Rattle.mls_lines.specs.Tokens.{IsToken}
use Rattle.mls_wording.specs.ReadBack.{IsOf}
use Rattle.mls_wording.specs.Wording.{label_numbers, label_within}
use Rattle.mls_wording.proofs.LabelNumbers.{WrittenLaw}
use Rattle.mls_wording.proofs.NamePlaces.{name_bytes}

-- A text of bytes that are seen when printed, one at least and so many at most.
pub record Token (text : List ℕ) (most : ℕ) : Type 0 where
  pub some : 0 < length text
  pub seen : list_all is_label_byte text ≡ true
  pub short : length text ≤ most

no_space : (text : List ℕ) → list_all is_label_byte text ≡ true → All (λ byte. byte ≢ 32) text
no_space [] seen = All-nil (λ byte. byte ≢ 32)
no_space (b ∷ text) seen =
    let parts = and_parts (is_label_byte b) (list_all is_label_byte text) seen in
    All-cons (λ byte. byte ≢ 32) b text
    (λ e. both_ways (is_label_byte 32) refl (ap is_label_byte (sym e) ∙ parts.0)) (no_space text parts.1)

-- such a text is a token
pub is_token : (text : List ℕ) (most : ℕ) → Token text most → IsToken text
is_token text most token = (token.some, no_space text token.seen)

byte_seen : (b : ℕ) → is_name_byte b ≡ true → is_label_byte b ≡ true
byte_seen b h = grind (arith, nat_tests, h)

name_seen : (name : List ℕ) → list_all is_name_byte name ≡ true → list_all is_label_byte name ≡ true
name_seen [] h = refl
name_seen (b ∷ name) h =
    let parts = and_parts (is_name_byte b) (list_all is_name_byte name) h in
    both_true (byte_seen b parts.0) (name_seen name parts.1)

name_len : (n : ℕ) → is_name_len n ≡ true → (0 < n) × (n ≤ 32)
name_len n h =
    let parts = and_parts (nat_le 1 n) (nat_le n 32) h in
    (grind (arith, nat_tests, parts.0), grind (arith, nat_tests, parts.1))

-- a name is a token
name_token : (name : List ℕ) → is_name name ≡ true → Token name 32
name_token name h =
    let len = name_len (length name) (and_parts (is_name_len (length name)) (list_all is_name_byte name) h).0 in
    record { some = len.0; seen = name_seen name (name_bytes name h); short = len.1 }

digit_seen : (d : ℕ) → d < 10 → list_all is_label_byte ((48 + d) ∷ []) ≡ true
digit_seen d h =
    let one : is_label_byte (48 + d) ≡ true = grind (arith, nat_tests) in
    both_true one refl

pub decimal_seen : (n : ℕ) → n < 2 ^ 64 → list_all is_label_byte (decimal n) ≡ true
decimal_seen = decimal_by_steps (λ n text. list_all is_label_byte text ≡ true) digit_seen
    (λ n text ten front. list_all-append is_label_byte text ((48 + n % 10) ∷ []) ∙ both_true front (digit_seen (n % 10) (omega arith)))

-- `#` and a number is a token
number_token : (n : ℕ) → n ≤ 65535 → Token (35 ∷ decimal n) 32
number_token n small =
    let digits : length (decimal n) ≤ 5 = length-decimal-le 5 n (omega arith) (omega (arith, small)) (omega (arith, small)) in
    record { some = omega arith; seen = decimal_seen n (omega (arith, small)); short = omega (arith, digits) }

-- what names a subject or an object is a token
pub thing_token : (names : List (List ℕ)) (text : List ℕ) (n : ℕ) → IsNamed names text n ⊎ IsNumber text n → Token text 32
thing_token names text n (inl named) = name_token text named.0
thing_token names text n (inr number) = subst (λ (t : List ℕ). Token t 32) (sym number.1) (number_token n number.0)

-- a mode's word is a token, and an action's
pub mode_token : (x : Mode) → Token (mode_word x) 7
mode_token Execute = record { some = omega arith; seen = refl; short = omega arith }
mode_token Read = record { some = omega arith; seen = refl; short = omega arith }
mode_token Append = record { some = omega arith; seen = refl; short = omega arith }
mode_token Write = record { some = omega arith; seen = refl; short = omega arith }

get_token : (x : Mode) → Token (action_word (word.Get x)) 11
get_token Execute = record { some = omega arith; seen = refl; short = omega arith }
get_token Read = record { some = omega arith; seen = refl; short = omega arith }
get_token Append = record { some = omega arith; seen = refl; short = omega arith }
get_token Write = record { some = omega arith; seen = refl; short = omega arith }

pub word_token : (w : ActionWord) → Token (action_word w) 11
word_token (word.Get x) = get_token x
word_token word.Release = record { some = omega arith; seen = refl; short = omega arith }
word_token word.Give = record { some = omega arith; seen = refl; short = omega arith }
word_token word.Rescind = record { some = omega arith; seen = refl; short = omega arith }
word_token word.Create = record { some = omega arith; seen = refl; short = omega arith }
word_token word.Delete = record { some = omega arith; seen = refl; short = omega arith }
word_token word.Level = record { some = omega arith; seen = refl; short = omega arith }
word_token word.Relabel = record { some = omega arith; seen = refl; short = omega arith }

-- label texts

words_seen : (text : List ℕ) (words : List (List ℕ)) → AreWords text words → list_all is_label_byte text ≡ true
words_seen [] words e = refl
words_seen (b ∷ text) words (inl (is, rest, e, more)) =
    let one : is_label_byte b ≡ true = ap is_label_byte is in
    both_true one (words_seen text rest more)
words_seen (b ∷ text) words (inr (named, first, rest, e, more)) = both_true (byte_seen b named) (words_seen text (first ∷ rest) more)

split_seen : (text level : List ℕ) (categories : List (List ℕ)) → IsSplit text level categories → list_all is_label_byte text ≡ true
split_seen [] level categories h = refl
split_seen (b ∷ text) level categories (inl (is, none, words)) =
    let one : is_label_byte b ≡ true = ap is_label_byte is in
    both_true one (words_seen text categories words)
split_seen (b ∷ text) level categories (inr (named, first, e, more)) = both_true (byte_seen b named) (split_seen text first categories more)

split_some : (text level : List ℕ) (categories : List (List ℕ)) → IsSplit text level categories → is_name level ≡ true → 0 < length text
split_some [] level categories h named = absurd (both_ways (is_name []) refl (ap is_name (sym h.0) ∙ named))
split_some (b ∷ text) level categories h named = omega arith

-- what is true of the names of a scheme
record NamesOf (s : Scheme) : Type 0 where
  pub levels : list_all is_name s.levels ≡ true
  pub categories : list_all is_name s.categories ≡ true

fourth : (a b c d : Bool) (y : Option SchemeFault)
    → cond a (Some NoLevels) (cond b (Some TooManyLevels) (cond c (Some TooManyCategories) (cond d (Some BadName) y))) ≡ None → d ≡ false
fourth true b c d y h = cc
fourth false true c d y h = cc
fourth false false true d y h = cc
fourth false false false true y h = cc
fourth false false false false y h = refl

names_of : (s : Scheme) → IsScheme s → NamesOf s
names_of s h =
    let named : (not (list_all is_name s.levels) || not (list_all is_name s.categories)) ≡ false =
    fourth (nat_eq (length s.levels) 0) (nat_lt MAX_LEVELS (length s.levels)) (nat_lt MAX_CATEGORIES (length s.categories))
    (not (list_all is_name s.levels) || not (list_all is_name s.categories))
    (cond (has_twice s.levels || has_twice s.categories) (Some RepeatedName) None) h in
    let parts = or_parts (not (list_all is_name s.levels)) (not (list_all is_name s.categories)) named in
    record { levels = not-false (list_all is_name s.levels) parts.0; categories = not-false (list_all is_name s.categories) parts.1 }

name_short : (names : List (List ℕ)) (n : ℕ) → list_all is_name names ≡ true → length (name_at names n) ≤ 32
name_short [] n all = omega arith
name_short (x ∷ names) zero all = (name_token x (and_parts (is_name x) (list_all is_name names) all).0).short
name_short (x ∷ names) (suc n) all = name_short names n (and_parts (is_name x) (list_all is_name names) all).1

words_short : (names : List (List ℕ)) → list_all is_name names ≡ true → (ns : List ℕ) (separator : ℕ)
    → length (words_after separator (map (name_at names) ns)) ≤ 33 * length ns
words_short names all [] separator = omega arith
words_short names all (n ∷ ns) separator =
    let more = words_short names all ns 44 in
    let one = name_short names n all in
    let both = length-append (name_at names n) (words_after 44 (map (name_at names) ns)) in
    omega (arith, more, one, both)

numbers_few : (p : ℕ → Bool) (count from : ℕ) → length (numbers p count from) ≤ count
unfolding numbers
numbers_few p zero from = omega arith
numbers_few p (suc count) from =
    let rest = numbers_few p count (suc from) in
    elim (p from) as (λ t. length (cond t (from ∷ numbers p count (suc from)) (numbers p count (suc from))) ≤ suc count) [ true ↦ omega (arith, rest) | false ↦ omega (arith, rest) ]

ascending_few : (s : FinSet nat_cmp) → length (ascending s) ≤ 256
ascending_few s = numbers_few (contains s) 256 0

written_short : (s : Scheme) (l : Label) → IsScheme s → length (written s l) ≤ 8480
written_short s l is =
    let of = names_of s is in
    let level = name_short s.levels l.level of.levels in
    let rest = words_short s.categories of.categories (ascending l.categories) 58 in
    let few = ascending_few l.categories in
    let both = length-append (name_at s.levels l.level) (words_after 58 (map (name_at s.categories) (ascending l.categories))) in
    omega (arith, level, rest, few, both)

-- what is written of a label that a scheme has is its text in the scheme
pub written_within : (s : Scheme) (l : Label) → IsOf s l → label_within s l ≡ written s l
written_within s l has = ap (λ t. cond t (written s l) (label_numbers l)) has

-- and is a token
pub label_token : WrittenLaw → (s : Scheme) (l : Label) → IsScheme s → IsOf s l → Token (label_within s l) 8480
label_token spelled s l is has =
    let spells = spelled s l is has in
    subst (λ (t : List ℕ). Token t 8480) (sym (written_within s l has)) (record {
      some = split_some (written s l) spells.level spells.categories spells.form.split spells.form.level_is_name;
      seen = split_seen (written s l) spells.level spells.categories spells.form.split;
      short = written_short s l is;
    })
