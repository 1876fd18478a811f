-- Labels that are written by numbers: no two have one text, and none has that of a label which a scheme has.
use Rattle.std.proofs.Common.{◌≡◌, ℕ, zero, suc, ◌+◌, ◌<◌, ◌^◌, ◌%◌, Bool, true, false, cond, List, [], ◌∷◌, ◌++◌, map, filter, refl, sym, ap, subst, ◌∙◌, inl, inr, arith}
use Rattle.std.specs.Prelude.{◌==◌, not, nat_lt, IsTrue}
use Rattle.std.specs.Fmt.{decimal}
use Rattle.std.specs.List.{list_all}
use Rattle.std.specs.Ordering.{nat_cmp}
use Rattle.std.specs.Cmp.Derive.{both_true}
use Rattle.std.specs.FinSet.{FinSet, contains}
use Rattle.std.proofs.lemmas.Bool.{and_parts, both_ways}
use Rattle.std.proofs.lemmas.Bool.Decides.{nat_tests}
use Rattle.std.proofs.lemmas.Fmt.{decimal_by_steps}
use Rattle.std.proofs.lemmas.List.Elements.{filter-append}
use Rattle.mls_labels.specs.Ascending.{numbers, ascending}
use Rattle.mls_labels.specs.Label.{Label, has_label}
use Rattle.mls_labels.specs.LabelText.{IsSplit, Spells, words_after, written}
use Rattle.mls_labels.specs.Names.{is_name_byte}
use Rattle.mls_labels.specs.Scheme.{Scheme, IsScheme, bounds_of}
use Rattle.mls_requests.specs.ActionWords.{action_word}
use Rattle.mls_requests.specs.ReplyWords.{reply_text}
use Rattle.mls_requests.specs.declared.action.Action.TheVariants as action
use Rattle.mls_requests.specs.declared.action_word.ActionWord.TheVariants as word
use Rattle.mls_requests.specs.declared.entry.Entry.{Entry}
use Rattle.mls_requests.specs.declared.reply.Reply.TheVariants as reply
use Rattle.mls_journal.specs.EntryText.{label_text, entry_text, LabelHasRanges, HasRanges}
use Rattle.mls_wording.specs.Wording.{numbered, label_numbers, label_within}

-- whether a byte isn't `#`
abbrev other : ℕ → Bool
other b = not (b == 35)

-- a text without its `#`
abbrev plain : List ℕ → List ℕ
plain text = filter other text

digit_stays : (d : ℕ) → d < 10 → plain ((48 + d) ∷ []) ≡ (48 + d) ∷ []
digit_stays d h = let apart : ((48 + d) == 35) ≡ false = grind (arith, nat_tests) in rw apart refl

decimal_stays : (n : ℕ) → n < 2 ^ 64 → plain (decimal n) ≡ decimal n
decimal_stays = decimal_by_steps (λ n text. plain text ≡ text) digit_stays
    (λ n text ten front. filter-append other text ((48 + n % 10) ∷ []) ∙ (λ i. front i ++ digit_stays (n % 10) (omega arith) i))

pub numbers_below : (p : ℕ → Bool) (count from end : ℕ) → end ≡ from + count → list_all (λ n. nat_lt n end) (numbers p count from) ≡ true
unfolding numbers
numbers_below p zero from end e = refl
numbers_below p (suc count) from end e =
    let rest = numbers_below p count (suc from) end (omega (arith, e)) in
    let test : nat_lt from end ≡ true = grind (arith, nat_tests, e) in
    elim (p from) as (λ t. list_all (λ n. nat_lt n end) (cond t (from ∷ numbers p count (suc from)) (numbers p count (suc from))) ≡ true) [
      | true ↦ both_true test rest
      | false ↦ rest
    ]

ascending_below : (s : FinSet nat_cmp) → list_all (λ n. nat_lt n 256) (ascending s) ≡ true
ascending_below s = numbers_below (contains s) 256 0 256 refl

-- categories without their `#` are as an entry has them
words_plain : (separator : ℕ) → (separator == 35) ≡ false → (ns : List ℕ) → list_all (λ n. nat_lt n 256) ns ≡ true
    → plain (words_after separator (map numbered ns)) ≡ words_after separator (map decimal ns)
words_plain separator apart [] all = refl
words_plain separator apart (n ∷ ns) all =
    let parts = and_parts (nat_lt n 256) (list_all (λ k. nat_lt k 256) ns) all in
    let small : n < 2 ^ 64 = grind (arith, nat_tests, parts.0) in
    rw apart (ap (λ t. separator ∷ t)
    (filter-append other (decimal n) (words_after 44 (map numbered ns)) ∙ (λ i. decimal_stays n small i ++ words_plain 44 refl ns parts.1 i)))

-- and so is a label
label_plain : (l : Label) → LabelHasRanges l → plain (label_numbers l) ≡ label_text l
label_plain l h =
    filter-append other (decimal l.level) (words_after 58 (map numbered (ascending l.categories)))
    ∙ (λ i. decimal_stays l.level (omega (arith, h.0)) i ++ words_plain 58 refl (ascending l.categories) (ascending_below l.categories) i)

-- the entry of a request for a label
abbrev asking : Label → Entry
asking l = record { number = 0; session = 0; request = record { subject = 0; action = action.SubjectLevel l }; reply = reply.Undefined }

asking_fits : (l : Label) → LabelHasRanges l → HasRanges (asking l)
asking_fits l h = record { number = omega arith; session = omega arith; subject = omega arith; action = h; reply = tt }

-- no two entries have one text
abbrev pub EntryLaw : Type 0
EntryLaw = (a b : Entry) → HasRanges a → HasRanges b → entry_text a ≡ entry_text b → a ≡ b

outside_apart : EntryLaw → (a b : Label) → LabelHasRanges a → LabelHasRanges b → label_numbers a ≡ label_numbers b → a ≡ b
outside_apart law a b h k same =
    let texts : label_text a ≡ label_text b = sym (label_plain a h) ∙ ap plain same ∙ label_plain b k in
    let lines : entry_text (asking a) ≡ entry_text (asking b) =
    ap (λ t. decimal 0 ++ 32 ∷ decimal 0 ++ 32 ∷ decimal 0 ++ 32 ∷ (action_word word.Level ++ 32 ∷ t) ++ 32 ∷ reply_text reply.Undefined) texts in
    let actions : action.SubjectLevel a ≡ action.SubjectLevel b = ap (λ (e : Entry). e.request.action) (law (asking a) (asking b) (asking_fits a h) (asking_fits b k) lines) in
    cc

-- a text that begins with `#` spells no label
sign_apart : (level : List ℕ) (categories : List (List ℕ)) (more : List ℕ) → IsSplit (35 ∷ more) level categories → ⊥
sign_apart level categories more (inl h) = let no : 35 ≡ 58 = h.0 in omega (arith, no)
sign_apart level categories more (inr h) = both_ways (is_name_byte 35) refl h.0

no_sign : (s : Scheme) (text more : List ℕ) (l : Label) → Spells s text l → text ≡ 35 ∷ more → ⊥
no_sign s text more l spells e =
    sign_apart spells.level spells.categories more (subst (λ t. IsSplit t spells.level spells.categories) e spells.form.split)

-- what is written of a label spells it, and a text spells one label
abbrev pub WrittenLaw : Type 0
WrittenLaw = (s : Scheme) (l : Label) → IsScheme s → IsTrue (has_label (bounds_of s) l) → Spells s (written s l) l

abbrev pub OneLaw : Type 0
OneLaw = (s : Scheme) (text : List ℕ) (a b : Label) → IsScheme s → Spells s text a → Spells s text b → a ≡ b

pub labels_apart : WrittenLaw → OneLaw → EntryLaw → (s : Scheme) (a b : Label) → IsScheme s → LabelHasRanges a → LabelHasRanges b
    → label_within s a ≡ label_within s b → a ≡ b
labels_apart spelled one entries s a b is h k same = from (has_label (bounds_of s) a) refl (has_label (bounds_of s) b) refl same where
  from : (p : Bool) → has_label (bounds_of s) a ≡ p → (q : Bool) → has_label (bounds_of s) b ≡ q
      → cond p (written s a) (label_numbers a) ≡ cond q (written s b) (label_numbers b) → a ≡ b
  from true i true j e = one s (written s a) a b is (spelled s a is i) (subst (λ t. Spells s t b) (sym e) (spelled s b is j))
  from true i false j e = absurd (no_sign s (written s a) _ a (spelled s a is i) e)
  from false i true j e = absurd (no_sign s (written s b) _ b (spelled s b is j) (sym e))
  from false i false j e = outside_apart entries a b h k e
