-- Reading a label text gives the label that it spells, or the fault for which it is refused.
use Rattle.std.specs.Prelude.{◌≡◌, ◌<◌, ℕ, Bool, true, false, cond, ◌&&◌, ◌||◌, nat_eq, nat_lt, IsTrue, List, [], ◌∷◌, ◌++◌, length, Option, None, Some, Result, Ok, Err, IfOk, IfErr, slice_get, refl}
use Rattle.std.specs.Ordering.{nat_cmp}
use Rattle.std.specs.Cmp as cmp
use Rattle.std.specs.Cmp.{nat_cmp_total, unsigned_tied}
use Rattle.std.specs.List.{list_all}
use Rattle.std.specs.FinSet.{FinSet, empty, insert, contains, contains-empty, contains-insert, same_set, nat_cmp-IsAntisymmetric}
use Rattle.std.proofs.Common.{◌⊎◌, inl, inr, arith, sym, ap, ◌∙◌, subst, append-nil}
use Rattle.std.proofs.lemmas.Bool.{and_parts, both_ways, eq-eqb, eqb-true, lt-ltb, or_cases, or_right}
use Rattle.std.proofs.lemmas.Bool.Decides.{nat_tests}
use Rattle.std.proofs.lemmas.List.{append_assoc}
use Rattle.std.proofs.lemmas.Option.{slice_get_within}
use Rattle.mls_facts.specs.Each.{each}
use Rattle.mls_facts.proofs.Each.{contains-each}
use Rattle.std.specs.Cmp.Derive.{both_true}
use Rattle.mls_labels.specs.Label.{Label, has_label}
use Rattle.mls_labels.specs.Names.{is_name, has_twice}
use Rattle.mls_labels.specs.Scheme.{Scheme, bounds_of}
use Rattle.mls_labels.specs.LabelText.{IsForm, IsIn, AllIn, SomeNotIn, Repeats, HasJust, Spells, IsRefused}
use Rattle.mls_labels.specs.Reading.{place_of, with_one, with_words, words_of, tail_at, label_with, label_at, front_of, rest_of}
use Rattle.mls_labels.specs.declared.label_fault.LabelFault.{LabelFault}
use Rattle.mls_labels.specs.declared.label_fault.LabelFault.TheVariants.{BadForm, UnknownLevel, UnknownCategory, RepeatedCategory}
use Rattle.mls_labels.proofs.NamePlaces.{at_front, at_end, at_either, named_there, named_nowhere, place_of-named, one_place, has_place}
use Rattle.mls_labels.proofs.LabelForms.{words_are, are_words, IsTail, split_parts, is_split, names_clean}

-- what has been read of these words says of them
abbrev Reads : List (List ℕ) → List (List ℕ) → Result (FinSet nat_cmp) LabelFault → Type 0
Reads names words (Ok s) = AllIn names words × (Repeats words → ⊥) × HasJust names words s
Reads names words (Err BadForm) = ⊥
Reads names words (Err UnknownLevel) = ⊥
Reads names words (Err UnknownCategory) = SomeNotIn names words
Reads names words (Err RepeatedCategory) = AllIn names words × Repeats words

module _ (names : List (List ℕ)) (once : has_twice names ≡ false) where
  all_more : (words : List (List ℕ)) (w : List ℕ) → AllIn names words → IsIn names w → AllIn names (words ++ w ∷ [])
  all_more words w all here v there = elim (at_either words w v there.0 there.1) [ inl e ↦ all v (there.0, e) | inr e ↦ subst (IsIn names) e.1 here ]

  repeats_more : (words : List (List ℕ)) (w : List ℕ) → Repeats words → Repeats (words ++ w ∷ [])
  repeats_more words w r = (r.0, r.1, r.2, r.3, at_front words w r.2 r.0 r.4, at_front words w r.2 r.1 r.5)

  some_more : (words : List (List ℕ)) (w : List ℕ) → SomeNotIn names words → SomeNotIn names (words ++ w ∷ [])
  some_more words w s = (s.0, (s.1.0, at_front words w s.0 s.1.0 s.1.1), s.2)

  -- a word whose number the set has stands among the words
  repeats_now : (words : List (List ℕ)) (w : List ℕ) (s : FinSet nat_cmp) (n : ℕ) → HasJust names words s → slice_get names n ≡ Some w → contains s n ≡ true → Repeats (words ++ w ∷ [])
  repeats_now words w s n just named there =
      let found = (just n).0 there in
      let same : found.0 ≡ w = let e : Some found.0 ≡ Some w = sym found.1 ∙ named in cc in
      let at : slice_get words found.2.0 ≡ Some w = found.2.1 ∙ ap Some same in
      (found.2.0, length words, w, slice_get_within words found.2.0 w at, at_front words w w found.2.0 at, at_end words w)

  once_more : (words : List (List ℕ)) (w : List ℕ) (s : FinSet nat_cmp) (n : ℕ) → (Repeats words → ⊥) → HasJust names words s → slice_get names n ≡ Some w → contains s n ≡ false → Repeats (words ++ w ∷ []) → ⊥
  once_more words w s n apart just named absent r =
      let last : slice_get (words ++ w ∷ []) r.1 ≡ Some r.2 = r.5 in
      elim (at_either words w r.2 r.0 r.4) [
        | inl first ↦ elim (at_either words w r.2 r.1 r.5) [
          | inl second ↦ apart (r.0, r.1, r.2, r.3, first, second)
          | inr second ↦ both_ways (contains s n) absent ((just n).1 (r.2, named ∙ ap Some second.1, (r.0, first)))
        ]
        | inr first ↦ elim (at_either words w r.2 r.1 r.5) [
          | inl second ↦ let within : r.1 < length words = slice_get_within words r.1 r.2 second in let at : r.0 ≡ length words = first.0 in let before : r.0 < r.1 = r.3 in omega arith
          | inr second ↦ let at : r.0 ≡ length words = first.0 in let also : r.1 ≡ length words = second.0 in let before : r.0 < r.1 = r.3 in omega arith
        ]
      ]

  tied : (q n : ℕ) (s : FinSet nat_cmp) → contains (insert s n) q ≡ (nat_eq q n || contains s q)
  tied q n s = contains-insert nat_cmp_total s n q ∙ ap (λ b. b || contains s q) (unsigned_tied q n)

  same_or : (q n : ℕ) (b : Bool) → (nat_eq q n || b) ≡ true → (q ≡ n) ⊎ (b ≡ true)
  same_or q n b h = elim (or_cases (nat_eq q n) b h) [ inl e ↦ inl (eqb-true q n e) | inr e ↦ inr e ]

  or_same : (q n : ℕ) (b : Bool) → (q ≡ n) ⊎ (b ≡ true) → (nat_eq q n || b) ≡ true
  or_same q n b (inl e) = rw (eq-eqb q n e) refl
  or_same q n b (inr e) = or_right (nat_eq q n) b e

  just_more : (words : List (List ℕ)) (w : List ℕ) (s : FinSet nat_cmp) (n : ℕ) → HasJust names words s → slice_get names n ≡ Some w → HasJust names (words ++ w ∷ []) (insert s n)
  just_more words w s n just named q = (
    λ there. elim (same_or q n (contains s q) (sym (tied q n s) ∙ there)) [
      | inl e ↦ (w, ap (slice_get names) e ∙ named, (length words, at_end words w))
      | inr e ↦ let found = (just q).0 e in (found.0, found.1, (found.2.0, at_front words w found.0 found.2.0 found.2.1))
    ],
    λ found. tied q n s ∙ or_same q n (contains s q) (elim (at_either words w found.0 found.2.0 found.2.1) [
      | inl e ↦ inr ((just q).1 (found.0, found.1, (found.2.0, e)))
      | inr e ↦ inl (one_place names w q n once (found.1 ∙ ap Some (sym e.1)) named)
    ]),
  )

  -- one word more
  reads_one : (words : List (List ℕ)) (w : List ℕ) (found : Result (FinSet nat_cmp) LabelFault) (place : Option ℕ) → place_of names w ≡ place → Reads names words found → Reads names (words ++ w ∷ []) (with_one found place)
  reads_one words w found None e h = (w, (length words, at_end words w), λ there. named_nowhere names w there.0 e there.1)
  reads_one words w (Ok s) (Some n) e h =
      let named : slice_get names n ≡ Some w = named_there names w n e in
      elim (contains s n) as (λ t. contains s n ≡ t → Reads names (words ++ w ∷ []) (cond t (Err RepeatedCategory) (Ok (insert s n)))) [
        | true ↦ λ there. (all_more words w h.0 (n, named), repeats_now words w s n h.2 named there)
        | false ↦ λ absent. (all_more words w h.0 (n, named), once_more words w s n h.1 h.2 named absent, just_more words w s n h.2 named)
      ] refl
  reads_one words w (Err BadForm) (Some n) e h = absurd h
  reads_one words w (Err UnknownLevel) (Some n) e h = absurd h
  reads_one words w (Err UnknownCategory) (Some n) e h = some_more words w h
  reads_one words w (Err RepeatedCategory) (Some n) e h = (all_more words w h.0 (n, named_there names w n e), repeats_more words w h.1)

  -- all words, where each is a name
  reads_on : (done words : List (List ℕ)) (found : Result (FinSet nat_cmp) LabelFault) → list_all is_name words ≡ true → Reads names done found → Reads names (done ++ words) (with_words names found words)
  unfolding with_words
  reads_on done [] found all h = rw append-nil h
  reads_on done (w ∷ words) found all h =
      let parts = and_parts (is_name w) (list_all is_name words) all in
      rw parts.0 (rw append_assoc at (reads_on (done ++ w ∷ []) words (with_one found (place_of names w)) parts.1 (reads_one done w found (place_of names w) refl h)))

  nothing_read : Reads names [] (Ok empty)
  nothing_read = (λ word there. cc, λ r. let h : slice_get [] r.0 ≡ Some r.2 = r.4 in cc, λ n. (λ h. absurd (both_ways (contains empty n) (contains-empty nat_cmp n) h), λ found. let h : slice_get [] found.2.0 ≡ Some found.0 = found.2.1 in cc))

  pub reads_words : (words : List (List ℕ)) → list_all is_name words ≡ true → Reads names words (with_words names (Ok empty) words)
  reads_words words all = reads_on [] words (Ok empty) all nothing_read

-- a word that is no name makes the form bad
bad_word : (names words : List (List ℕ)) (found : Result (FinSet nat_cmp) LabelFault) → list_all is_name words ≡ false → with_words names found words ≡ Err BadForm
unfolding with_words
bad_word names [] found h = cc
bad_word names (w ∷ words) found h = elim (is_name w) as (λ t. (t && list_all is_name words) ≡ false → cond t (with_words names (with_one found (place_of names w)) words) (Err BadForm) ≡ Err BadForm) [
  | true ↦ λ h. bad_word names words (with_one found (place_of names w)) h
  | false ↦ λ _. refl
] h

tail_is : (names : List (List ℕ)) (rest : List ℕ) (categories : List (List ℕ)) → IsTail rest categories → tail_at names rest ≡ with_words names (Ok empty) categories
unfolding with_words
tail_is names [] categories e = rw e refl
tail_is names (b ∷ text) categories h = rw (h.0) (ap (with_words names (Ok empty)) (words_are text categories h.1))

-- a text of the form is read as its words are
pub form_reads : (s : Scheme) (text level : List ℕ) (categories : List (List ℕ)) → IsForm text level categories → label_at s text ≡ label_with (place_of s.levels level) (with_words s.categories (Ok empty) categories)
form_reads s text level categories form =
    let parts = split_parts text level categories form.split in
    let named : is_name (front_of text) ≡ true = rw parts.0 form.level_is_name in
    rw (named, parts.0, tail_is s.categories (rest_of text) categories parts.1) refl

tail_or_bad : (names : List (List ℕ)) (rest : List ℕ) → ((categories : List (List ℕ)) × IsTail rest categories × (list_all is_name categories ≡ true)) ⊎ (tail_at names rest ≡ Err BadForm)
tail_or_bad names [] = inl ([], refl, refl)
tail_or_bad names (b ∷ text) = elim (nat_eq b 58) as (λ t. nat_eq b 58 ≡ t → ((categories : List (List ℕ)) × IsTail (b ∷ text) categories × (list_all is_name categories ≡ true)) ⊎ (cond t (with_words names (Ok empty) (words_of text)) (Err BadForm) ≡ Err BadForm)) [
  | true ↦ λ e. elim (list_all is_name (words_of text)) as (λ t. list_all is_name (words_of text) ≡ t → ((categories : List (List ℕ)) × IsTail (b ∷ text) categories × (list_all is_name categories ≡ true)) ⊎ (with_words names (Ok empty) (words_of text) ≡ Err BadForm)) [
    | true ↦ λ all. let colon : b ≡ 58 = grind (arith, nat_tests, e) in inl (words_of text, (colon, are_words text (names_clean (words_of text) all)), all)
    | false ↦ λ bad. inr (bad_word names (words_of text) (Ok empty) bad)
  ] refl
  | false ↦ λ _. inr refl
] refl

-- a text has the form or is read as of bad form
form_or_bad : (s : Scheme) (text : List ℕ) → ((level : List ℕ) × (categories : List (List ℕ)) × IsForm text level categories) ⊎ (label_at s text ≡ Err BadForm)
form_or_bad s text = elim (is_name (front_of text)) as (λ t. is_name (front_of text) ≡ t → ((level : List ℕ) × (categories : List (List ℕ)) × IsForm text level categories) ⊎ (cond t (label_with (place_of s.levels (front_of text)) (tail_at s.categories (rest_of text))) (Err BadForm) ≡ Err BadForm)) [
  | true ↦ λ named. elim (tail_or_bad s.categories (rest_of text)) [
    | inl t ↦ inl (front_of text, t.0, record { split = is_split text t.0 t.1; level_is_name = named; each_is_name = t.2 })
    | inr bad ↦ inr (ap (label_with (place_of s.levels (front_of text))) bad)
  ]
  | false ↦ λ _. inr refl
] refl

-- what a result says of the text
abbrev pub Says : Scheme → List ℕ → Result Label LabelFault → Type 0
Says s text (Ok l) = Spells s text l
Says s text (Err fault) = IsRefused s text fault

-- a scheme names no level and no category twice
abbrev pub NamesOnce : Scheme → Type 0
NamesOnce s = (has_twice s.levels ≡ false) × (has_twice s.categories ≡ false)

said : (s : Scheme) (text level : List ℕ) (categories : List (List ℕ)) (place : Option ℕ) (found : Result (FinSet nat_cmp) LabelFault) → IsForm text level categories → place_of s.levels level ≡ place → Reads s.categories categories found → Says s text (label_with place found)
said s text level categories None (Ok c) form e h = (level, categories, form, λ there. named_nowhere s.levels level there.0 e there.1)
said s text level categories (Some n) (Ok c) form e h = record { level = level; categories = categories; form = form; named = named_there s.levels level n e; known = h.0; once = h.1; just = h.2 }
said s text level categories place (Err BadForm) form e h = absurd h
said s text level categories place (Err UnknownLevel) form e h = absurd h
said s text level categories None (Err UnknownCategory) form e h = (level, categories, form, λ there. named_nowhere s.levels level there.0 e there.1)
said s text level categories (Some n) (Err UnknownCategory) form e h = (level, categories, form, (n, named_there s.levels level n e), h)
said s text level categories None (Err RepeatedCategory) form e h = (level, categories, form, λ there. named_nowhere s.levels level there.0 e there.1)
said s text level categories (Some n) (Err RepeatedCategory) form e h = (level, categories, form, (n, named_there s.levels level n e), h.0, h.1)

never_bad : (place : Option ℕ) (found : Result (FinSet nat_cmp) LabelFault) (names words : List (List ℕ)) → Reads names words found → label_with place found ≡ Err BadForm → ⊥
never_bad None (Ok c) names words h e = cc
never_bad (Some n) (Ok c) names words h e = cc
never_bad place (Err BadForm) names words h e = h
never_bad place (Err UnknownLevel) names words h e = h
never_bad None (Err UnknownCategory) names words h e = cc
never_bad (Some n) (Err UnknownCategory) names words h e = cc
never_bad None (Err RepeatedCategory) names words h e = cc
never_bad (Some n) (Err RepeatedCategory) names words h e = cc

-- what is read is so
pub read_is : (s : Scheme) (text : List ℕ) → NamesOnce s → Says s text (label_at s text)
read_is s text once = elim (form_or_bad s text) [
  | inl f ↦ rw (form_reads s text f.0 f.1 f.2) (said s text f.0 f.1 (place_of s.levels f.0) (with_words s.categories (Ok empty) f.1) f.2 refl (reads_words s.categories once.1 f.1 f.2.each_is_name))
  | inr bad ↦ rw bad (λ level categories form. never_bad (place_of s.levels level) (with_words s.categories (Ok empty) categories) s.categories categories (reads_words s.categories once.1 categories form.each_is_name) (sym (form_reads s text level categories form) ∙ bad))
]

label_found : (names words : List (List ℕ)) (found : Result (FinSet nat_cmp) LabelFault) (l : Label) → Reads names words found → AllIn names words → (Repeats words → ⊥) → HasJust names words l.categories → label_with (Some l.level) found ≡ Ok l
label_found names words (Ok s) l h known once just =
    let same : s ≡ l.categories = same_set nat_cmp_total nat_cmp-IsAntisymmetric s l.categories (λ q. cmp.both_ways (contains s q) (contains l.categories q) (λ there. (just q).1 ((h.2 q).0 there)) (λ there. (h.2 q).1 ((just q).0 there))) in
    rw same refl
label_found names words (Err BadForm) l h known once just = absurd h
label_found names words (Err UnknownLevel) l h known once just = absurd h
label_found names words (Err UnknownCategory) l h known once just = absurd (h.2 (known h.0 h.1))
label_found names words (Err RepeatedCategory) l h known once just = absurd (once h.1)

level_found : (names words : List (List ℕ)) (found : Result (FinSet nat_cmp) LabelFault) → Reads names words found → label_with None found ≡ Err UnknownLevel
level_found names words (Ok s) h = refl
level_found names words (Err BadForm) h = absurd h
level_found names words (Err UnknownLevel) h = absurd h
level_found names words (Err UnknownCategory) h = refl
level_found names words (Err RepeatedCategory) h = refl

category_found : (names words : List (List ℕ)) (n : ℕ) (found : Result (FinSet nat_cmp) LabelFault) → Reads names words found → SomeNotIn names words → label_with (Some n) found ≡ Err UnknownCategory
category_found names words n (Ok s) h some = absurd (some.2 (h.0 some.0 some.1))
category_found names words n (Err BadForm) h some = absurd h
category_found names words n (Err UnknownLevel) h some = absurd h
category_found names words n (Err UnknownCategory) h some = refl
category_found names words n (Err RepeatedCategory) h some = absurd (some.2 (h.0 some.0 some.1))

repeat_found : (names words : List (List ℕ)) (n : ℕ) (found : Result (FinSet nat_cmp) LabelFault) → Reads names words found → AllIn names words → Repeats words → label_with (Some n) found ≡ Err RepeatedCategory
repeat_found names words n (Ok s) h all r = absurd (h.1 r)
repeat_found names words n (Err BadForm) h all r = absurd h
repeat_found names words n (Err UnknownLevel) h all r = absurd h
repeat_found names words n (Err UnknownCategory) h all r = absurd (h.2 (all h.0 h.1))
repeat_found names words n (Err RepeatedCategory) h all r = refl

no_place : (names : List (List ℕ)) (name : List ℕ) → (IsIn names name → ⊥) → place_of names name ≡ None
no_place names name absent = elim (place_of names name) as (λ r. place_of names name ≡ r → r ≡ None) [
  | None ↦ λ _. refl
  | Some n ↦ λ e. absurd (absent (n, named_there names name n e))
] refl

-- what is so is read
pub is_read : (s : Scheme) (text : List ℕ) (r : Result Label LabelFault) → NamesOnce s → Says s text r → label_at s text ≡ r
is_read s text (Ok l) once h =
    form_reads s text h.level h.categories h.form
    ∙ rw (place_of-named s.levels h.level l.level once.0 h.named)
    (label_found s.categories h.categories (with_words s.categories (Ok empty) h.categories) l (reads_words s.categories once.1 h.categories h.form.each_is_name) h.known h.once h.just)
is_read s text (Err BadForm) once h = elim (form_or_bad s text) [ inl f ↦ absurd (h f.0 f.1 f.2) | inr bad ↦ bad ]
is_read s text (Err UnknownLevel) once h =
    form_reads s text h.0 h.1 h.2
    ∙ rw (no_place s.levels h.0 h.3) (level_found s.categories h.1 (with_words s.categories (Ok empty) h.1) (reads_words s.categories once.1 h.1 h.2.each_is_name))
is_read s text (Err UnknownCategory) once h =
    let place = has_place s.levels h.0 h.3 in
    form_reads s text h.0 h.1 h.2
    ∙ rw place.1 (category_found s.categories h.1 place.0 (with_words s.categories (Ok empty) h.1) (reads_words s.categories once.1 h.1 h.2.each_is_name) h.4)
is_read s text (Err RepeatedCategory) once h =
    let place = has_place s.levels h.0 h.3 in
    form_reads s text h.0 h.1 h.2
    ∙ rw place.1 (repeat_found s.categories h.1 place.0 (with_words s.categories (Ok empty) h.1) (reads_words s.categories once.1 h.1 h.2.each_is_name) h.4 h.5)

pub says_ok : (s : Scheme) (text : List ℕ) (r : Result Label LabelFault) → Says s text r → IfOk r (Spells s text)
says_ok s text (Ok l) h = h
says_ok s text (Err fault) h = tt

pub says_err : (s : Scheme) (text : List ℕ) (r : Result Label LabelFault) → Says s text r → IfErr r (IsRefused s text)
says_err s text (Ok l) h = tt
says_err s text (Err fault) h = h

each_below : (names words : List (List ℕ)) (s : FinSet nat_cmp) → HasJust names words s → each s (λ n. nat_lt n (length names)) ≡ true
each_below names words s just = contains-each nat_cmp_total nat_cmp-IsAntisymmetric s (λ n. nat_lt n (length names)) (λ q there. let found = (just q).0 there in lt-ltb q (length names) (slice_get_within names q found.0 found.1))

-- a label that a text spells is within the scheme
pub spells-within : (s : Scheme) (text : List ℕ) (l : Label) → Spells s text l → has_label (bounds_of s) l ≡ true
spells-within s text l h = both_true (lt-ltb l.level (length s.levels) (slice_get_within s.levels l.level h.level h.named)) (each_below s.categories h.categories l.categories h.just)

pub ok_within : (s : Scheme) (text : List ℕ) (r : Result Label LabelFault) → Says s text r → IfOk r (λ l. IsTrue (has_label (bounds_of s) l))
ok_within s text (Ok l) h = spells-within s text l h
ok_within s text (Err fault) h = tt

-- a text has one meaning
pub one_label : (s : Scheme) (text : List ℕ) (a b : Label) → NamesOnce s → Spells s text a → Spells s text b → a ≡ b
one_label s text a b once h k = let e : ◌≡◌ {A = Result Label LabelFault} (Ok a) (Ok b) = sym (is_read s text (Ok a) once h) ∙ is_read s text (Ok b) once k in cc

pub one_fault : (s : Scheme) (text : List ℕ) (f g : LabelFault) → NamesOnce s → IsRefused s text f → IsRefused s text g → f ≡ g
one_fault s text f g once h k = let e : ◌≡◌ {A = Result Label LabelFault} (Err f) (Err g) = sym (is_read s text (Err f) once h) ∙ is_read s text (Err g) once k in cc

pub label_or_fault : (s : Scheme) (text : List ℕ) (a : Label) (f : LabelFault) → NamesOnce s → Spells s text a → IsRefused s text f → ⊥
label_or_fault s text a f once h k = let e : ◌≡◌ {A = Result Label LabelFault} (Ok a) (Err f) = sym (is_read s text (Ok a) once h) ∙ is_read s text (Err f) once k in cc
