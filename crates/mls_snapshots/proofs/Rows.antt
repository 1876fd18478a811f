-- What one line of the text of a state says: rows, and that no two have one line.
use Rattle.std.proofs.Common.{◌≡◌, ℕ, ◌<◌, ◌^◌, Bool, true, false, List, [], ◌∷◌, get_or, drop, Option, Some, None, refl, sym, ap, arith}
use Rattle.std.specs.Prelude.{IfSome}
use Rattle.std.specs.Fmt.{decimal}
use Rattle.std.specs.List.{list_all}
use Rattle.std.specs.Cmp.Derive.{both_true}
use Rattle.std.proofs.lemmas.Fmt.{decimal_injective}
use Rattle.mls_labels.specs.Label.{Label}
use Rattle.mls_labels.specs.Scheme.{IsScheme}
use Rattle.mls_lines.specs.Labels.{is_label_byte}
use Rattle.mls_lines.specs.Names.{Names}
use Rattle.mls_requests.specs.ModeWords.{mode_word}
use Rattle.mls_state.specs.declared.table.Table.{Table}
use Rattle.mls_state.specs.declared.table.Table.TheVariants.{Matrix, Accesses}
use Rattle.mls_tables.specs.declared.mode.Mode.{Mode}
use Rattle.mls_tree.specs.declared.profile.Profile.{Profile}
use Rattle.mls_tree.specs.declared.profile.Profile.TheVariants.{One, Two}
use Rattle.mls_wording.specs.ReadBack.{HasNames, IsOf}
use Rattle.mls_wording.specs.Wording.{subject_text, object_text, security_text, integrity_text}
use Rattle.mls_wording.proofs.Laws.{WrittenLaw, OneLaw, mode_token, decimal_seen, label_token, number_token, numbers_apart, labels_apart}
use Rattle.mls_snapshots.specs.States.{profile_number, word_of}
pub use Rattle.mls_snapshots.specs.Rows.{Row, Kind, Next, Subject, Object, Triple, first_of, trust_tokens, parent_tokens, rest_of, joined}
use Rattle.mls_snapshots.proofs.Lines.{spaced, are_seen, lines_alike, not_empty}

-- the words of a row's line
abbrev pub tokens_of : Names → Row → List (List ℕ)
tokens_of names row = first_of row ∷ rest_of names row

-- numbers within the ranges of their types, and labels of the schemes
abbrev pub Fits : Names → Row → Type 0
Fits names (Kind p) = Unit {0}
Fits names (Next n) = n < 2 ^ 16
Fits names (Subject s m c i t) = (s < 2 ^ 16) × IsOf names.security m × IsOf names.security c × IsOf names.integrity i
Fits names (Object o l i p) = (o < 2 ^ 16) × IsOf names.security l × IsOf names.integrity i × IfSome p (λ q. q < 2 ^ 16)
Fits names (Triple table s o x) = (s < 2 ^ 16) × (o < 2 ^ 16)

abbrev pub AllFit : Names → List Row → Type 0
AllFit names [] = Unit {0}
AllFit names (row ∷ rows) = Fits names row × AllFit names rows

digits_seen : (n : ℕ) → n < 2 ^ 16 → list_all is_label_byte (decimal n) ≡ true
digits_seen n fits = decimal_seen n (omega (arith, fits))

-- no two modes have one word
abbrev pub ModeLaw : Type 0
ModeLaw = (x y : Mode) → mode_word x ≡ mode_word y → x ≡ y

module _ (names : Names) (has : HasNames names) (spelled : WrittenLaw) (one : OneLaw) (modes_apart : ModeLaw) (security : IsScheme names.security) (integrity : IsScheme names.integrity) where
  subject_seen : (s : ℕ) → s < 2 ^ 16 → list_all is_label_byte (subject_text names s) ≡ true
  subject_seen s fits = (number_token names.subjects has.subjects s fits).seen

  object_seen : (o : ℕ) → o < 2 ^ 16 → list_all is_label_byte (object_text names o) ≡ true
  object_seen o fits = (number_token names.objects has.objects o fits).seen

  security_seen : (l : Label) → IsOf names.security l → list_all is_label_byte (security_text names l) ≡ true
  security_seen l of = (label_token spelled names.security l security of).seen

  integrity_seen : (i : Label) → IsOf names.integrity i → list_all is_label_byte (integrity_text names i) ≡ true
  integrity_seen i of = (label_token spelled names.integrity i integrity of).seen

  trust_seen : (t : Bool) → are_seen (trust_tokens t) ≡ true
  trust_seen true = refl
  trust_seen false = refl

  parent_seen : (p : Option ℕ) → IfSome p (λ q. q < 2 ^ 16) → are_seen (parent_tokens names p) ≡ true
  parent_seen None fits = refl
  parent_seen (Some p) fits = both_true (object_seen p fits) refl

  kind_seen : (p : Profile) → are_seen (tokens_of names (Kind p)) ≡ true
  kind_seen One = both_true (digits_seen 1 (omega arith)) refl
  kind_seen Two = both_true (digits_seen 2 (omega arith)) refl

  triple_seen : (table : Table) (s o : ℕ) (x : Mode) → s < 2 ^ 16 → o < 2 ^ 16 → are_seen (tokens_of names (Triple table s o x)) ≡ true
  triple_seen Matrix s o x first second = both_true (subject_seen s first) (both_true (mode_token x).seen (both_true (object_seen o second) refl))
  triple_seen Accesses s o x first second = both_true (subject_seen s first) (both_true (mode_token x).seen (both_true (object_seen o second) refl))

  row_seen : (row : Row) → Fits names row → are_seen (tokens_of names row) ≡ true
  row_seen (Kind p) fits = kind_seen p
  row_seen (Next n) fits = both_true (digits_seen n fits) refl
  row_seen (Subject s m c i t) fits =
      both_true (subject_seen s fits.0) (both_true (security_seen m fits.1) (both_true (security_seen c fits.2) (both_true (integrity_seen i fits.3) (trust_seen t))))
  row_seen (Object o l i p) fits =
      both_true (object_seen o fits.0) (both_true (security_seen l fits.1) (both_true (integrity_seen i fits.2) (parent_seen p fits.3)))
  row_seen (Triple table s o x) fits = triple_seen table s o x fits.0 fits.1

  -- no two rows have the same tokens

  kinds_apart : (p q : Profile) → decimal (profile_number p) ≡ decimal (profile_number q) → p ≡ q
  kinds_apart One One e = refl
  kinds_apart One Two e = absurd (let no : 1 ≡ 2 = decimal_injective 1 2 (omega arith) (omega arith) e in omega (arith, no))
  kinds_apart Two One e = absurd (let no : 2 ≡ 1 = decimal_injective 2 1 (omega arith) (omega arith) e in omega (arith, no))
  kinds_apart Two Two e = refl

  trusts_apart : (t u : Bool) → trust_tokens t ≡ trust_tokens u → t ≡ u
  trusts_apart true true e = refl
  trusts_apart true false e = cc
  trusts_apart false true e = cc
  trusts_apart false false e = refl

  parents_apart : (p q : Option ℕ) → IfSome p (λ n. n < 2 ^ 16) → IfSome q (λ n. n < 2 ^ 16) → parent_tokens names p ≡ parent_tokens names q → p ≡ q
  parents_apart None None fits also e = refl
  parents_apart None (Some q) fits also e = cc
  parents_apart (Some p) None fits also e = cc
  parents_apart (Some p) (Some q) fits also e =
      ap Some (numbers_apart names.objects has.objects p q fits also (ap (λ (tokens : List (List ℕ)). get_or tokens 1 []) e))

  subjects_apart : (s t : ℕ) (m c i n d j : Label) (a b : Bool) → Fits names (Subject s m c i a) → Fits names (Subject t n d j b)
      → rest_of names (Subject s m c i a) ≡ rest_of names (Subject t n d j b) → Subject s m c i a ≡ Subject t n d j b
  subjects_apart s t m c i n d j a b fits also e =
      let number : s ≡ t = numbers_apart names.subjects has.subjects s t fits.0 also.0 (ap (λ (tokens : List (List ℕ)). get_or tokens 0 []) e) in
      let maximum : m ≡ n = labels_apart spelled one names.security m n security fits.1 also.1 (ap (λ (tokens : List (List ℕ)). get_or tokens 2 []) e) in
      let current : c ≡ d = labels_apart spelled one names.security c d security fits.2 also.2 (ap (λ (tokens : List (List ℕ)). get_or tokens 4 []) e) in
      let own : i ≡ j = labels_apart spelled one names.integrity i j integrity fits.3 also.3 (ap (λ (tokens : List (List ℕ)). get_or tokens 6 []) e) in
      let trust : a ≡ b = trusts_apart a b (ap (λ (tokens : List (List ℕ)). drop 7 tokens) e) in
      (λ k. Subject (number k) (maximum k) (current k) (own k) (trust k))

  objects_apart : (o u : ℕ) (l i m j : Label) (p q : Option ℕ) → Fits names (Object o l i p) → Fits names (Object u m j q)
      → rest_of names (Object o l i p) ≡ rest_of names (Object u m j q) → Object o l i p ≡ Object u m j q
  objects_apart o u l i m j p q fits also e =
      let number : o ≡ u = numbers_apart names.objects has.objects o u fits.0 also.0 (ap (λ (tokens : List (List ℕ)). get_or tokens 0 []) e) in
      let label : l ≡ m = labels_apart spelled one names.security l m security fits.1 also.1 (ap (λ (tokens : List (List ℕ)). get_or tokens 2 []) e) in
      let own : i ≡ j = labels_apart spelled one names.integrity i j integrity fits.2 also.2 (ap (λ (tokens : List (List ℕ)). get_or tokens 4 []) e) in
      let parent : p ≡ q = parents_apart p q fits.3 also.3 (ap (λ (tokens : List (List ℕ)). drop 5 tokens) e) in
      (λ k. Object (number k) (label k) (own k) (parent k))

  tables_apart : (a b : Table) → get_or (word_of a) 2 0 ≡ get_or (word_of b) 2 0 → a ≡ b
  tables_apart Matrix Matrix e = refl
  tables_apart Matrix Accesses e = absurd (omega (arith, e))
  tables_apart Accesses Matrix e = absurd (omega (arith, e))
  tables_apart Accesses Accesses e = refl

  triples_apart : (a b : Table) (s t o u : ℕ) (x y : Mode) → Fits names (Triple a s o x) → Fits names (Triple b t u y)
      → tokens_of names (Triple a s o x) ≡ tokens_of names (Triple b t u y) → Triple a s o x ≡ Triple b t u y
  triples_apart a b s t o u x y fits also e =
      let table : a ≡ b = tables_apart a b (ap (λ (tokens : List (List ℕ)). get_or (get_or tokens 0 []) 2 0) e) in
      let subject : s ≡ t = numbers_apart names.subjects has.subjects s t fits.0 also.0 (ap (λ (tokens : List (List ℕ)). get_or tokens 1 []) e) in
      let mode : x ≡ y = modes_apart x y (ap (λ (tokens : List (List ℕ)). get_or tokens 2 []) e) in
      let object : o ≡ u = numbers_apart names.objects has.objects o u fits.1 also.1 (ap (λ (tokens : List (List ℕ)). get_or tokens 3 []) e) in
      (λ k. Triple (table k) (subject k) (object k) (mode k))

  -- the third byte: o of profile, x of next, b of subject, j of object, r of permit, c of access
  abbrev kind_byte : Row → ℕ
  kind_byte row = get_or (first_of row) 2 0

  row_apart : (a b : Row) → Fits names a → Fits names b → tokens_of names a ≡ tokens_of names b → a ≡ b
  row_apart a b fits also e = from a b fits also e (ap (λ (tokens : List (List ℕ)). get_or (get_or tokens 0 []) 2 0) e) (ap (λ (tokens : List (List ℕ)). drop 1 tokens) e) where
    from : (a b : Row) → Fits names a → Fits names b → tokens_of names a ≡ tokens_of names b → kind_byte a ≡ kind_byte b → rest_of names a ≡ rest_of names b → a ≡ b
    from (Kind p) (Kind q) fits also e k r = ap Kind (kinds_apart p q (ap (λ (tokens : List (List ℕ)). get_or tokens 0 []) r))
    from (Kind p) (Next n) fits also e k r = absurd (omega (arith, k))
    from (Kind p) (Subject s m c i t) fits also e k r = absurd (omega (arith, k))
    from (Kind p) (Object o l i q) fits also e k r = absurd (omega (arith, k))
    from (Kind p) (Triple Matrix s o x) fits also e k r = absurd (omega (arith, k))
    from (Kind p) (Triple Accesses s o x) fits also e k r = absurd (omega (arith, k))
    from (Next n) (Kind q) fits also e k r = absurd (omega (arith, k))
    from (Next n) (Next m) fits also e k r = ap Next (decimal_injective n m (omega (arith, fits)) (omega (arith, also)) (ap (λ (tokens : List (List ℕ)). get_or tokens 0 []) r))
    from (Next n) (Subject s m c i t) fits also e k r = absurd (omega (arith, k))
    from (Next n) (Object o l i q) fits also e k r = absurd (omega (arith, k))
    from (Next n) (Triple Matrix s o x) fits also e k r = absurd (omega (arith, k))
    from (Next n) (Triple Accesses s o x) fits also e k r = absurd (omega (arith, k))
    from (Subject s m c i t) (Kind q) fits also e k r = absurd (omega (arith, k))
    from (Subject s m c i t) (Next n) fits also e k r = absurd (omega (arith, k))
    from (Subject s m c i t) (Subject u n d j b) fits also e k r = subjects_apart s u m c i n d j t b fits also r
    from (Subject s m c i t) (Object o l j q) fits also e k r = absurd (omega (arith, k))
    from (Subject s m c i t) (Triple Matrix u o x) fits also e k r = absurd (omega (arith, k))
    from (Subject s m c i t) (Triple Accesses u o x) fits also e k r = absurd (omega (arith, k))
    from (Object o l i p) (Kind q) fits also e k r = absurd (omega (arith, k))
    from (Object o l i p) (Next n) fits also e k r = absurd (omega (arith, k))
    from (Object o l i p) (Subject s m c j t) fits also e k r = absurd (omega (arith, k))
    from (Object o l i p) (Object u m j q) fits also e k r = objects_apart o u l i m j p q fits also r
    from (Object o l i p) (Triple Matrix s u x) fits also e k r = absurd (omega (arith, k))
    from (Object o l i p) (Triple Accesses s u x) fits also e k r = absurd (omega (arith, k))
    from (Triple Matrix s o x) (Kind q) fits also e k r = absurd (omega (arith, k))
    from (Triple Accesses s o x) (Kind q) fits also e k r = absurd (omega (arith, k))
    from (Triple Matrix s o x) (Next n) fits also e k r = absurd (omega (arith, k))
    from (Triple Accesses s o x) (Next n) fits also e k r = absurd (omega (arith, k))
    from (Triple Matrix s o x) (Subject u m c i t) fits also e k r = absurd (omega (arith, k))
    from (Triple Accesses s o x) (Subject u m c i t) fits also e k r = absurd (omega (arith, k))
    from (Triple Matrix s o x) (Object u l i q) fits also e k r = absurd (omega (arith, k))
    from (Triple Accesses s o x) (Object u l i q) fits also e k r = absurd (omega (arith, k))
    from (Triple a s o x) (Triple b t u y) fits also e k r = triples_apart a b s t o u x y fits also e

  -- so rows with the same lines are the same
  pub rows_alike : (rows others : List Row) → AllFit names rows → AllFit names others → joined names rows ≡ joined names others → rows ≡ others
  rows_alike [] [] fit also e = refl
  rows_alike [] (b ∷ others) fit also e = absurd (not_empty (spaced (first_of b) (rest_of names b)) (joined names others) (sym e))
  rows_alike (a ∷ rows) [] fit also e = absurd (not_empty (spaced (first_of a) (rest_of names a)) (joined names rows) e)
  rows_alike (a ∷ rows) (b ∷ others) fit also e =
      let lines = lines_alike (first_of a) (rest_of names a) (first_of b) (rest_of names b) (joined names rows) (joined names others) (row_seen a fit.0) (row_seen b also.0) e in
      let row : a ≡ b = row_apart a b fit.0 also.0 lines.0 in
      let more : rows ≡ others = rows_alike rows others fit.1 also.1 lines.1 in
      (λ k. row k ∷ more k)
