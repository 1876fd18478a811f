-- What is written of a row is read as that row.
use Rattle.std.proofs.Common.{◌≡◌, ℕ, ◌<◌, inl, inr, Bool, true, false, List, [], ◌∷◌, Option, Some, None, Ok, refl, ap, ◌∙◌, arith}
use Rattle.std.proofs.lemmas.Bool.{and_parts}
use Rattle.std.proofs.lemmas.Bool.Decides.{nat_tests}
use Rattle.std.proofs.lemmas.Fmt.{decimal_digit}
use Rattle.std.proofs.lemmas.Slice.Eq.{bytes_eq-Decides}
use Rattle.std.specs.Prelude.{◌==◌, ◌↔◌, codes, option_map, IfSome}
use Rattle.std.specs.Cmp.Derive.{both_true}
use Rattle.std.specs.Fmt.{decimal}
use Rattle.std.specs.List.{list_all}
use Rattle.std.specs.Option.{option_and_then}
use Rattle.std.specs.Result.{result_ok}
use Rattle.std.specs.Str.{bytes_eq}
use Rattle.mls_facts.proofs.Decimals.{decimal-read}
use Rattle.mls_labels.specs.Label.{Label}
use Rattle.mls_labels.specs.LabelText.{Spells, written}
use Rattle.mls_labels.specs.Names.{is_name, is_name_byte}
use Rattle.mls_labels.specs.Reading.{place_of, label_at}
use Rattle.mls_labels.specs.Scheme.{Scheme, IsScheme}
use Rattle.mls_lines.specs.Labels.{is_label_byte}
use Rattle.mls_lines.specs.Names.{Names}
use Rattle.mls_requests.specs.ModeWords.{mode_word, read_mode}
use Rattle.mls_state.specs.declared.table.Table.TheVariants.{Matrix, Accesses}
use Rattle.mls_tables.specs.declared.limits.TheConstants.{MAX_OBJECTS}
use Rattle.mls_tables.specs.declared.mode.Mode.{Mode}
use Rattle.mls_tables.specs.declared.mode.Mode.TheVariants.{Execute, Read, Append, Write}
use Rattle.mls_tree.specs.declared.profile.Profile.{Profile}
use Rattle.mls_tree.specs.declared.profile.Profile.TheVariants.{One, Two}
use Rattle.mls_wording.specs.ReadBack.{HasNames, IsOf}
use Rattle.mls_wording.specs.Wording.{label_within, subject_text, object_text, security_text, integrity_text}
use Rattle.mls_wording.proofs.Laws.{WrittenLaw, name_or_number, placed}
use Rattle.mls_snapshots.specs.LineReading.{front, behind, keyed_in, object_in, label_in, profile_in, subject_with, subject_in, parent_with, parent_in, parts_with, parts_in, object_with, triple_with, triple_in, said_behind, said_in}
use Rattle.mls_snapshots.specs.Rows.{are_seen, Row, Kind, Next, Subject, Object, Triple, spaced, words_line, first_of, trust_tokens, parent_tokens, rest_of, row_line, said_of, IsNamedSubject, IsWithin}
use Rattle.mls_snapshots.specs.States.{profile_number}
use Rattle.mls_snapshots.specs.declared.state_line.StateLine.TheVariants as line
use Rattle.mls_snapshots.proofs.Cuts.{Lacks, lacks_seen, front_at, behind_at, front_all, behind_all}

-- the words of a line, one by one

first_seen : (t : List ℕ) (ts : List (List ℕ)) → are_seen (t ∷ ts) ≡ true → Lacks 32 t
first_seen t ts seen = lacks_seen 32 refl t (and_parts (list_all is_label_byte t) (are_seen ts) seen).0

rest_seen : (t : List ℕ) (ts : List (List ℕ)) → are_seen (t ∷ ts) ≡ true → are_seen ts ≡ true
rest_seen t ts seen = (and_parts (list_all is_label_byte t) (are_seen ts) seen).1

front_line : (t : List ℕ) (ts : List (List ℕ)) → are_seen (t ∷ ts) ≡ true → front 32 (spaced t ts) ≡ t
front_line t [] seen = front_all 32 t (first_seen t [] seen)
front_line t (u ∷ us) seen = front_at 32 t (spaced u us) (first_seen t (u ∷ us) seen)

behind_line : (t : List ℕ) (ts : List (List ℕ)) → are_seen (t ∷ ts) ≡ true → behind 32 (spaced t ts) ≡ words_line ts
behind_line t [] seen = behind_all 32 t (first_seen t [] seen)
behind_line t (u ∷ us) seen = behind_at 32 t (spaced u us) (first_seen t (u ∷ us) seen)

keyed_line : (key t : List ℕ) (ts : List (List ℕ)) → are_seen (key ∷ t ∷ ts) ≡ true → keyed_in (spaced key (t ∷ ts)) key ≡ Some (t, words_line ts)
keyed_line key t ts seen =
    let is : bytes_eq (front 32 (spaced key (t ∷ ts))) key ≡ true = (bytes_eq-Decides (front 32 (spaced key (t ∷ ts))) key).1 (front_line key (t ∷ ts) seen) in
    let more : behind 32 (spaced key (t ∷ ts)) ≡ spaced t ts = behind_line key (t ∷ ts) seen in
    let others = rest_seen key (t ∷ ts) seen in
    let word : front 32 (behind 32 (spaced key (t ∷ ts))) ≡ t = ap (front 32) more ∙ front_line t ts others in
    let rest : behind 32 (behind 32 (spaced key (t ∷ ts))) ≡ words_line ts = ap (behind 32) more ∙ behind_line t ts others in
    rw (is, word, rest) refl

-- what each word stands for

object_named : (names : Names) (word : List ℕ) (o : ℕ) → is_name word ≡ true → place_of names.objects word ≡ Some o → object_in names word ≡ Some o
object_named names [] o named place = place
object_named names (b ∷ word) o named place =
    let byte : is_name_byte b ≡ true = (and_parts (is_name_byte b) (list_all is_name_byte word) (and_parts _ (list_all is_name_byte (b ∷ word)) named).1).0 in
    let other : (b == 35) ≡ false = grind (arith, nat_tests, byte) in
    rw other place

object_reads : (names : Names) → HasNames names → (o : ℕ) → o < MAX_OBJECTS → object_in names (object_text names o) ≡ Some o
object_reads names has o within = elim (name_or_number names.objects has.objects o (omega (arith, within))) [
  | inl named ↦ object_named names (object_text names o) o named.0 named.1
  | inr number ↦ ap (object_in names) number.1 ∙ decimal-read MAX_OBJECTS (omega arith) o (omega (arith, within))
]

mode_reads : (x : Mode) → read_mode (mode_word x) ≡ Some x
mode_reads Execute = refl
mode_reads Read = refl
mode_reads Append = refl
mode_reads Write = refl

trust_reads : (t : Bool) → bytes_eq (words_line (trust_tokens t)) (codes "trusted") ≡ t
trust_reads true = refl
trust_reads false = refl

profile_reads : (p : Profile) → profile_in (decimal (profile_number p)) ≡ Some p
profile_reads One = ap profile_in (decimal_digit 1 (omega arith))
profile_reads Two = ap profile_in (decimal_digit 2 (omega arith))

-- what stands behind a thing's name

keyed_subject : (names : Names) (m c i : List ℕ) (ts : List (List ℕ)) → are_seen (m ∷ codes "current" ∷ c ∷ codes "integrity" ∷ i ∷ ts) ≡ true
    → subject_in names (spaced (codes "maximum") (m ∷ codes "current" ∷ c ∷ codes "integrity" ∷ i ∷ ts))
    ≡ subject_with (label_in names.security m) (label_in names.security c) (label_in names.integrity i) (bytes_eq (words_line ts) (codes "trusted"))
keyed_subject names m c i ts seen =
    let own = rest_seen (codes "current") (c ∷ codes "integrity" ∷ i ∷ ts) (rest_seen m (codes "current" ∷ c ∷ codes "integrity" ∷ i ∷ ts) seen) in
    let last = rest_seen c (codes "integrity" ∷ i ∷ ts) own in
    let first = keyed_line (codes "maximum") m (codes "current" ∷ c ∷ codes "integrity" ∷ i ∷ ts) (both_true refl seen) in
    let second = keyed_line (codes "current") c (codes "integrity" ∷ i ∷ ts) (both_true refl own) in
    let third = keyed_line (codes "integrity") i ts last in
    ap (λ (o : Option (List ℕ × List ℕ)). option_and_then (λ maximum. option_and_then (λ current. option_and_then (λ own.
    subject_with (label_in names.security maximum.0) (label_in names.security current.0) (label_in names.integrity own.0) (bytes_eq own.1 (codes "trusted")))
    (keyed_in current.1 (codes "integrity"))) (keyed_in maximum.1 (codes "current"))) o) first
    ∙ ap (λ (o : Option (List ℕ × List ℕ)). option_and_then (λ current. option_and_then (λ own.
    subject_with (label_in names.security m) (label_in names.security current.0) (label_in names.integrity own.0) (bytes_eq own.1 (codes "trusted")))
    (keyed_in current.1 (codes "integrity"))) o) second
    ∙ ap (λ (o : Option (List ℕ × List ℕ)). option_and_then (λ own.
    subject_with (label_in names.security m) (label_in names.security c) (label_in names.integrity own.0) (bytes_eq own.1 (codes "trusted"))) o) third

keyed_parts : (names : Names) (l i : List ℕ) (ts : List (List ℕ)) → are_seen (l ∷ codes "integrity" ∷ i ∷ ts) ≡ true
    → parts_in names (spaced (codes "security") (l ∷ codes "integrity" ∷ i ∷ ts)) ≡ parts_with (label_in names.security l) (label_in names.integrity i) (parent_in names (words_line ts))
keyed_parts names l i ts seen =
    let own = rest_seen l (codes "integrity" ∷ i ∷ ts) seen in
    let first = keyed_line (codes "security") l (codes "integrity" ∷ i ∷ ts) (both_true refl seen) in
    let second = keyed_line (codes "integrity") i ts own in
    ap (λ (o : Option (List ℕ × List ℕ)). option_and_then (λ label. option_and_then (λ own.
    parts_with (label_in names.security label.0) (label_in names.integrity own.0) (parent_in names own.1))
    (keyed_in label.1 (codes "integrity"))) o) first
    ∙ ap (λ (o : Option (List ℕ × List ℕ)). option_and_then (λ own.
    parts_with (label_in names.security l) (label_in names.integrity own.0) (parent_in names own.1)) o) second

no_parent : (names : Names) → parent_in names [] ≡ Some None
unfolding front
no_parent names = refl

-- a line by its first word
line_said : (names : Names) (t : List ℕ) (ts : List (List ℕ)) → are_seen (t ∷ ts) ≡ true → said_in names (spaced t ts) ≡ said_behind names t (words_line ts)
line_said names t ts seen =
    ap (λ w. said_behind names w (behind 32 (spaced t ts))) (front_line t ts seen) ∙ ap (said_behind names t) (behind_line t ts seen)

-- a text is read as a label just where it spells it
abbrev pub LabelLaw : Type 0
LabelLaw = (s : Scheme) (text : List ℕ) (l : Label) → IsScheme s → (label_at s text ≡ Ok l) ↔ Spells s text l

module _ (names : Names) (has : HasNames names) (spelled : WrittenLaw) (labels : LabelLaw) (security : IsScheme names.security) (integrity : IsScheme names.integrity) where
  label_reads : (s : Scheme) → IsScheme s → (l : Label) → IsOf s l → label_in s (label_within s l) ≡ Some l
  label_reads s is l of =
      let text : label_within s l ≡ written s l = rw of refl in
      ap (label_in s) text ∙ ap result_ok ((labels s (written s l) l is).1 (spelled s l is of))

  security_reads : (l : Label) → IsOf names.security l → label_in names.security (security_text names l) ≡ Some l
  security_reads l of = label_reads names.security security l of

  integrity_reads : (i : Label) → IsOf names.integrity i → label_in names.integrity (integrity_text names i) ≡ Some i
  integrity_reads i of = label_reads names.integrity integrity i of

  parent_reads : (p : Option ℕ) → are_seen (parent_tokens names p) ≡ true → IfSome p (λ q. q < MAX_OBJECTS) → parent_in names (words_line (parent_tokens names p)) ≡ Some p
  parent_reads None seen within = no_parent names
  parent_reads (Some p) seen within =
      ap (parent_with names) (keyed_line (codes "parent") (object_text names p) [] seen)
      ∙ ap (option_map (λ o. Some o)) (object_reads names has p within)

  subject_said : (s : ℕ) (m c i : Label) (t : Bool) → are_seen (rest_of names (Subject s m c i t)) ≡ true → IsWithin names (Subject s m c i t)
      → said_behind names (codes "subject") (words_line (rest_of names (Subject s m c i t))) ≡ Some (said_of (Subject s m c i t))
  subject_said s m c i t seen within =
      let ts = trust_tokens t in
      let parts = codes "maximum" ∷ security_text names m ∷ codes "current" ∷ security_text names c ∷ codes "integrity" ∷ integrity_text names i ∷ ts in
      let others = rest_seen (subject_text names s) parts seen in
      ap (λ text. option_map (λ w. line.Subject w) (subject_in names text)) (behind_line (subject_text names s) parts seen)
      ∙ ap (λ o. option_map (λ w. line.Subject w) o)
      (keyed_subject names (security_text names m) (security_text names c) (integrity_text names i) ts
      (rest_seen (codes "maximum") (security_text names m ∷ codes "current" ∷ security_text names c ∷ codes "integrity" ∷ integrity_text names i ∷ ts) others))
      ∙ (λ k. option_map (λ w. line.Subject w) (subject_with (security_reads m within.1 k) (security_reads c within.2 k) (integrity_reads i within.3 k) (trust_reads t k)))

  object_said : (o : ℕ) (l i : Label) (p : Option ℕ) → are_seen (rest_of names (Object o l i p)) ≡ true → IsWithin names (Object o l i p)
      → said_behind names (codes "object") (words_line (rest_of names (Object o l i p))) ≡ Some (said_of (Object o l i p))
  object_said o l i p seen within =
      let ts = parent_tokens names p in
      let parts = codes "security" ∷ security_text names l ∷ codes "integrity" ∷ integrity_text names i ∷ ts in
      let others = rest_seen (object_text names o) parts seen in
      let labels = rest_seen (codes "security") (security_text names l ∷ codes "integrity" ∷ integrity_text names i ∷ ts) others in
      let own = rest_seen (security_text names l) (codes "integrity" ∷ integrity_text names i ∷ ts) labels in
      let last = rest_seen (integrity_text names i) ts (rest_seen (codes "integrity") (integrity_text names i ∷ ts) own) in
      (λ k. object_with (object_in names (front_line (object_text names o) parts seen k)) (parts_in names (behind_line (object_text names o) parts seen k)))
      ∙ (λ k. object_with (object_reads names has o within.0 k) (keyed_parts names (security_text names l) (integrity_text names i) ts labels k))
      ∙ (λ k. object_with (Some o) (parts_with (security_reads l within.1 k) (integrity_reads i within.2 k) (parent_reads p last within.3 k)))

  triple_read : (s o : ℕ) (x : Mode) → are_seen (subject_text names s ∷ mode_word x ∷ object_text names o ∷ []) ≡ true → IsNamedSubject names s → o < MAX_OBJECTS
      → triple_in names (words_line (subject_text names s ∷ mode_word x ∷ object_text names o ∷ [])) ≡ Some (s, o, x)
  triple_read s o x seen named within =
      let more = mode_word x ∷ object_text names o ∷ [] in
      let others = rest_seen (subject_text names s) more seen in
      let front_is = front_line (subject_text names s) more seen in
      let behind_is = behind_line (subject_text names s) more seen in
      (λ k. triple_with (place_of names.subjects (front_is k)) (object_in names (behind 32 (behind_is k))) (read_mode (front 32 (behind_is k))))
      ∙ (λ k. triple_with (placed names.subjects has.subjects s named.0 k) (object_in names (behind_line (mode_word x) (object_text names o ∷ []) others k)) (read_mode (front_line (mode_word x) (object_text names o ∷ []) others k)))
      ∙ (λ k. triple_with (Some s) (object_reads names has o within k) (mode_reads x k))

  row_said : (row : Row) → are_seen (first_of row ∷ rest_of names row) ≡ true → IsWithin names row → said_behind names (first_of row) (words_line (rest_of names row)) ≡ Some (said_of row)
  row_said (Kind p) seen within = ap (option_map (λ p. line.Profile p)) (profile_reads p)
  row_said (Next n) seen within = ap (option_map (λ n. line.Next n)) (decimal-read MAX_OBJECTS (omega arith) n within)
  row_said (Subject s m c i t) seen within = subject_said s m c i t (rest_seen (codes "subject") (rest_of names (Subject s m c i t)) seen) within
  row_said (Object o l i p) seen within = object_said o l i p (rest_seen (codes "object") (rest_of names (Object o l i p)) seen) within
  row_said (Triple Matrix s o x) seen within =
      ap (option_map (λ t. line.Triple Matrix t)) (triple_read s o x (rest_seen (codes "permit") (rest_of names (Triple Matrix s o x)) seen) within.0 within.1)
  row_said (Triple Accesses s o x) seen within =
      ap (option_map (λ t. line.Triple Accesses t)) (triple_read s o x (rest_seen (codes "access") (rest_of names (Triple Accesses s o x)) seen) within.0 within.1)

  -- what is written of a row that is within what is read says that row
  pub row_reads : (row : Row) → are_seen (first_of row ∷ rest_of names row) ≡ true → IsWithin names row → said_in names (row_line names row) ≡ Some (said_of row)
  row_reads row seen within = line_said names (first_of row) (rest_of names row) seen ∙ row_said row seen within
