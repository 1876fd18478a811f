-- Each byte of a row's words is seen when printed.
use Rattle.std.proofs.Common.{◌≡◌, ℕ, ◌<◌, ◌^◌, Bool, true, false, Option, Some, None, refl, arith}
use Rattle.std.specs.Prelude.{IfSome}
use Rattle.std.specs.Fmt.{decimal}
use Rattle.std.specs.List.{list_all}
use Rattle.std.specs.Cmp.Derive.{both_true}
use Rattle.mls_labels.specs.Label.{Label}
use Rattle.mls_labels.specs.Scheme.{IsScheme}
use Rattle.mls_lines.specs.Labels.{is_label_byte}
use Rattle.mls_lines.specs.Names.{Names}
use Rattle.mls_state.specs.declared.table.Table.{Table}
use Rattle.mls_state.specs.declared.table.Table.TheVariants.{Matrix, Accesses}
use Rattle.mls_tables.specs.declared.limits.TheConstants.{MAX_SUBJECTS, MAX_OBJECTS}
use Rattle.mls_tables.specs.declared.mode.Mode.{Mode}
use Rattle.mls_tree.specs.declared.profile.Profile.{Profile}
use Rattle.mls_tree.specs.declared.profile.Profile.TheVariants.{One, Two}
use Rattle.mls_wording.specs.ReadBack.{HasNames, IsOf}
use Rattle.mls_wording.specs.Wording.{subject_text, object_text, security_text, integrity_text}
use Rattle.mls_wording.proofs.Laws.{WrittenLaw, mode_token, decimal_seen, label_token, number_token}
use Rattle.mls_snapshots.specs.Rows.{are_seen, Row, Kind, Next, Subject, Object, Triple, trust_tokens, parent_tokens, words_of, IsWithin}

digits_seen : (n : ℕ) → n < 2 ^ 16 → list_all is_label_byte (decimal n) ≡ true
digits_seen n fits = decimal_seen n (omega (arith, fits))

module _ (names : Names) (has : HasNames names) (spelled : WrittenLaw) (security : IsScheme names.security) (integrity : IsScheme names.integrity) where
  subject_seen : (s : ℕ) → s < MAX_SUBJECTS → list_all is_label_byte (subject_text names s) ≡ true
  subject_seen s within = (number_token names.subjects has.subjects s (omega (arith, within))).seen

  object_seen : (o : ℕ) → o < MAX_OBJECTS → list_all is_label_byte (object_text names o) ≡ true
  object_seen o within = (number_token names.objects has.objects o (omega (arith, within))).seen

  security_seen : (l : Label) → IsOf names.security l → list_all is_label_byte (security_text names l) ≡ true
  security_seen l of = (label_token spelled names.security l security of).seen

  integrity_seen : (i : Label) → IsOf names.integrity i → list_all is_label_byte (integrity_text names i) ≡ true
  integrity_seen i of = (label_token spelled names.integrity i integrity of).seen

  trust_seen : (t : Bool) → are_seen (trust_tokens t) ≡ true
  trust_seen true = refl
  trust_seen false = refl

  parent_seen : (p : Option ℕ) → IfSome p (λ q. q < MAX_OBJECTS) → are_seen (parent_tokens names p) ≡ true
  parent_seen None within = refl
  parent_seen (Some p) within = both_true refl (both_true (object_seen p within) refl)

  kind_seen : (p : Profile) → are_seen (words_of names (Kind p)) ≡ true
  kind_seen One = both_true refl (both_true (digits_seen 1 (omega arith)) refl)
  kind_seen Two = both_true refl (both_true (digits_seen 2 (omega arith)) refl)

  triple_seen : (table : Table) (s o : ℕ) (x : Mode) → s < MAX_SUBJECTS → o < MAX_OBJECTS → are_seen (words_of names (Triple table s o x)) ≡ true
  triple_seen Matrix s o x first second =
      both_true refl (both_true (subject_seen s first) (both_true (mode_token x).seen (both_true (object_seen o second) refl)))
  triple_seen Accesses s o x first second =
      both_true refl (both_true (subject_seen s first) (both_true (mode_token x).seen (both_true (object_seen o second) refl)))

  pub row_seen : (row : Row) → IsWithin names row → are_seen (words_of names row) ≡ true
  row_seen (Kind p) within = kind_seen p
  row_seen (Next n) within = both_true refl (both_true (digits_seen n (omega (arith, within))) refl)
  row_seen (Subject s m c i t) within =
      both_true refl (both_true (subject_seen s within.0.1)
      (both_true refl (both_true (security_seen m within.1) (both_true refl (both_true (security_seen c within.2) (both_true refl (both_true (integrity_seen i within.3) (trust_seen t))))))))
  row_seen (Object o l i p) within =
      both_true refl (both_true (object_seen o within.0)
      (both_true refl (both_true (security_seen l within.1) (both_true refl (both_true (integrity_seen i within.2) (parent_seen p within.3))))))
  row_seen (Triple table s o x) within = triple_seen table s o x within.0.1 within.1
