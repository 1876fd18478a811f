-- What is written of a request is a line that asks for it.
use Rattle.std.proofs.Common.{◌≡◌, ℕ, ◌+◌, ◌<◌, ◌≤◌, ◌^◌, ◌⊎◌, inl, inr, List, [], ◌∷◌, ◌++◌, length, None, refl, sym, ap, subst, arith, append-nil}
use Rattle.std.specs.Prelude.{All}
use Rattle.std.proofs.lemmas.List.{append_assoc, length-append}
use Rattle.std.proofs.lemmas.List.Elements.{All-nil, All-cons}
use Rattle.mls_labels.specs.Label.{Label}
use Rattle.mls_labels.specs.LabelText.{Spells as LabelSpells}
use Rattle.mls_labels.specs.Scheme.{Scheme, IsScheme}
use Rattle.mls_requests.specs.ActionWords.{action_word}
use Rattle.mls_requests.specs.ModeWords.{mode_word}
use Rattle.mls_requests.specs.declared.action.Action.{Action}
use Rattle.mls_requests.specs.declared.action.Action.TheVariants as action
use Rattle.mls_requests.specs.declared.action_word.ActionWord.TheVariants as word
use Rattle.mls_journal.specs.EntryText.{ActionHasRanges}
use Rattle.mls_lines.specs.Forms.{Form, Get, Release, Give, Rescind, Create, Delete, Level, Relabel, tokens_in, Part, Subject, Object, Security, Integrity, parts_in}
use Rattle.mls_lines.specs.Grammar.{IsNamed, IsNumber, IsSubject, IsObject, IsLabel, IsSubjectForm, IsInForm, HasForm, Means, Says}
use Rattle.mls_lines.specs.LineView.{Asks, submits}
use Rattle.mls_lines.specs.Names.{Names}
use Rattle.mls_lines.specs.Tokens.{IsGap, IsToken, Spells}
use Rattle.mls_wording.specs.ReadBack.{HasNames, IsOf, HasSchemeLabels}
use Rattle.mls_wording.specs.RequestText.{request_text}
use Rattle.mls_wording.specs.Wording.{label_within, subject_text, object_text, security_text, integrity_text}
use Rattle.mls_wording.proofs.LabelNumbers.{WrittenLaw}
use Rattle.mls_wording.proofs.NamePlaces.{name_or_number}
use Rattle.mls_wording.proofs.Tokens.{Token, is_token, thing_token, mode_token, word_token, written_within, label_token}

-- tokens with one space between each two
abbrev spaced : List ℕ → List (List ℕ) → List ℕ
spaced t [] = t
spaced t (u ∷ us) = t ++ 32 ∷ spaced u us

abbrev AreTokens : List (List ℕ) → Type 0
AreTokens [] = Unit {0}
AreTokens (t ∷ ts) = IsToken t × AreTokens ts

spells_behind : (gap t : List ℕ) (ts : List (List ℕ)) → IsGap gap → AreTokens (t ∷ ts) → Spells (gap ++ spaced t ts) (t ∷ ts)
spells_behind gap t [] is tokens = (
  [],
  record { gap = gap; bytes = ap (λ bytes. gap ++ bytes) (sym (append-nil t)); gap_is = is; token_is = tokens.0; apart = inl refl },
  All-nil (λ byte. byte ≡ 32),
)
spells_behind gap t (u ∷ us) is tokens = (
  32 ∷ spaced u us,
  record { gap = gap; bytes = refl; gap_is = is; token_is = tokens.0; apart = inr (spaced u us, refl) },
  spells_behind (32 ∷ []) u us (All-cons (λ byte. byte ≡ 32) 32 [] refl (All-nil (λ byte. byte ≡ 32))) tokens.1,
)

spells_spaced : (t : List ℕ) (ts : List (List ℕ)) → AreTokens (t ∷ ts) → Spells (spaced t ts) (t ∷ ts)
spells_spaced t ts tokens = spells_behind [] t ts (All-nil (λ byte. byte ≡ 32)) tokens

-- three tokens, however they are put together
three : (a b c : List ℕ) → a ++ 32 ∷ b ++ 32 ∷ c ≡ spaced a (b ∷ c ∷ [])
three a b c = append_assoc a (32 ∷ b) (32 ∷ c)

-- how long they are, with a space behind each
abbrev room : List (List ℕ) → ℕ
room [] = 0
room (t ∷ ts) = length t + (1 + room ts)

spaced_short : (t : List ℕ) (ts : List (List ℕ)) → length (spaced t ts) ≤ room (t ∷ ts)
spaced_short t [] = omega arith
spaced_short t (u ∷ us) =
    let more = spaced_short u us in
    let both = length-append t (32 ∷ spaced u us) in
    omega (arith, more, both)

module _ (names : Names) (vars : List (List ℕ × ℕ)) (has : HasNames names) (spelled : WrittenLaw) (security : IsScheme names.security) (integrity : IsScheme names.integrity) where
  subject_named : (s : ℕ) → s < 2 ^ 16 → IsSubject names (subject_text names s) s
  subject_named s fits = name_or_number names.subjects has.subjects s fits

  object_or_number : (o : ℕ) → o < 2 ^ 16 → IsNamed names.objects (object_text names o) o ⊎ IsNumber (object_text names o) o
  object_or_number o fits = name_or_number names.objects has.objects o fits

  object_named : (o : ℕ) → o < 2 ^ 16 → IsObject names vars (object_text names o) o
  object_named o fits = elim (object_or_number o fits) [ inl named ↦ inl named | inr number ↦ inr (inl number) ]

  subject_token : (s : ℕ) → s < 2 ^ 16 → Token (subject_text names s) 32
  subject_token s fits = thing_token names.subjects (subject_text names s) s (subject_named s fits)

  object_token : (o : ℕ) → o < 2 ^ 16 → Token (object_text names o) 32
  object_token o fits = thing_token names.objects (object_text names o) o (object_or_number o fits)

  label_of : (scheme : Scheme) (l : Label) → IsScheme scheme → IsOf scheme l → IsLabel scheme (label_within scheme l) l
  label_of scheme l is of = (
    (label_token spelled scheme l is of).seen,
    subst (λ t. LabelSpells scheme t l) (sym (written_within scheme l of)) (spelled scheme l is of),
  )

  -- the forms of parts

  form_of_thing : (all : List (List ℕ)) (token : List ℕ) (n : ℕ) → IsNamed all token n ⊎ IsNumber token n → IsSubjectForm token
  form_of_thing all token n (inl named) = inl named.0
  form_of_thing all token n (inr number) = inr (n, number)

  subject_form : (s : ℕ) → s < 2 ^ 16 → IsInForm (Subject (subject_text names s))
  subject_form s fits = form_of_thing names.subjects (subject_text names s) s (subject_named s fits)

  object_form : (o : ℕ) → o < 2 ^ 16 → IsInForm (Object (object_text names o))
  object_form o fits = inl (form_of_thing names.objects (object_text names o) o (object_or_number o fits))

  security_form : (l : Label) → IsOf names.security l → IsInForm (Security (security_text names l))
  security_form l of = (label_token spelled names.security l security of).seen

  integrity_form : (i : Label) → IsOf names.integrity i → IsInForm (Integrity (integrity_text names i))
  integrity_form i of = (label_token spelled names.integrity i integrity of).seen

  no_parts : All IsInForm []
  no_parts = All-nil IsInForm

  with_part : (part : Part) (parts : List Part) → IsInForm part → All IsInForm parts → All IsInForm (part ∷ parts)
  with_part part parts one all = All-cons IsInForm part parts one all

  -- what is known of a line of a form: its tokens, its length, and the forms of its parts
  made : (t : List ℕ) (ts : List (List ℕ)) (form : Form) → tokens_in form ≡ t ∷ ts → AreTokens (t ∷ ts) → room (t ∷ ts) ≤ 20000 → All IsInForm (parts_in form) → HasForm (spaced t ts) form
  made t ts form are tokens small each =
      let fits = spaced_short t ts in
      record {
        short = omega (arith, fits, small);
        spells = subst (Spells (spaced t ts)) (sym are) (spells_spaced t ts tokens);
        each = each;
      }

  -- the form of what is written of a request
  abbrev pub form_of : ℕ → Action → Form
  form_of s (action.Get x o) = Get (subject_text names s) x (object_text names o)
  form_of s (action.Release x o) = Release (subject_text names s) x (object_text names o)
  form_of s (action.Give x t o) = Give (subject_text names s) x (subject_text names t) (object_text names o)
  form_of s (action.Rescind x t o) = Rescind (subject_text names s) x (subject_text names t) (object_text names o)
  form_of s (action.Create p l i) = Create (subject_text names s) (object_text names p) (security_text names l) (integrity_text names i)
  form_of s (action.Delete o) = Delete (subject_text names s) (object_text names o)
  form_of s (action.SubjectLevel l) = Level (subject_text names s) (security_text names l)
  form_of s (action.ObjectLevel o l) = Relabel (subject_text names s) (object_text names o) (security_text names l)

  abbrev line_of_request : ℕ → Action → List ℕ
  line_of_request s a = request_text names (record { subject = s; action = a })

  has_form : (s : ℕ) (a : Action) → s < 2 ^ 16 → ActionHasRanges a → HasSchemeLabels names a → HasForm (line_of_request s a) (form_of s a)
  has_form s (action.Get x o) first fits of =
      let a = subject_token s first in
      let b = word_token (word.Get x) in
      let c = object_token o fits in
      made (subject_text names s) (action_word (word.Get x) ∷ object_text names o ∷ []) (form_of s (action.Get x o)) refl
      (is_token _ 32 a, (is_token _ 11 b, (is_token _ 32 c, tt))) (omega (arith, a.short, b.short, c.short))
      (with_part (Subject (subject_text names s)) (Object (object_text names o) ∷ []) (subject_form s first)
      (with_part (Object (object_text names o)) [] (object_form o fits) no_parts))
  has_form s (action.Release x o) first fits of =
      let a = subject_token s first in
      let b = word_token word.Release in
      let c = mode_token x in
      let d = object_token o fits in
      made (subject_text names s) (action_word word.Release ∷ mode_word x ∷ object_text names o ∷ []) (form_of s (action.Release x o)) refl
      (is_token _ 32 a, (is_token _ 11 b, (is_token _ 7 c, (is_token _ 32 d, tt)))) (omega (arith, a.short, b.short, c.short, d.short))
      (with_part (Subject (subject_text names s)) (Object (object_text names o) ∷ []) (subject_form s first)
      (with_part (Object (object_text names o)) [] (object_form o fits) no_parts))
  has_form s (action.Give x t o) first fits of =
      let a = subject_token s first in
      let b = word_token word.Give in
      let c = mode_token x in
      let d = subject_token t fits.0 in
      let e = object_token o fits.1 in
      subst (λ text. HasForm text (form_of s (action.Give x t o))) (sym (ap (λ operands. subject_text names s ++ 32 ∷ (action_word word.Give ++ 32 ∷ operands)) (three (mode_word x) (subject_text names t) (object_text names o))))
      (made (subject_text names s) (action_word word.Give ∷ mode_word x ∷ subject_text names t ∷ object_text names o ∷ []) (form_of s (action.Give x t o)) refl
      (is_token _ 32 a, (is_token _ 11 b, (is_token _ 7 c, (is_token _ 32 d, (is_token _ 32 e, tt))))) (omega (arith, a.short, b.short, c.short, d.short, e.short))
      (with_part (Subject (subject_text names s)) (Subject (subject_text names t) ∷ Object (object_text names o) ∷ []) (subject_form s first)
      (with_part (Subject (subject_text names t)) (Object (object_text names o) ∷ []) (subject_form t fits.0)
      (with_part (Object (object_text names o)) [] (object_form o fits.1) no_parts))))
  has_form s (action.Rescind x t o) first fits of =
      let a = subject_token s first in
      let b = word_token word.Rescind in
      let c = mode_token x in
      let d = subject_token t fits.0 in
      let e = object_token o fits.1 in
      subst (λ text. HasForm text (form_of s (action.Rescind x t o))) (sym (ap (λ operands. subject_text names s ++ 32 ∷ (action_word word.Rescind ++ 32 ∷ operands)) (three (mode_word x) (subject_text names t) (object_text names o))))
      (made (subject_text names s) (action_word word.Rescind ∷ mode_word x ∷ subject_text names t ∷ object_text names o ∷ []) (form_of s (action.Rescind x t o)) refl
      (is_token _ 32 a, (is_token _ 11 b, (is_token _ 7 c, (is_token _ 32 d, (is_token _ 32 e, tt))))) (omega (arith, a.short, b.short, c.short, d.short, e.short))
      (with_part (Subject (subject_text names s)) (Subject (subject_text names t) ∷ Object (object_text names o) ∷ []) (subject_form s first)
      (with_part (Subject (subject_text names t)) (Object (object_text names o) ∷ []) (subject_form t fits.0)
      (with_part (Object (object_text names o)) [] (object_form o fits.1) no_parts))))
  has_form s (action.Create p l i) first fits of =
      let a = subject_token s first in
      let b = word_token word.Create in
      let c = object_token p fits.0 in
      let d = label_token spelled names.security l security of.0 in
      let e = label_token spelled names.integrity i integrity of.1 in
      subst (λ text. HasForm text (form_of s (action.Create p l i))) (sym (ap (λ operands. subject_text names s ++ 32 ∷ (action_word word.Create ++ 32 ∷ operands)) (three (object_text names p) (security_text names l) (integrity_text names i))))
      (made (subject_text names s) (action_word word.Create ∷ object_text names p ∷ security_text names l ∷ integrity_text names i ∷ []) (form_of s (action.Create p l i)) refl
      (is_token _ 32 a, (is_token _ 11 b, (is_token _ 32 c, (is_token _ 8480 d, (is_token _ 8480 e, tt))))) (omega (arith, a.short, b.short, c.short, d.short, e.short))
      (with_part (Subject (subject_text names s)) (Object (object_text names p) ∷ Security (security_text names l) ∷ Integrity (integrity_text names i) ∷ []) (subject_form s first)
      (with_part (Object (object_text names p)) (Security (security_text names l) ∷ Integrity (integrity_text names i) ∷ []) (object_form p fits.0)
      (with_part (Security (security_text names l)) (Integrity (integrity_text names i) ∷ []) (security_form l of.0)
      (with_part (Integrity (integrity_text names i)) [] (integrity_form i of.1) no_parts)))))
  has_form s (action.Delete o) first fits of =
      let a = subject_token s first in
      let b = word_token word.Delete in
      let c = object_token o fits in
      made (subject_text names s) (action_word word.Delete ∷ object_text names o ∷ []) (form_of s (action.Delete o)) refl
      (is_token _ 32 a, (is_token _ 11 b, (is_token _ 32 c, tt))) (omega (arith, a.short, b.short, c.short))
      (with_part (Subject (subject_text names s)) (Object (object_text names o) ∷ []) (subject_form s first)
      (with_part (Object (object_text names o)) [] (object_form o fits) no_parts))
  has_form s (action.SubjectLevel l) first fits of =
      let a = subject_token s first in
      let b = word_token word.Level in
      let c = label_token spelled names.security l security of in
      made (subject_text names s) (action_word word.Level ∷ security_text names l ∷ []) (form_of s (action.SubjectLevel l)) refl
      (is_token _ 32 a, (is_token _ 11 b, (is_token _ 8480 c, tt))) (omega (arith, a.short, b.short, c.short))
      (with_part (Subject (subject_text names s)) (Security (security_text names l) ∷ []) (subject_form s first)
      (with_part (Security (security_text names l)) [] (security_form l of) no_parts))
  has_form s (action.ObjectLevel o l) first fits of =
      let a = subject_token s first in
      let b = word_token word.Relabel in
      let c = object_token o fits.0 in
      let d = label_token spelled names.security l security of in
      made (subject_text names s) (action_word word.Relabel ∷ object_text names o ∷ security_text names l ∷ []) (form_of s (action.ObjectLevel o l)) refl
      (is_token _ 32 a, (is_token _ 11 b, (is_token _ 32 c, (is_token _ 8480 d, tt)))) (omega (arith, a.short, b.short, c.short, d.short))
      (with_part (Subject (subject_text names s)) (Object (object_text names o) ∷ Security (security_text names l) ∷ []) (subject_form s first)
      (with_part (Object (object_text names o)) (Security (security_text names l) ∷ []) (object_form o fits.0)
      (with_part (Security (security_text names l)) [] (security_form l of) no_parts)))

  means : (s : ℕ) (a : Action) → s < 2 ^ 16 → ActionHasRanges a → HasSchemeLabels names a → Means names vars (form_of s a) (Asks None (submits s a))
  means s (action.Get x o) first fits of = (s, o, subject_named s first, object_named o fits, refl)
  means s (action.Release x o) first fits of = (s, o, subject_named s first, object_named o fits, refl)
  means s (action.Give x t o) first fits of = (s, t, o, subject_named s first, subject_named t fits.0, object_named o fits.1, refl)
  means s (action.Rescind x t o) first fits of = (s, t, o, subject_named s first, subject_named t fits.0, object_named o fits.1, refl)
  means s (action.Create p l i) first fits of = (s, p, l, i, subject_named s first, object_named p fits.0, label_of names.security l security of.0, label_of names.integrity i integrity of.1, refl)
  means s (action.Delete o) first fits of = (s, o, subject_named s first, object_named o fits, refl)
  means s (action.SubjectLevel l) first fits of = (s, l, subject_named s first, label_of names.security l security of, refl)
  means s (action.ObjectLevel o l) first fits of = (s, o, l, subject_named s first, object_named o fits.0, label_of names.security l security of, refl)

  -- the line says the request
  pub request_says : (s : ℕ) (a : Action) → s < 2 ^ 16 → ActionHasRanges a → HasSchemeLabels names a → Says names vars (line_of_request s a) (Asks None (submits s a))
  request_says s a first fits of = (form_of s a, has_form s a first fits of, means s a first fits of)
