-- A line is read as what it says by the grammar, or with the fault for which the grammar refuses it.
use Rattle.std.proofs.Common.{◌≡◌, ℕ, true, false, cond, ◌⊎◌, List, length, Result, Ok, Err, refl, sym, ap, subst, ◌∙◌, inl, inr, arith}
use Rattle.std.specs.Prelude.{nat_lt, ◌≤◌, All}
use Rattle.std.proofs.lemmas.Bool.Decides.{nat_tests}
use Rattle.std.proofs.lemmas.List.Elements.{All-contains}
use Rattle.mls_labels.specs.Scheme.{IsScheme}
use Rattle.mls_lines.specs.declared.fault.LineFault.{LineFault}
use Rattle.mls_lines.specs.declared.fault.LineFault.TheVariants.{BadForm, UnknownName, BadLabel}
use Rattle.mls_lines.specs.Forms.{Form, tokens_in, parts_in}
use Rattle.mls_lines.specs.Grammar.{IsInForm, IsKnown, IsSpelled, HasForm, Says, IsRefused}
use Rattle.mls_lines.specs.LineView.{LineView}
use Rattle.mls_lines.specs.Names.{Names}
use Rattle.mls_lines.specs.ScriptLine.{said_of, line_of}
use Rattle.mls_lines.specs.Tokens.{Spells, tokens_of}
use Rattle.mls_lines.proofs.FormsFound.{ModeLaw, ActionLaw, tokens_found}
use Rattle.mls_lines.proofs.FormsRead.{read_form, forms_read, forms_fault, means_read, means_said}
use Rattle.mls_lines.proofs.PartFaults.{fault_in, PartsJudged, parts_judged}
use Rattle.mls_lines.proofs.TokenForms.{LabelLaw}
use Rattle.mls_lines.proofs.TokensLaw.{line_spells, spelled_alone}

-- what is known of the words and the label texts
pub record Laws : Type 0 where
  pub labels : LabelLaw
  pub modes : ModeLaw
  pub actions : ActionLaw

module _ (laws : Laws) (names : Names) (vars : List (List ℕ × ℕ)) (security : IsScheme names.security) (integrity : IsScheme names.integrity) where
  abbrev read : Form → Result LineView LineFault
  read form = read_form names vars form

  judged : (form : Form) (r : Result LineView LineFault) → read form ≡ r → PartsJudged names vars (parts_in form) (fault_in r)
  judged form r e =
      subst (PartsJudged names vars (parts_in form)) (sym (forms_fault names vars form) ∙ ap fault_in e)
      (parts_judged names vars laws.labels security integrity (parts_in form))

  -- a line that isn't too long is read by its tokens
  short_read : (line : List ℕ) → length line ≤ 20000 → line_of names vars line ≡ said_of names vars (tokens_of line)
  short_read line short = let within : nat_lt 20000 (length line) ≡ false = grind (arith, nat_tests, short) in rw within refl

  -- a line of a form is read as the form is
  read_as : (line : List ℕ) (form : Form) → HasForm line form → line_of names vars line ≡ read form
  read_as line form has =
      short_read line has.short ∙ ap (said_of names vars) (sym (spelled_alone line (tokens_in form) has.spells)) ∙ forms_read names vars form has.each

  -- a form whose tokens a line spells, and as which it is read
  record Fits (line : List ℕ) : Type 0 where
    pub form : Form
    pub short : length line ≤ 20000
    pub spells : Spells line (tokens_in form)
    pub reads : line_of names vars line ≡ read form

  found : (line : List ℕ) → (line_of names vars line ≡ Err BadForm) ⊎ Fits line
  found line = elim (nat_lt 20000 (length line)) as (λ t. nat_lt 20000 (length line) ≡ t → (cond t (Err BadForm) (said_of names vars (tokens_of line)) ≡ Err BadForm) ⊎ Fits line) [
    | true ↦ λ _. inl refl
    | false ↦ λ e.
        let short : length line ≤ 20000 = grind (arith, nat_tests, e) in
        elim (tokens_found laws.modes laws.actions names vars (tokens_of line)) [
          | inl bad ↦ inl bad
          | inr fit ↦ inr (record { form = fit.0; short = short; spells = subst (Spells line) fit.1 (line_spells line); reads = short_read line short ∙ fit.2 })
        ]
  ] refl

  has_form : (line : List ℕ) (fits : Fits line) → All IsInForm (parts_in fits.form) → HasForm line fits.form
  has_form line fits each = record { short = fits.short; spells = fits.spells; each = each }

  -- what is read of a line it says
  pub line_says : (line : List ℕ) (view : LineView) → line_of names vars line ≡ Ok view → Says names vars line view
  line_says line view h = elim (found line) [
    | inl bad ↦ absurd (let no : ◌≡◌ {A = Result LineView LineFault} (Err BadForm) (Ok view) = sym bad ∙ h in cc)
    | inr fits ↦
        let reads : read fits.form ≡ Ok view = sym fits.reads ∙ h in
        (fits.form, has_form line fits (judged fits.form (Ok view) reads).0, means_said names vars laws.labels security integrity fits.form view reads)
  ]

  -- and what it says is read of it
  pub line_reads : (line : List ℕ) (view : LineView) → Says names vars line view → line_of names vars line ≡ Ok view
  line_reads line view (form, has, means) = read_as line form has ∙ means_read names vars laws.labels security integrity form view has.each means

  -- a line that is read with a fault is refused for it
  pub line_refused : (line : List ℕ) (fault : LineFault) → line_of names vars line ≡ Err fault → IsRefused names vars line fault
  line_refused line BadForm h = λ form has. judged form (Err BadForm) (sym (read_as line form has) ∙ h) has.each
  line_refused line UnknownName h = elim (found line) [
    | inl bad ↦ absurd (let no : ◌≡◌ {A = Result LineView LineFault} (Err BadForm) (Err UnknownName) = sym bad ∙ h in cc)
    | inr fits ↦ let j = judged fits.form (Err UnknownName) (sym fits.reads ∙ h) in (fits.form, has_form line fits j.0, j.1.0, j.1.1, j.1.2)
  ]
  line_refused line BadLabel h = elim (found line) [
    | inl bad ↦ absurd (let no : ◌≡◌ {A = Result LineView LineFault} (Err BadForm) (Err BadLabel) = sym bad ∙ h in cc)
    | inr fits ↦ let j = judged fits.form (Err BadLabel) (sym fits.reads ∙ h) in (fits.form, has_form line fits j.0, j.1, j.2.0, j.2.1, j.2.2)
  ]

  -- and a line that is refused for a fault is read with it

  no_form : (line : List ℕ) (fits : Fits line) → ((form : Form) → HasForm line form → ⊥) → (r : Result LineView LineFault) → read fits.form ≡ r → r ≡ Err BadForm
  no_form line fits none (Ok view) e = absurd (none fits.form (has_form line fits (judged fits.form (Ok view) e).0))
  no_form line fits none (Err BadForm) e = refl
  no_form line fits none (Err UnknownName) e = absurd (none fits.form (has_form line fits (judged fits.form (Err UnknownName) e).0))
  no_form line fits none (Err BadLabel) e = absurd (none fits.form (has_form line fits (judged fits.form (Err BadLabel) e).0))

  unknown : (form : Form) → All IsInForm (parts_in form) → (All (IsKnown names vars) (parts_in form) → ⊥) → (r : Result LineView LineFault) → read form ≡ r → r ≡ Err UnknownName
  unknown form each not_all (Ok view) e = absurd (not_all (judged form (Ok view) e).1)
  unknown form each not_all (Err BadForm) e = absurd (judged form (Err BadForm) e each)
  unknown form each not_all (Err UnknownName) e = refl
  unknown form each not_all (Err BadLabel) e = absurd (not_all (judged form (Err BadLabel) e).1)

  unspelled : (form : Form) → All IsInForm (parts_in form) → All (IsKnown names vars) (parts_in form) → (All (IsSpelled names) (parts_in form) → ⊥) → (r : Result LineView LineFault) → read form ≡ r → r ≡ Err BadLabel
  unspelled form each known not_all (Ok view) e = absurd (not_all (judged form (Ok view) e).2)
  unspelled form each known not_all (Err BadForm) e = absurd (judged form (Err BadForm) e each)
  unspelled form each known not_all (Err UnknownName) e =
      let some = (judged form (Err UnknownName) e).1 in
      absurd (some.2 (All-contains (IsKnown names vars) (parts_in form) some.0 known some.1))
  unspelled form each known not_all (Err BadLabel) e = refl

  pub refused_line : (line : List ℕ) (fault : LineFault) → IsRefused names vars line fault → line_of names vars line ≡ Err fault
  refused_line line BadForm none = elim (found line) [
    | inl bad ↦ bad
    | inr fits ↦ fits.reads ∙ no_form line fits none (read fits.form) refl
  ]
  refused_line line UnknownName (form, has, part, at, not_known) =
      read_as line form has ∙ unknown form has.each (λ all. not_known (All-contains (IsKnown names vars) (parts_in form) part all at)) (read form) refl
  refused_line line BadLabel (form, has, known, part, at, not_spelled) =
      read_as line form has ∙ unspelled form has.each known (λ all. not_spelled (All-contains (IsSpelled names) (parts_in form) part all at)) (read form) refl
