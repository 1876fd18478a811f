-- What a line of a script says and for which fault it is refused: the grammar in its own shape, apart from how lines
-- are read.
use Rattle.std.specs.Prelude.{◌≡◌, ◌≤◌, ◌⊎◌, ℕ, IsTrue, List, ◌∷◌, length, None, Some, All, Contains}
use Rattle.std.specs.List.{list_all}
use Rattle.std.specs.Fmt.{decimal}
use Rattle.mls_labels.specs.Label.{Label}
use Rattle.mls_labels.specs.Names.{is_name}
use Rattle.mls_labels.specs.Reading.{place_of}
use Rattle.mls_labels.specs.Scheme.{Scheme}
use Rattle.mls_labels.specs.LabelText as label
use Rattle.mls_requests.specs.declared.action.Action.TheVariants as action
use Rattle.mls_requests.specs.declared.ask.Ask.TheVariants as ask
use Rattle.mls_lines.specs.declared.fault.LineFault.{LineFault}
use Rattle.mls_lines.specs.declared.fault.LineFault.TheVariants.{BadForm, UnknownName, BadLabel}
use Rattle.mls_lines.specs.declared.line.TheConstants.{MAX_LINE}
use Rattle.mls_lines.specs.declared.number.TheConstants.{MAX_NUMBER}
use Rattle.mls_lines.specs.Forms.{Form, Empty, Note, Check, Get, Release, Give, Rescind, Create, Bind, Delete, Level}
use Rattle.mls_lines.specs.Forms.{Relabel, tokens_in, Part, Variable, Subject, Object, Security, Integrity, parts_in}
use Rattle.mls_lines.specs.Labels.{is_label_byte}
use Rattle.mls_lines.specs.LineView.{LineView, Blank, Asks, submits}
use Rattle.mls_lines.specs.Names.{Names, bound_to}
use Rattle.mls_lines.specs.Tokens.{Spells}

-- A token is `#` and the decimal text of a number that is at most 65,535. (own)
abbrev pub IsNumber : List ℕ → ℕ → Type 0
IsNumber token n = (n ≤ MAX_NUMBER) × (token ≡ 35 ∷ decimal n)

-- A token is a NAME, and the one with this place among names. (own)
abbrev pub IsNamed : List (List ℕ) → List ℕ → ℕ → Type 0
IsNamed names token n = IsTrue (is_name token) × (place_of names token ≡ Some n)

-- A token is `$` and the NAME of a variable that is bound to this object. (own)
abbrev pub IsVariable : List (List ℕ × ℕ) → List ℕ → ℕ → Type 0
IsVariable vars token o = (name : List ℕ) × (token ≡ 36 ∷ name) × IsTrue (is_name name) × (bound_to name vars ≡ Some o)

-- A token names this subject: by its name, or by its number, known or not. (own)
abbrev pub IsSubject : Names → List ℕ → ℕ → Type 0
IsSubject names token s = IsNamed names.subjects token s ⊎ IsNumber token s

-- A token names this object: by its name, by its number, known or not, or by a variable. (own)
abbrev pub IsObject : Names → List (List ℕ × ℕ) → List ℕ → ℕ → Type 0
IsObject names vars token o = IsNamed names.objects token o ⊎ (IsNumber token o ⊎ IsVariable vars token o)

-- A token of bytes from 33 to 126 spells this label in a scheme. (own)
abbrev pub IsLabel : Scheme → List ℕ → Label → Type 0
IsLabel scheme token l = IsTrue (list_all is_label_byte token) × label.Spells scheme token l

-- A token has the form of a subject: a NAME, or `#` and a number. (own)
abbrev pub IsSubjectForm : List ℕ → Type 0
IsSubjectForm token = IsTrue (is_name token) ⊎ ((n : ℕ) × IsNumber token n)

-- A token has the form of an object: that of a subject, or `$` and a NAME. (own)
abbrev pub IsObjectForm : List ℕ → Type 0
IsObjectForm token = IsSubjectForm token ⊎ ((name : List ℕ) × (token ≡ 36 ∷ name) × IsTrue (is_name name))

-- A part has its form: a NAME, the form of a subject or an object, or bytes from 33 to 126 alone. (own)
abbrev pub IsInForm : Part → Type 0
IsInForm (Variable name) = IsTrue (is_name name)
IsInForm (Subject token) = IsSubjectForm token
IsInForm (Object token) = IsObjectForm token
IsInForm (Security token) = IsTrue (list_all is_label_byte token)
IsInForm (Integrity token) = IsTrue (list_all is_label_byte token)

-- A part that stands for a subject or an object names one. (own)
abbrev pub IsKnown : Names → List (List ℕ × ℕ) → Part → Type 0
IsKnown names vars (Variable name) = Unit {0}
IsKnown names vars (Subject token) = (s : ℕ) × IsSubject names token s
IsKnown names vars (Object token) = (o : ℕ) × IsObject names vars token o
IsKnown names vars (Security token) = Unit {0}
IsKnown names vars (Integrity token) = Unit {0}

-- A part that stands for a label spells one of its scheme. (own)
abbrev pub IsSpelled : Names → Part → Type 0
IsSpelled names (Variable name) = Unit {0}
IsSpelled names (Subject token) = Unit {0}
IsSpelled names (Object token) = Unit {0}
IsSpelled names (Security token) = (l : Label) × IsLabel names.security token l
IsSpelled names (Integrity token) = (l : Label) × IsLabel names.integrity token l

-- A line has a form: it has at most 20,000 bytes and spells the form's tokens, each part of which has its own form.
-- (own)
pub record HasForm (line : List ℕ) (form : Form) : Type 0 where
  pub short : length line ≤ MAX_LINE
  pub spells : Spells line (tokens_in form)
  pub each : All IsInForm (parts_in form)

-- What a line of a form means, by what its parts name. (own)
abbrev pub Means : Names → List (List ℕ × ℕ) → Form → LineView → Type 0
-- a line without a token and a note ask nothing
Means names vars Empty view = view ≡ Blank
Means names vars (Note note rest) view = view ≡ Blank
-- `SUBJ check MODE OBJ`: whether the subject has this access to the object
Means names vars (Check subj x obj) view =
    (s o : ℕ) × IsSubject names subj s × IsObject names vars obj o × (view ≡ Asks None (ask.Check s o x))
-- `SUBJ get-MODE OBJ`: an access in this mode
Means names vars (Get subj x obj) view =
    (s o : ℕ) × IsSubject names subj s × IsObject names vars obj o × (view ≡ Asks None (submits s (action.Get x o)))
-- `SUBJ release MODE OBJ`: the end of an access
Means names vars (Release subj x obj) view =
    (s o : ℕ) × IsSubject names subj s × IsObject names vars obj o × (view ≡ Asks None (submits s (action.Release x o)))
-- `SUBJ give MODE SUBJ OBJ`: a permission for the second subject
Means names vars (Give subj x to obj) view =
    (s t o : ℕ) × IsSubject names subj s × IsSubject names to t × IsObject names vars obj o
    × (view ≡ Asks None (submits s (action.Give x t o)))
-- `SUBJ rescind MODE SUBJ OBJ`: that it be permitted no longer
Means names vars (Rescind subj x of obj) view =
    (s t o : ℕ) × IsSubject names subj s × IsSubject names of t × IsObject names vars obj o
    × (view ≡ Asks None (submits s (action.Rescind x t o)))
-- `SUBJ create OBJ LABEL LABEL`: an object of this security and this integrity label below a parent
Means names vars (Create subj obj sec int) view =
    (s o : ℕ) × (l i : Label) × IsSubject names subj s × IsObject names vars obj o × IsLabel names.security sec l
    × IsLabel names.integrity int i
    × (view ≡ Asks None (submits s (action.Create o l i)))
-- `$NAME = SUBJ create OBJ LABEL LABEL`: the same, and the variable is bound to the object
Means names vars (Bind name subj obj sec int) view =
    (s o : ℕ) × (l i : Label) × IsSubject names subj s × IsObject names vars obj o × IsLabel names.security sec l
    × IsLabel names.integrity int i
    × (view ≡ Asks (Some name) (submits s (action.Create o l i)))
-- `SUBJ delete OBJ`: that an object be deleted
Means names vars (Delete subj obj) view =
    (s o : ℕ) × IsSubject names subj s × IsObject names vars obj o × (view ≡ Asks None (submits s (action.Delete o)))
-- `SUBJ level LABEL`: another current label for the subject
Means names vars (Level subj lab) view =
    (s : ℕ) × (l : Label) × IsSubject names subj s × IsLabel names.security lab l
    × (view ≡ Asks None (submits s (action.SubjectLevel l)))
-- `SUBJ relabel OBJ LABEL`: another security label for an object
Means names vars (Relabel subj obj lab) view =
    (s o : ℕ) × (l : Label) × IsSubject names subj s × IsObject names vars obj o × IsLabel names.security lab l
    × (view ≡ Asks None (submits s (action.ObjectLevel o l)))

-- A line says what it means in a form that it has. (own)
abbrev pub Says : Names → List (List ℕ × ℕ) → List ℕ → LineView → Type 0
Says names vars line view = (form : Form) × HasForm line form × Means names vars form view

-- When each fault comes: its own condition holds, and those of the faults before it don't. (own)
abbrev pub IsRefused : Names → List (List ℕ × ℕ) → List ℕ → LineFault → Type 0
-- the line has none of the forms
IsRefused names vars line BadForm = (form : Form) → HasForm line form → ⊥
-- it has one, and some part that stands for a subject or an object names none
IsRefused names vars line UnknownName =
    (form : Form) × HasForm line form × (part : Part) × Contains (parts_in form) part × (IsKnown names vars part → ⊥)
-- all subjects and objects are known, and some part that stands for a label spells none
IsRefused names vars line BadLabel =
    (form : Form) × HasForm line form × All (IsKnown names vars) (parts_in form)
    × (part : Part) × Contains (parts_in form) part × (IsSpelled names part → ⊥)
