-- What is wrong with a part of a line by the grammar is the fault that is read of it, and of all parts the least.
use Rattle.std.proofs.Common.{◌≡◌, ℕ, suc, Bool, true, false, cond, List, [], ◌∷◌, Option, None, Some, Result, Ok, Err, refl, sym, ap, subst, ◌∙◌, inl, inr, arith}
use Rattle.std.specs.Prelude.{◌==◌, All, Contains, IsTrue}
use Rattle.std.specs.List.{list_all}
use Rattle.std.specs.Fmt.{decimal}
use Rattle.std.proofs.lemmas.List.Elements.{All-nil, All-cons, All-head, All-tail}
use Rattle.mls_labels.specs.Label.{Label}
use Rattle.mls_labels.specs.Scheme.{Scheme, IsScheme}
use Rattle.mls_labels.specs.Names.{is_name}
use Rattle.mls_labels.specs.Reading.{place_of, label_at}
use Rattle.mls_labels.specs.LabelText as label
use Rattle.mls_labels.specs.declared.label_fault.LabelFault.{LabelFault}
use Rattle.mls_lines.specs.declared.fault.LineFault.{LineFault}
use Rattle.mls_lines.specs.declared.fault.LineFault.TheVariants.{BadForm, UnknownName, BadLabel}
use Rattle.mls_lines.specs.Fault.{first_fault}
use Rattle.mls_lines.specs.Forms.{Part, Variable, Subject, Object, Security, Integrity}
use Rattle.mls_lines.specs.Labels.{is_label_byte, label_read, label_named}
use Rattle.mls_lines.specs.Names.{Names, bound_to}
use Rattle.mls_lines.specs.Numbers.{number_of}
use Rattle.mls_lines.specs.ScriptLine.{known, numbered, subject_named, subject_of, object_named, variable_of, object_of}
use Rattle.mls_lines.specs.Grammar.{IsNumber, IsSubject, IsObject, IsLabel, IsSubjectForm, IsObjectForm, IsInForm, IsKnown, IsSpelled}
use Rattle.mls_facts.proofs.Decimals.{decimal-text, decimal-limit, decimal-read}
use Rattle.mls_lines.proofs.TokenForms.{plain_name, is_byte, LabelLaw}

-- the fault of what was read
abbrev pub fault_in : {X : Type 0} → Result X LineFault → Option LineFault
fault_in (Ok x) = None
fault_in (Err f) = Some f

-- the first of two faults, where there are any
abbrev pub join : Option LineFault → Option LineFault → Option LineFault
join None b = b
join (Some f) None = Some f
join (Some f) (Some g) = Some (first_fault f g)

-- What a fault says: the form (F), the names (K) and the labels (S) hold up to it, and what it refutes (not K, not S) doesn't.
abbrev pub Judgement : Type 0 → Type 0 → Type 0 → Type 0 → Type 0 → Option LineFault → Type 0
Judgement F K unknown S unspelled None = F × K × S
Judgement F K unknown S unspelled (Some BadForm) = F → ⊥
Judgement F K unknown S unspelled (Some UnknownName) = F × unknown
Judgement F K unknown S unspelled (Some BadLabel) = F × K × unspelled

clash : (t : Bool) → t ≡ true → t ≡ false → ⊥
clash t so not_so = let no : true ≡ false = sym so ∙ not_so in cc

-- what no test finds isn't so
no_number : (b : ℕ) (token : List ℕ) (n : ℕ) → (b == 35) ≡ false → IsNumber (b ∷ token) n → ⊥
no_number b token n other (small, is) = let first : b ≡ 35 = cc in clash (b == 35) (rw first refl) other

unread_number : (token : List ℕ) → number_of token ≡ None → IsSubjectForm (35 ∷ token) → ⊥
unread_number token none (inl named) = clash (35 == 35) refl (plain_name 35 token named).no_number
unread_number token none (inr (n, (small, is))) =
    let text : token ≡ decimal n = cc in
    let read : number_of token ≡ Some n = ap number_of text ∙ decimal-read 65535 (omega arith) n small in
    cc

number_is : (token : List ℕ) (n : ℕ) → number_of token ≡ Some n → IsNumber (35 ∷ token) n
number_is token n read = (decimal-limit 65535 (omega arith) token n read, ap (λ digits. 35 ∷ digits) (decimal-text 65535 (omega arith) token n read))

-- a token that begins with `$` is neither a name nor a number
no_subject : (name : List ℕ) → IsSubjectForm (36 ∷ name) → ⊥
no_subject name (inl named) = clash (36 == 36) refl (plain_name 36 name named).no_variable
no_subject name (inr (n, number)) = no_number 36 name n refl number

module _ (names : Names) (vars : List (List ℕ × ℕ)) where
  -- the fault of one part
  abbrev pub part_fault : Part → Option LineFault
  part_fault (Variable name) = cond (is_name name) None (Some BadForm)
  part_fault (Subject token) = fault_in (subject_of names token)
  part_fault (Object token) = fault_in (object_of names vars token)
  part_fault (Security token) = fault_in (label_named names.security token)
  part_fault (Integrity token) = fault_in (label_named names.integrity token)

  abbrev Judged : Part → Option LineFault → Type 0
  Judged part fault = Judgement (IsInForm part) (IsKnown names vars part) (IsKnown names vars part → ⊥) (IsSpelled names part) (IsSpelled names part → ⊥) fault

  -- subjects

  subject_numbered : (token : List ℕ) (found : Option ℕ) → number_of token ≡ found → Judged (Subject (35 ∷ token)) (fault_in (numbered found))
  subject_numbered token None e = λ form. unread_number token e form
  subject_numbered token (Some n) e = (inr (n, number_is token n e), (n, inr (number_is token n e)), tt)

  subject_placed : (token : List ℕ) → is_name token ≡ true → ((n : ℕ) → IsNumber token n → ⊥) → (found : Option ℕ) → place_of names.subjects token ≡ found → Judged (Subject token) (fault_in (known found))
  subject_placed token named other None e = (inl named, λ one. unplaced one.0 one.1) where
    unplaced : (s : ℕ) → IsSubject names token s → ⊥
    unplaced s (inl (is, place)) = cc
    unplaced s (inr number) = other s number
  subject_placed token named other (Some n) e = (inl named, (n, inl (named, e)), tt)

  subject_plain : (b : ℕ) (token : List ℕ) → (b == 35) ≡ false → Judged (Subject (b ∷ token)) (fault_in (subject_named names (b ∷ token)))
  subject_plain b token other = elim (is_name (b ∷ token)) as (λ t. is_name (b ∷ token) ≡ t → Judged (Subject (b ∷ token)) (fault_in (cond t (known (place_of names.subjects (b ∷ token))) (Err BadForm)))) [
    | true ↦ λ named. subject_placed (b ∷ token) named (λ n. no_number b token n other) (place_of names.subjects (b ∷ token)) refl
    | false ↦ λ unnamed. unformed unnamed
  ] refl where
    unformed : is_name (b ∷ token) ≡ false → IsSubjectForm (b ∷ token) → ⊥
    unformed unnamed (inl named) = clash (is_name (b ∷ token)) named unnamed
    unformed unnamed (inr (n, number)) = no_number b token n other number

  subject_judged : (token : List ℕ) → Judged (Subject token) (part_fault (Subject token))
  subject_judged [] = λ form. empty form where
    empty : IsSubjectForm [] → ⊥
    empty (inl named) = cc
    empty (inr (n, (small, is))) = cc
  subject_judged (b ∷ token) = elim (b == 35) as (λ t. (b == 35) ≡ t → Judged (Subject (b ∷ token)) (fault_in (cond t (numbered (number_of token)) (subject_named names (b ∷ token))))) [
    | true ↦ λ e. subst (λ x. Judged (Subject (x ∷ token)) (fault_in (numbered (number_of token)))) (sym (is_byte b 35 e)) (subject_numbered token (number_of token) refl)
    | false ↦ λ e. subject_plain b token e
  ] refl

  -- objects

  object_numbered : (token : List ℕ) (found : Option ℕ) → number_of token ≡ found → Judged (Object (35 ∷ token)) (fault_in (numbered found))
  object_numbered token None e = λ form. unread form where
    unread : IsObjectForm (35 ∷ token) → ⊥
    unread (inl form) = unread_number token e form
    unread (inr (name, is, named)) = let first : ◌≡◌ {A = ℕ} 35 36 = cc in absurd (omega (arith, first))
  object_numbered token (Some n) e = (inl (inr (n, number_is token n e)), (n, inr (inl (number_is token n e))), tt)

  object_bound : (name : List ℕ) → is_name name ≡ true → (found : Option ℕ) → bound_to name vars ≡ found → Judged (Object (36 ∷ name)) (fault_in (known found))
  object_bound name named None e = (inr (name, refl, named), λ one. unbound one.0 one.1) where
    unbound : (o : ℕ) → IsObject names vars (36 ∷ name) o → ⊥
    unbound o (inl (is, place)) = no_subject name (inl is)
    unbound o (inr (inl number)) = no_subject name (inr (o, number))
    unbound o (inr (inr (other, is, other_named, bound))) =
        let same : name ≡ other = cc in
        let here : bound_to name vars ≡ Some o = ap (λ n. bound_to n vars) same ∙ bound in
        cc
  object_bound name named (Some o) e = (inr (name, refl, named), (o, inr (inr (name, refl, named, e))), tt)

  object_variable : (name : List ℕ) → Judged (Object (36 ∷ name)) (fault_in (variable_of vars name))
  object_variable name = elim (is_name name) as (λ t. is_name name ≡ t → Judged (Object (36 ∷ name)) (fault_in (cond t (known (bound_to name vars)) (Err BadForm)))) [
    | true ↦ λ named. object_bound name named (bound_to name vars) refl
    | false ↦ λ unnamed. unformed unnamed
  ] refl where
    unformed : is_name name ≡ false → IsObjectForm (36 ∷ name) → ⊥
    unformed unnamed (inl form) = no_subject name form
    unformed unnamed (inr (other, is, named)) = let same : name ≡ other = cc in clash (is_name name) (ap is_name same ∙ named) unnamed

  object_placed : (b : ℕ) (token : List ℕ) → (b == 35) ≡ false → (b == 36) ≡ false → is_name (b ∷ token) ≡ true → (found : Option ℕ) → place_of names.objects (b ∷ token) ≡ found
      → Judged (Object (b ∷ token)) (fault_in (known found))
  object_placed b token other plain named None e = (inl (inl named), λ one. unplaced one.0 one.1) where
    unplaced : (o : ℕ) → IsObject names vars (b ∷ token) o → ⊥
    unplaced o (inl (is, place)) = cc
    unplaced o (inr (inl number)) = no_number b token o other number
    unplaced o (inr (inr (name, is, _, _))) = let first : b ≡ 36 = cc in clash (b == 36) (rw first refl) plain
  object_placed b token other plain named (Some n) e = (inl (inl named), (n, inl (named, e)), tt)

  object_plain : (b : ℕ) (token : List ℕ) → (b == 35) ≡ false → (b == 36) ≡ false → Judged (Object (b ∷ token)) (fault_in (object_named names (b ∷ token)))
  object_plain b token other plain = elim (is_name (b ∷ token)) as (λ t. is_name (b ∷ token) ≡ t → Judged (Object (b ∷ token)) (fault_in (cond t (known (place_of names.objects (b ∷ token))) (Err BadForm)))) [
    | true ↦ λ named. object_placed b token other plain named (place_of names.objects (b ∷ token)) refl
    | false ↦ λ unnamed. unformed unnamed
  ] refl where
    unformed : is_name (b ∷ token) ≡ false → IsObjectForm (b ∷ token) → ⊥
    unformed unnamed (inl (inl named)) = clash (is_name (b ∷ token)) named unnamed
    unformed unnamed (inl (inr (n, number))) = no_number b token n other number
    unformed unnamed (inr (name, is, named)) = let first : b ≡ 36 = cc in clash (b == 36) (rw first refl) plain

  object_judged : (token : List ℕ) → Judged (Object token) (part_fault (Object token))
  object_judged [] = λ form. empty form where
    empty : IsObjectForm [] → ⊥
    empty (inl (inl named)) = cc
    empty (inl (inr (n, (small, is)))) = cc
    empty (inr (name, is, named)) = cc
  object_judged (b ∷ token) = elim (b == 35) as (λ t. (b == 35) ≡ t → Judged (Object (b ∷ token)) (fault_in (cond t (numbered (number_of token)) (cond (b == 36) (variable_of vars token) (object_named names (b ∷ token)))))) [
    | true ↦ λ e. subst (λ x. Judged (Object (x ∷ token)) (fault_in (numbered (number_of token)))) (sym (is_byte b 35 e)) (object_numbered token (number_of token) refl)
    | false ↦ λ other. elim (b == 36) as (λ t. (b == 36) ≡ t → Judged (Object (b ∷ token)) (fault_in (cond t (variable_of vars token) (object_named names (b ∷ token))))) [
      | true ↦ λ e. subst (λ x. Judged (Object (x ∷ token)) (fault_in (variable_of vars token))) (sym (is_byte b 36 e)) (object_variable token)
      | false ↦ λ e. object_plain b token other e
    ] refl
  ] refl

  -- labels

  abbrev LabelJudged : Scheme → List ℕ → Option LineFault → Type 0
  LabelJudged s token fault =
      Judgement (IsTrue (list_all is_label_byte token)) (Unit {0}) (Unit {0} → ⊥) ((l : Label) × IsLabel s token l) ((l : Label) × IsLabel s token l → ⊥) fault

  label_found : LabelLaw → (s : Scheme) → IsScheme s → (token : List ℕ) → list_all is_label_byte token ≡ true → (found : Result Label LabelFault) → label_at s token ≡ found
      → LabelJudged s token (fault_in (label_read found))
  label_found law s is token bytes (Ok l) e = (bytes, tt, (l, (bytes, (law s token l is).0 e)))
  label_found law s is token bytes (Err f) e = (bytes, tt, λ one. unspelled one.0 one.1.1) where
    unspelled : (l : Label) → label.Spells s token l → ⊥
    unspelled l spells = let read : label_at s token ≡ Ok l = (law s token l is).1 spells in cc

  label_judged : LabelLaw → (s : Scheme) → IsScheme s → (token : List ℕ) → LabelJudged s token (fault_in (label_named s token))
  label_judged law s is token = elim (list_all is_label_byte token) as (λ t. list_all is_label_byte token ≡ t → LabelJudged s token (fault_in (cond t (label_read (label_at s token)) (Err BadForm)))) [
    | true ↦ λ bytes. label_found law s is token bytes (label_at s token) refl
    | false ↦ λ other. λ bytes. clash (list_all is_label_byte token) bytes other
  ] refl

  -- the name of a variable that is bound
  variable_judged : (name : List ℕ) → Judged (Variable name) (part_fault (Variable name))
  variable_judged name = elim (is_name name) as (λ t. is_name name ≡ t → Judged (Variable name) (cond t None (Some BadForm))) [
    | true ↦ λ named. (named, tt, tt)
    | false ↦ λ unnamed. λ named. clash (is_name name) named unnamed
  ] refl

  -- the fault of parts
  abbrev pub parts_fault : List Part → Option LineFault
  parts_fault [] = None
  parts_fault (part ∷ parts) = join (part_fault part) (parts_fault parts)

  -- one of these isn't so
  abbrev pub SomeNot : (Part → Type 0) → List Part → Type 0
  SomeNot P parts = (part : Part) × Contains parts part × (P part → ⊥)

  abbrev pub PartsJudged : List Part → Option LineFault → Type 0
  PartsJudged parts fault =
      Judgement (All IsInForm parts) (All (IsKnown names vars) parts) (SomeNot (IsKnown names vars) parts) (All (IsSpelled names) parts) (SomeNot (IsSpelled names) parts) fault

  first_not : (P : Part → Type 0) (part : Part) (parts : List Part) → (P part → ⊥) → SomeNot P (part ∷ parts)
  first_not P part parts refuted = (part, (0, omega arith, refl), refuted)

  later_not : (P : Part → Type 0) (part : Part) (parts : List Part) → SomeNot P parts → SomeNot P (part ∷ parts)
  later_not P part parts (other, (k, below, is), refuted) = (other, (suc k, omega arith, is), refuted)

  joined : (part : Part) (parts : List Part) (a b : Option LineFault) → Judged part a → PartsJudged parts b → PartsJudged (part ∷ parts) (join a b)
  joined part parts None None h t = (All-cons IsInForm part parts h.0 t.0, All-cons (IsKnown names vars) part parts h.1 t.1, All-cons (IsSpelled names) part parts h.2 t.2)
  joined part parts None (Some BadForm) h t = λ form. t (All-tail IsInForm part parts form)
  joined part parts None (Some UnknownName) h t = (All-cons IsInForm part parts h.0 t.0, later_not (IsKnown names vars) part parts t.1)
  joined part parts None (Some BadLabel) h t = (All-cons IsInForm part parts h.0 t.0, All-cons (IsKnown names vars) part parts h.1 t.1, later_not (IsSpelled names) part parts t.2)
  joined part parts (Some BadForm) None h t = λ form. h (All-head IsInForm part parts form)
  joined part parts (Some BadForm) (Some f) h t = λ form. h (All-head IsInForm part parts form)
  joined part parts (Some UnknownName) None h t = (All-cons IsInForm part parts h.0 t.0, first_not (IsKnown names vars) part parts h.1)
  joined part parts (Some UnknownName) (Some BadForm) h t = λ form. t (All-tail IsInForm part parts form)
  joined part parts (Some UnknownName) (Some UnknownName) h t = (All-cons IsInForm part parts h.0 t.0, first_not (IsKnown names vars) part parts h.1)
  joined part parts (Some UnknownName) (Some BadLabel) h t = (All-cons IsInForm part parts h.0 t.0, first_not (IsKnown names vars) part parts h.1)
  joined part parts (Some BadLabel) None h t = (All-cons IsInForm part parts h.0 t.0, All-cons (IsKnown names vars) part parts h.1 t.1, first_not (IsSpelled names) part parts h.2)
  joined part parts (Some BadLabel) (Some BadForm) h t = λ form. t (All-tail IsInForm part parts form)
  joined part parts (Some BadLabel) (Some UnknownName) h t = (All-cons IsInForm part parts h.0 t.0, later_not (IsKnown names vars) part parts t.1)
  joined part parts (Some BadLabel) (Some BadLabel) h t = (All-cons IsInForm part parts h.0 t.0, All-cons (IsKnown names vars) part parts h.1 t.1, first_not (IsSpelled names) part parts h.2)

  module _ (law : LabelLaw) (security : IsScheme names.security) (integrity : IsScheme names.integrity) where
    part_judged : (part : Part) → Judged part (part_fault part)
    part_judged (Variable name) = variable_judged name
    part_judged (Subject token) = subject_judged token
    part_judged (Object token) = object_judged token
    part_judged (Security token) = label_judged law names.security security token
    part_judged (Integrity token) = label_judged law names.integrity integrity token

    -- the fault of parts says what is wrong with them
    pub parts_judged : (parts : List Part) → PartsJudged parts (parts_fault parts)
    parts_judged [] = (All-nil IsInForm, All-nil (IsKnown names vars), All-nil (IsSpelled names))
    parts_judged (part ∷ parts) = joined part parts (part_fault part) (parts_fault parts) (part_judged part) (parts_judged parts)
