-- Tokens that name a subject, an object or a label by the grammar are just those that are read so.
use Rattle.std.proofs.Common.{◌≡◌, ℕ, Bool, true, false, cond, List, [], ◌∷◌, Option, None, Some, Result, Ok, Err, refl, ap, ◌∙◌, inl, inr, arith}
use Rattle.std.specs.Prelude.{◌==◌}
use Rattle.std.specs.List.{list_all}
use Rattle.std.proofs.lemmas.Bool.{and_parts}
use Rattle.std.proofs.lemmas.Bool.Decides.{nat_tests}
use Rattle.mls_labels.specs.Label.{Label}
use Rattle.mls_labels.specs.Scheme.{Scheme, IsScheme}
use Rattle.mls_labels.specs.Names.{is_name, is_name_byte}
use Rattle.mls_labels.specs.Reading.{place_of, label_at}
use Rattle.mls_labels.specs.LabelText as label
use Rattle.mls_labels.specs.declared.label_fault.LabelFault.{LabelFault}
use Rattle.mls_lines.specs.declared.fault.LineFault.{LineFault}
use Rattle.mls_lines.specs.declared.fault.LineFault.TheVariants.{BadForm}
use Rattle.mls_lines.specs.Labels.{is_label_byte, label_read, label_named}
use Rattle.mls_lines.specs.Names.{Names, bound_to}
use Rattle.mls_lines.specs.Numbers.{number_of}
use Rattle.mls_lines.specs.ScriptLine.{known, numbered, subject_named, subject_of, object_named, variable_of, object_of}
use Rattle.mls_lines.specs.Grammar.{IsNumber, IsNamed, IsVariable, IsSubject, IsObject, IsLabel}
use Rattle.mls_facts.proofs.Decimals.{decimal-text, decimal-limit, decimal-read}

-- a name begins neither with `#`, nor with `$`, nor with `;`
pub record Plain (b : ℕ) : Type 0 where
  pub no_number : (b == 35) ≡ false
  pub no_variable : (b == 36) ≡ false
  pub no_note : (b == 59) ≡ false

plain_byte : (b : ℕ) → is_name_byte b ≡ true → Plain b
plain_byte b h = record { no_number = grind (arith, nat_tests, h); no_variable = grind (arith, nat_tests, h); no_note = grind (arith, nat_tests, h) }

pub plain_name : (b : ℕ) (token : List ℕ) → is_name (b ∷ token) ≡ true → Plain b
plain_name b token h = plain_byte b (and_parts (is_name_byte b) (list_all is_name_byte token) (and_parts _ (list_all is_name_byte (b ∷ token)) h).1).0

-- what is named is read

pub subject_reads : (names : Names) (token : List ℕ) (s : ℕ) → IsSubject names token s → subject_of names token ≡ Ok s
subject_reads names [] s (inl (named, place)) = cc
subject_reads names (b ∷ token) s (inl (named, place)) = let plain = plain_name b token named in rw (plain.no_number, named, place) refl
subject_reads names token s (inr (small, is)) = ap (subject_of names) is ∙ rw (decimal-read 65535 (omega arith) s small) refl

pub object_reads : (names : Names) (vars : List (List ℕ × ℕ)) (token : List ℕ) (o : ℕ) → IsObject names vars token o → object_of names vars token ≡ Ok o
object_reads names vars [] o (inl (named, place)) = cc
object_reads names vars (b ∷ token) o (inl (named, place)) = let plain = plain_name b token named in rw (plain.no_number, plain.no_variable, named, place) refl
object_reads names vars token o (inr (inl (small, is))) = ap (object_of names vars) is ∙ rw (decimal-read 65535 (omega arith) o small) refl
object_reads names vars token o (inr (inr (name, is, named, bound))) = ap (object_of names vars) is ∙ rw (named, bound) refl

-- what is read is named

known_ok : (found : Option ℕ) (n : ℕ) → known found ≡ Ok n → found ≡ Some n
known_ok None n h = cc
known_ok (Some m) n h = cc

numbered_ok : (found : Option ℕ) (n : ℕ) → numbered found ≡ Ok n → found ≡ Some n
numbered_ok None n h = cc
numbered_ok (Some m) n h = cc

-- a test that had to hold
tested : {X : Type 0} (t : Bool) (p : Result X LineFault) (x : X) → cond t p (Err BadForm) ≡ Ok x → (t ≡ true) × (p ≡ Ok x)
tested true p x h = (refl, h)
tested false p x h = cc

named_says : (names : List (List ℕ)) (token : List ℕ) (n : ℕ) → cond (is_name token) (known (place_of names token)) (Err BadForm) ≡ Ok n → IsNamed names token n
named_says names token n h =
    let parts = tested (is_name token) (known (place_of names token)) n h in
    (parts.0, known_ok (place_of names token) n parts.1)

pub is_byte : (b c : ℕ) → (b == c) ≡ true → b ≡ c
is_byte b c h = grind (arith, nat_tests, h)

number_says : (b : ℕ) (token : List ℕ) (n : ℕ) → b ≡ 35 → numbered (number_of token) ≡ Ok n → IsNumber (b ∷ token) n
number_says b token n is h =
    let read : number_of token ≡ Some n = numbered_ok (number_of token) n h in
    (decimal-limit 65535 (omega arith) token n read, rw (is, decimal-text 65535 (omega arith) token n read) refl)

pub subject_says : (names : Names) (token : List ℕ) (s : ℕ) → subject_of names token ≡ Ok s → IsSubject names token s
subject_says names [] s h = cc
subject_says names (b ∷ token) s h = elim (b == 35) as (λ t. (b == 35) ≡ t → cond t (numbered (number_of token)) (subject_named names (b ∷ token)) ≡ Ok s → IsSubject names (b ∷ token) s) [
  | true ↦ λ e is. inr (number_says b token s (is_byte b 35 e) is)
  | false ↦ λ e is. inl (named_says names.subjects (b ∷ token) s is)
] refl h

variable_says : (vars : List (List ℕ × ℕ)) (b : ℕ) (name : List ℕ) (o : ℕ) → b ≡ 36 → variable_of vars name ≡ Ok o → IsVariable vars (b ∷ name) o
variable_says vars b name o is h =
    let parts = tested (is_name name) (known (bound_to name vars)) o h in
    (name, ap (λ first. first ∷ name) is, parts.0, known_ok (bound_to name vars) o parts.1)

pub object_says : (names : Names) (vars : List (List ℕ × ℕ)) (token : List ℕ) (o : ℕ) → object_of names vars token ≡ Ok o → IsObject names vars token o
object_says names vars [] o h = cc
object_says names vars (b ∷ token) o h = elim (b == 35) as (λ t. (b == 35) ≡ t → cond t (numbered (number_of token)) (cond (b == 36) (variable_of vars token) (object_named names (b ∷ token))) ≡ Ok o → IsObject names vars (b ∷ token) o) [
  | true ↦ λ e is. inr (inl (number_says b token o (is_byte b 35 e) is))
  | false ↦ λ _ other. elim (b == 36) as (λ t. (b == 36) ≡ t → cond t (variable_of vars token) (object_named names (b ∷ token)) ≡ Ok o → IsObject names vars (b ∷ token) o) [
    | true ↦ λ e is. inr (inr (variable_says vars b token o (is_byte b 36 e) is))
    | false ↦ λ e is. inl (named_says names.objects (b ∷ token) o is)
  ] refl other
] refl h

-- labels

-- a text is read as a label just where it spells it
abbrev pub LabelLaw : Type 0
LabelLaw = (s : Scheme) (text : List ℕ) (l : Label) → IsScheme s → (label_at s text ≡ Ok l → label.Spells s text l) × (label.Spells s text l → label_at s text ≡ Ok l)

read_ok : (r : Result Label LabelFault) (l : Label) → label_read r ≡ Ok l → r ≡ Ok l
read_ok (Ok m) l h = cc
read_ok (Err f) l h = cc

pub label_says : LabelLaw → (s : Scheme) → IsScheme s → (token : List ℕ) (l : Label) → label_named s token ≡ Ok l → IsLabel s token l
label_says law s is token l h =
    let parts = tested (list_all is_label_byte token) (label_read (label_at s token)) l h in
    (parts.0, (law s token l is).0 (read_ok (label_at s token) l parts.1))

pub label_reads : LabelLaw → (s : Scheme) → IsScheme s → (token : List ℕ) (l : Label) → IsLabel s token l → label_named s token ≡ Ok l
label_reads law s is token l (bytes, spells) = rw (bytes, (law s token l is).1 spells) refl
