-- Reading the line of a get, a release or a check in one pass.
use Rattle.std.proofs.Common.{◌≡◌, ℕ, suc, ◌<◌, ◌≤◌, true, false, eqb, List, [], ◌∷◌, ◌++◌, length, get_or, take, drop, Bor, Option, Some, None, Result, Ok, Err, MatchOption, IfSome, refl, sym, ap, ◌∙◌, arith, append-nil, take-append-drop, inl, inr}
use Rattle.std.specs.Prelude.{nat_lt, codes}
use Rattle.std.specs.List.{All, list_all}
use Rattle.std.proofs.Math.Seq.{drop-cons}
use Rattle.std.proofs.lemmas.Bool.{and_parts}
use Rattle.std.proofs.lemmas.Bool.Decides.{nat_tests}
use Rattle.std.proofs.lemmas.List.Elements.{All-cons, All-nil}
use Rattle.mls_labels.specs.Names.{is_name, is_name_byte}
use Rattle.mls_labels.specs.Reading.{place_of}
use Rattle.mls_tables.specs.declared.mode.Mode.{Mode}
use Rattle.mls_tables.specs.declared.mode.Mode.TheVariants.{Execute, Read, Append, Write}
use Rattle.mls_requests.specs.ActionWords.{action_word}
use Rattle.mls_requests.specs.ModeWords.{mode_word}
use Rattle.mls_requests.specs.declared.action_word.ActionWord.TheVariants as word
use Rattle.mls_lines.specs.Forms.{Form, Subject, Object, tokens_in, parts_in}
use Rattle.mls_lines.specs.Forms as form
use Rattle.mls_lines.specs.Grammar.{IsInForm}
use Rattle.mls_lines.specs.LineView.{LineView, Asks}
use Rattle.mls_lines.specs.Names.{Names}
use Rattle.mls_lines.specs.ScriptLine.{subject_of, object_of, said_of, line_of}
use Rattle.mls_lines.specs.Tokens.{tokens_of}
use Rattle.mls_lines.specs.Words.{check_word}
use Rattle.mls_lines.specs.declared.fault.LineFault.{LineFault}
use Rattle.mls_lines.proofs.FormsRead.{read_form, forms_read}
use Rattle.mls_lines.proofs.TokenForms.{subject_reads, object_reads}
use Rattle.mls_lines.proofs.TokenLemmas.{word_then}
use Rattle.mls_scripts.specs.Access.{kind_front, ask_for}
use Rattle.mls_scripts.specs.declared.access.Kind.{Kind}
use Rattle.mls_scripts.specs.declared.access.Kind.TheVariants.{Get, Release, Check}

-- what holds of what was found
pub some_of : (N : Type 0) (P : Bor (List ℕ) → Type 0) (found : Option (Bor (List ℕ))) → MatchOption found N P → IfSome found P
some_of N P None m = tt
some_of N P (Some x) m = m

-- a text is what stands before a space, and what follows it
pub space_leads : (text front back rest : List ℕ) (n : ℕ) → n < length text → get_or text n 0 ≡ 32 → front ≡ take n text → back ≡ drop n text → rest ≡ drop 1 back → text ≡ front ++ 32 ∷ rest
space_leads text front back rest n within space is_front is_back is_rest =
    let opened : drop n text ≡ 32 ∷ drop (suc n) text = drop-cons text n 0 within ∙ ap (λ b. b ∷ drop (suc n) text) space in
    let after : rest ≡ drop (suc n) text = is_rest ∙ ap (drop 1) (is_back ∙ opened) in
    sym (take-append-drop n text) ∙ ap (λ f. f ++ drop n text) (sym is_front) ∙ ap (λ b. front ++ b) (opened ∙ ap (λ r. 32 ∷ r) (sym after))

-- names have no space

not_space : (b : ℕ) → is_name_byte b ≡ true → eqb b 32 ≡ false
not_space b h = grind (arith, nat_tests, h)

spaceless : (bytes : List ℕ) → list_all is_name_byte bytes ≡ true → All (λ b. eqb b 32 ≡ false) bytes
spaceless [] h = All-nil (λ b. eqb b 32 ≡ false)
spaceless (b ∷ bytes) h =
    let parts = and_parts (is_name_byte b) (list_all is_name_byte bytes) h in
    All-cons (λ b. eqb b 32 ≡ false) b bytes (not_space b parts.0) (spaceless bytes parts.1)

name_spaceless : (name : List ℕ) → is_name name ≡ true → All (λ b. eqb b 32 ≡ false) name
name_spaceless name h = spaceless name (and_parts _ (list_all is_name_byte name) h).1

name_some : (name : List ℕ) → is_name name ≡ true → 0 < length name
name_some [] h = cc
name_some (b ∷ name) h = omega arith

-- a name is the first token of a line that begins with it
name_then : (name rest : List ℕ) → is_name name ≡ true → tokens_of (name ++ 32 ∷ rest) ≡ name ∷ tokens_of rest
name_then name rest h = word_then name (32 ∷ rest) (name_spaceless name h) (name_some name h) (inr (rest, refl))

-- and the one token of a line that is no more
name_alone : (name : List ℕ) → is_name name ≡ true → tokens_of name ≡ name ∷ []
name_alone name h = ap tokens_of (sym (append-nil name)) ∙ word_then name [] (name_spaceless name h) (name_some name h) (inl refl)

-- the form of a line
form_of : Kind → List ℕ → Mode → List ℕ → Form
form_of Get s x o = form.Get s x o
form_of Release s x o = form.Release s x o
form_of Check s x o = form.Check s x o

-- the tokens after the subject are those of its form
form_tokens : (k : Kind) (x : Mode) (s o : List ℕ) → tokens_of o ≡ o ∷ [] → s ∷ tokens_of (kind_front k ++ (mode_word x ++ 32 ∷ o)) ≡ tokens_in (form_of k s x o)
unfolding form_of
form_tokens Get Execute s o h = ap (λ ts. s ∷ action_word (word.Get Execute) ∷ ts) h
form_tokens Get Read s o h = ap (λ ts. s ∷ action_word (word.Get Read) ∷ ts) h
form_tokens Get Append s o h = ap (λ ts. s ∷ action_word (word.Get Append) ∷ ts) h
form_tokens Get Write s o h = ap (λ ts. s ∷ action_word (word.Get Write) ∷ ts) h
form_tokens Release Execute s o h = ap (λ ts. s ∷ action_word word.Release ∷ mode_word Execute ∷ ts) h
form_tokens Release Read s o h = ap (λ ts. s ∷ action_word word.Release ∷ mode_word Read ∷ ts) h
form_tokens Release Append s o h = ap (λ ts. s ∷ action_word word.Release ∷ mode_word Append ∷ ts) h
form_tokens Release Write s o h = ap (λ ts. s ∷ action_word word.Release ∷ mode_word Write ∷ ts) h
form_tokens Check Execute s o h = ap (λ ts. s ∷ check_word ∷ mode_word Execute ∷ ts) h
form_tokens Check Read s o h = ap (λ ts. s ∷ check_word ∷ mode_word Read ∷ ts) h
form_tokens Check Append s o h = ap (λ ts. s ∷ check_word ∷ mode_word Append ∷ ts) h
form_tokens Check Write s o h = ap (λ ts. s ∷ check_word ∷ mode_word Write ∷ ts) h

-- both names have their form
in_form : (k : Kind) (x : Mode) (s o : List ℕ) → is_name s ≡ true → is_name o ≡ true → All IsInForm (parts_in (form_of k s x o))
unfolding form_of
in_form Get x s o named known = All-cons IsInForm (Subject s) (Object o ∷ []) (inl named) (All-cons IsInForm (Object o) [] (inl (inl known)) (All-nil IsInForm))
in_form Release x s o named known = All-cons IsInForm (Subject s) (Object o ∷ []) (inl named) (All-cons IsInForm (Object o) [] (inl (inl known)) (All-nil IsInForm))
in_form Check x s o named known = All-cons IsInForm (Subject s) (Object o ∷ []) (inl named) (All-cons IsInForm (Object o) [] (inl (inl known)) (All-nil IsInForm))

-- and the form is read as what is asked
form_asks : (names : Names) (vars : List (List ℕ × ℕ)) (k : Kind) (x : Mode) (s o : List ℕ) (i j : ℕ) → subject_of names s ≡ Ok i → object_of names vars o ≡ Ok j
    → read_form names vars (form_of k s x o) ≡ Ok (Asks None (ask_for k i x j))
unfolding form_of
form_asks names vars Get x s o i j subject object = rw (subject, object) refl
form_asks names vars Release Execute s o i j subject object = rw (subject, object) refl
form_asks names vars Release Read s o i j subject object = rw (subject, object) refl
form_asks names vars Release Append s o i j subject object = rw (subject, object) refl
form_asks names vars Release Write s o i j subject object = rw (subject, object) refl
form_asks names vars Check Execute s o i j subject object = rw (subject, object) refl
form_asks names vars Check Read s o i j subject object = rw (subject, object) refl
form_asks names vars Check Append s o i j subject object = rw (subject, object) refl
form_asks names vars Check Write s o i j subject object = rw (subject, object) refl

-- the parts of a line are what it says
pub access_read : (names : Names) (line after_subject after_kind s o : List ℕ) (k : Kind) (x : Mode) (i j : ℕ)
    → length line ≤ 20000 → line ≡ s ++ 32 ∷ after_subject → is_name s ≡ true → after_subject ≡ kind_front k ++ after_kind → after_kind ≡ mode_word x ++ 32 ∷ o → is_name o ≡ true
    → place_of names.subjects s ≡ Some i → place_of names.objects o ≡ Some j → (vars : List (List ℕ × ℕ)) → line_of names vars line ≡ Ok (Asks None (ask_for k i x j))
access_read names line after_subject after_kind s o k x i j short line_is named kind_is mode_is known subject object vars =
    let within : nat_lt 20000 (length line) ≡ false = grind (arith, nat_tests, short) in
    let tokens : tokens_of line ≡ tokens_in (form_of k s x o) =
    ap tokens_of line_is ∙ name_then s after_subject named ∙ ap (λ r. s ∷ tokens_of r) (kind_is ∙ ap (λ r. kind_front k ++ r) mode_is) ∙ form_tokens k x s o (name_alone o known) in
    let by_tokens : line_of names vars line ≡ said_of names vars (tokens_of line) = rw within refl in
    by_tokens ∙ ap (said_of names vars) tokens ∙ forms_read names vars (form_of k s x o) (in_form k x s o named known)
    ∙ form_asks names vars k x s o i j (subject_reads names s i (inl (named, subject))) (object_reads names vars o j (inl (known, object)))
