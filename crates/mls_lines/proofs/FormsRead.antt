-- How a line of each form is read: as what it means, or with the first fault of its parts.
use Rattle.std.proofs.Common.{◌≡◌, ℕ, true, false, cond, List, [], ◌∷◌, Option, Some, None, Result, Ok, Err, refl, sym, ap, ◌∙◌, inl, inr}
use Rattle.std.specs.Prelude.{All}
use Rattle.std.proofs.lemmas.List.Elements.{All-head}
use Rattle.mls_labels.specs.Label.{Label}
use Rattle.mls_labels.specs.Scheme.{IsScheme}
use Rattle.mls_labels.specs.Names.{is_name}
use Rattle.mls_tables.specs.declared.mode.Mode.{Mode}
use Rattle.mls_tables.specs.declared.mode.Mode.TheVariants.{Execute, Read, Append, Write}
use Rattle.mls_requests.specs.declared.action.Action.{Action}
use Rattle.mls_requests.specs.declared.action.Action.TheVariants as action
use Rattle.mls_requests.specs.declared.action_word.ActionWord.TheVariants as word
use Rattle.mls_requests.specs.ActionWords.{action_word}
use Rattle.mls_requests.specs.ModeWords.{mode_word, read_mode}
use Rattle.mls_requests.specs.declared.ask.Ask.{Ask}
use Rattle.mls_requests.specs.declared.ask.Ask.TheVariants as ask
use Rattle.mls_lines.specs.declared.fault.LineFault.{LineFault}
use Rattle.mls_lines.specs.declared.fault.LineFault.TheVariants.{BadForm}
use Rattle.mls_lines.specs.declared.command.Word.{Word}
use Rattle.mls_lines.specs.declared.command.Word.TheVariants as asks
use Rattle.mls_lines.specs.Fault.{both}
use Rattle.mls_lines.specs.Forms.{Form, Empty, Note, Check, Get, Release, Give, Rescind, Create, Bind, Delete, Level, Relabel, tokens_in, Part, Variable, Subject, Object, Security, Integrity, parts_in}
use Rattle.mls_lines.specs.Grammar.{IsSubject, IsObject, IsLabel, IsSubjectForm, IsInForm, Means}
use Rattle.mls_lines.specs.Labels.{label_named}
use Rattle.mls_lines.specs.LineView.{LineView, Blank, Asks, submits}
use Rattle.mls_lines.specs.Names.{Names}
use Rattle.mls_lines.specs.ScriptLine.{subject_of, object_of, with_mode, made_of, action_of, ask_of, asked, submitted, command_line, binding_line, said_of}
use Rattle.mls_lines.specs.Tokens.{name_of}
use Rattle.mls_lines.specs.Words.{check_word, word_of}
use Rattle.mls_lines.proofs.PartFaults.{fault_in, join, part_fault, parts_fault}
use Rattle.mls_lines.proofs.TokenForms.{plain_name, subject_says, subject_reads, object_says, object_reads, LabelLaw, label_says, label_reads}

-- words

mode_reads : (x : Mode) → read_mode (mode_word x) ≡ Some x
mode_reads Execute = refl
mode_reads Read = refl
mode_reads Append = refl
mode_reads Write = refl

get_reads : (x : Mode) → word_of (action_word (word.Get x)) ≡ Some (asks.Action (word.Get x))
get_reads Execute = refl
get_reads Read = refl
get_reads Append = refl
get_reads Write = refl

-- parts without a fault

both_ok : {X Y : Type 0} (p : Result X LineFault) (q : Result Y LineFault) (x : X) (y : Y) → both p q ≡ Ok (x, y) → (p ≡ Ok x) × (q ≡ Ok y)
both_ok {X} {Y} (Ok a) (Ok b) x y h = let same : ◌≡◌ {A = X × Y} (a, b) (x, y) = cc in (ap (λ (p : X × Y). Ok p.0) same, ap (λ (p : X × Y). Ok p.1) same)
both_ok (Ok a) (Err f) x y h = cc
both_ok (Err f) (Ok b) x y h = cc
both_ok (Err f) (Err g) x y h = cc

made_ok : {X Y : Type 0} (f : X → Y) (p : Result X LineFault) (y : Y) → made_of f p ≡ Ok y → (x : X) × (p ≡ Ok x) × (y ≡ f x)
made_ok f (Ok a) y h = (a, refl, cc)
made_ok f (Err fault) y h = cc

said_ok : {X : Type 0} (bind : Option (List ℕ)) (f : X → Ask) (p : Result X LineFault) (view : LineView) → asked bind (made_of f p) ≡ Ok view → (x : X) × (p ≡ Ok x) × (view ≡ Asks bind (f x))
said_ok bind f (Ok x) view h = (x, refl, cc)
said_ok bind f (Err fault) view h = cc

with_ok : {X : Type 0} (x : Mode) (q : Result X LineFault) (y : Mode × X) → with_mode (Some x) q ≡ Ok y → (y.0 ≡ x) × (q ≡ Ok y.1)
with_ok {X} x (Ok b) y e = let same : ◌≡◌ {A = Mode × X} (x, b) y = cc in (sym (ap (λ (q : Mode × X). q.0) same), ap (λ (q : Mode × X). Ok q.1) same)
with_ok x (Err f) y e = cc

moded_ok : {X : Type 0} (x : Mode) (p : Result X LineFault) (y : Mode × X) → with_mode (read_mode (mode_word x)) p ≡ Ok y → (y.0 ≡ x) × (p ≡ Ok y.1)
moded_ok x p y h = with_ok x p y (sym (ap (λ m. with_mode m p) (mode_reads x)) ∙ h)

-- the faults of parts

join_none : (a : Option LineFault) → a ≡ join a None
join_none None = refl
join_none (Some f) = refl

fault_both : {X Y : Type 0} (p : Result X LineFault) (q : Result Y LineFault) → fault_in (both p q) ≡ join (fault_in p) (fault_in q)
fault_both (Ok a) (Ok b) = refl
fault_both (Ok a) (Err f) = refl
fault_both (Err f) (Ok b) = refl
fault_both (Err f) (Err g) = refl

fault_made : {X Y : Type 0} (f : X → Y) (p : Result X LineFault) → fault_in (made_of f p) ≡ fault_in p
fault_made f (Ok x) = refl
fault_made f (Err fault) = refl

fault_said : {X : Type 0} (bind : Option (List ℕ)) (f : X → Ask) (p : Result X LineFault) → fault_in (asked bind (made_of f p)) ≡ fault_in p
fault_said bind f (Ok x) = refl
fault_said bind f (Err fault) = refl

fault_with : {X : Type 0} (x : Mode) (q : Result X LineFault) → fault_in (with_mode (Some x) q) ≡ fault_in q
fault_with x (Ok b) = refl
fault_with x (Err f) = refl

fault_moded : {X : Type 0} (x : Mode) (p : Result X LineFault) → fault_in (with_mode (read_mode (mode_word x)) p) ≡ fault_in p
fault_moded x p = ap (λ m. fault_in (with_mode m p)) (mode_reads x) ∙ fault_with x p

two_faults : {X Y : Type 0} (p : Result X LineFault) (q : Result Y LineFault) → fault_in (both p q) ≡ join (fault_in p) (join (fault_in q) None)
two_faults p q = fault_both p q ∙ ap (join (fault_in p)) (join_none (fault_in q))

bad_first : (a : Option LineFault) → Some BadForm ≡ join (Some BadForm) a
bad_first None = refl
bad_first (Some f) = refl

module _ (names : Names) (vars : List (List ℕ × ℕ)) where
  -- what a subject, a word and its operands are read as
  abbrev pub spoken : List ℕ → List (List ℕ) → Word → Result LineView LineFault
  spoken subj operands w = asked None (ask_of names vars (subject_of names subj) operands w)

  -- what a line of a form is read as, where its parts have their forms
  abbrev pub read_form : Form → Result LineView LineFault
  read_form Empty = Ok Blank
  read_form (Note note rest) = Ok Blank
  read_form (Check subj x obj) = spoken subj (mode_word x ∷ obj ∷ []) asks.Check
  read_form (Get subj x obj) = spoken subj (obj ∷ []) (asks.Action (word.Get x))
  read_form (Release subj x obj) = spoken subj (mode_word x ∷ obj ∷ []) (asks.Action word.Release)
  read_form (Give subj x to obj) = spoken subj (mode_word x ∷ to ∷ obj ∷ []) (asks.Action word.Give)
  read_form (Rescind subj x of obj) = spoken subj (mode_word x ∷ of ∷ obj ∷ []) (asks.Action word.Rescind)
  read_form (Create subj obj sec int) = spoken subj (obj ∷ sec ∷ int ∷ []) (asks.Action word.Create)
  read_form (Bind name subj obj sec int) = binding_line names vars (name_of name) (Some (subj, obj ∷ sec ∷ int ∷ []))
  read_form (Delete subj obj) = spoken subj (obj ∷ []) (asks.Action word.Delete)
  read_form (Level subj lab) = spoken subj (lab ∷ []) (asks.Action word.Level)
  read_form (Relabel subj obj lab) = spoken subj (obj ∷ lab ∷ []) (asks.Action word.Relabel)

  -- a line that begins with a subject is read from there
  from_subject : (token : List ℕ) (rest : List (List ℕ)) → IsSubjectForm token → said_of names vars (token ∷ rest) ≡ command_line names vars token rest
  from_subject [] rest h = refl
  from_subject (b ∷ token) rest (inl named) = let plain = plain_name b token named in rw (plain.no_note, plain.no_variable) refl
  from_subject (b ∷ token) rest (inr (n, (small, is))) =
      let first : b ≡ 35 = cc in
      rw first refl

  led : (subj : List ℕ) (rest : List (List ℕ)) (parts : List Part) → All IsInForm (Subject subj ∷ parts) → said_of names vars (subj ∷ rest) ≡ command_line names vars subj rest
  led subj rest parts each = from_subject subj rest (All-head IsInForm (Subject subj) parts each)

  pub forms_read : (form : Form) → All IsInForm (parts_in form) → said_of names vars (tokens_in form) ≡ read_form form
  forms_read Empty each = refl
  forms_read (Note note rest) each = refl
  forms_read (Check subj x obj) each = led subj (check_word ∷ mode_word x ∷ obj ∷ []) (Object obj ∷ []) each
  forms_read (Get subj x obj) each = led subj (action_word (word.Get x) ∷ obj ∷ []) (Object obj ∷ []) each ∙ rw (get_reads x) refl
  forms_read (Release subj x obj) each = led subj (action_word word.Release ∷ mode_word x ∷ obj ∷ []) (Object obj ∷ []) each
  forms_read (Give subj x to obj) each = led subj (action_word word.Give ∷ mode_word x ∷ to ∷ obj ∷ []) (Subject to ∷ Object obj ∷ []) each
  forms_read (Rescind subj x of obj) each = led subj (action_word word.Rescind ∷ mode_word x ∷ of ∷ obj ∷ []) (Subject of ∷ Object obj ∷ []) each
  forms_read (Create subj obj sec int) each = led subj (action_word word.Create ∷ obj ∷ sec ∷ int ∷ []) (Object obj ∷ Security sec ∷ Integrity int ∷ []) each
  forms_read (Bind name subj obj sec int) each = refl
  forms_read (Delete subj obj) each = led subj (action_word word.Delete ∷ obj ∷ []) (Object obj ∷ []) each
  forms_read (Level subj lab) each = led subj (action_word word.Level ∷ lab ∷ []) (Security lab ∷ []) each
  forms_read (Relabel subj obj lab) each = led subj (action_word word.Relabel ∷ obj ∷ lab ∷ []) (Object obj ∷ Security lab ∷ []) each

  -- faults

  act_fault : (bind : Option (List ℕ)) (subj : List ℕ) (act : Result Action LineFault) (rest : List Part) → fault_in act ≡ parts_fault names vars rest
      → fault_in (asked bind (submitted (subject_of names subj) act)) ≡ parts_fault names vars (Subject subj ∷ rest)
  act_fault bind subj act rest e =
      fault_said bind (λ p. submits p.0 p.1) (both (subject_of names subj) act) ∙ fault_both (subject_of names subj) act ∙ ap (join (part_fault names vars (Subject subj))) e

  one_fault : {X : Type 0} (f : ℕ → X) (obj : List ℕ) → fault_in (made_of f (object_of names vars obj)) ≡ parts_fault names vars (Object obj ∷ [])
  one_fault f obj = fault_made f (object_of names vars obj) ∙ join_none (fault_in (object_of names vars obj))

  access_fault : (x : Mode) (obj : List ℕ) → fault_in (with_mode (read_mode (mode_word x)) (object_of names vars obj)) ≡ parts_fault names vars (Object obj ∷ [])
  access_fault x obj = fault_moded x (object_of names vars obj) ∙ join_none (fault_in (object_of names vars obj))

  cell_fault : (x : Mode) (to obj : List ℕ) → fault_in (with_mode (read_mode (mode_word x)) (both (subject_of names to) (object_of names vars obj))) ≡ parts_fault names vars (Subject to ∷ Object obj ∷ [])
  cell_fault x to obj = fault_moded x (both (subject_of names to) (object_of names vars obj)) ∙ two_faults (subject_of names to) (object_of names vars obj)

  abbrev made_action : List ℕ → List ℕ → List ℕ → Result Action LineFault
  made_action obj sec int = action_of names vars (obj ∷ sec ∷ int ∷ []) word.Create

  made_fault : (obj sec int : List ℕ) → fault_in (made_action obj sec int) ≡ parts_fault names vars (Object obj ∷ Security sec ∷ Integrity int ∷ [])
  made_fault obj sec int =
      fault_made (λ p. action.Create p.0 p.1.0 p.1.1) (both (object_of names vars obj) (both (label_named names.security sec) (label_named names.integrity int)))
      ∙ fault_both (object_of names vars obj) (both (label_named names.security sec) (label_named names.integrity int))
      ∙ ap (join (part_fault names vars (Object obj))) (two_faults (label_named names.security sec) (label_named names.integrity int))

  bound_fault : (name subj obj sec int : List ℕ) → fault_in (read_form (Bind name subj obj sec int)) ≡ parts_fault names vars (parts_in (Bind name subj obj sec int))
  bound_fault name subj obj sec int = elim (is_name name) as (λ t. fault_in (binding_line names vars (cond t (Some name) None) (Some (subj, obj ∷ sec ∷ int ∷ []))) ≡ join (cond t None (Some BadForm)) (parts_fault names vars (Subject subj ∷ Object obj ∷ Security sec ∷ Integrity int ∷ []))) [
    | true ↦ act_fault (Some name) subj (made_action obj sec int) (Object obj ∷ Security sec ∷ Integrity int ∷ []) (made_fault obj sec int)
    | false ↦ bad_first (parts_fault names vars (Subject subj ∷ Object obj ∷ Security sec ∷ Integrity int ∷ []))
  ]

  -- the fault of a form is the first of its parts' faults
  pub forms_fault : (form : Form) → fault_in (read_form form) ≡ parts_fault names vars (parts_in form)
  forms_fault Empty = refl
  forms_fault (Note note rest) = refl
  forms_fault (Check subj x obj) =
      fault_said None (λ p. ask.Check p.0 p.1.1 p.1.0) (both (subject_of names subj) (with_mode (read_mode (mode_word x)) (object_of names vars obj)))
      ∙ fault_both (subject_of names subj) (with_mode (read_mode (mode_word x)) (object_of names vars obj)) ∙ ap (join (part_fault names vars (Subject subj))) (access_fault x obj)
  forms_fault (Get subj x obj) = act_fault None subj (action_of names vars (obj ∷ []) (word.Get x)) (Object obj ∷ []) (one_fault (λ o. action.Get x o) obj)
  forms_fault (Release subj x obj) =
      act_fault None subj (action_of names vars (mode_word x ∷ obj ∷ []) word.Release) (Object obj ∷ [])
      (fault_made (λ p. action.Release p.0 p.1) (with_mode (read_mode (mode_word x)) (object_of names vars obj)) ∙ access_fault x obj)
  forms_fault (Give subj x to obj) =
      act_fault None subj (action_of names vars (mode_word x ∷ to ∷ obj ∷ []) word.Give) (Subject to ∷ Object obj ∷ [])
      (fault_made (λ p. action.Give p.0 p.1.0 p.1.1) (with_mode (read_mode (mode_word x)) (both (subject_of names to) (object_of names vars obj))) ∙ cell_fault x to obj)
  forms_fault (Rescind subj x of obj) =
      act_fault None subj (action_of names vars (mode_word x ∷ of ∷ obj ∷ []) word.Rescind) (Subject of ∷ Object obj ∷ [])
      (fault_made (λ p. action.Rescind p.0 p.1.0 p.1.1) (with_mode (read_mode (mode_word x)) (both (subject_of names of) (object_of names vars obj))) ∙ cell_fault x of obj)
  forms_fault (Create subj obj sec int) = act_fault None subj (made_action obj sec int) (Object obj ∷ Security sec ∷ Integrity int ∷ []) (made_fault obj sec int)
  forms_fault (Bind name subj obj sec int) = bound_fault name subj obj sec int
  forms_fault (Delete subj obj) = act_fault None subj (action_of names vars (obj ∷ []) word.Delete) (Object obj ∷ []) (one_fault (λ o. action.Delete o) obj)
  forms_fault (Level subj lab) =
      act_fault None subj (action_of names vars (lab ∷ []) word.Level) (Security lab ∷ [])
      (fault_made (λ l. action.SubjectLevel l) (label_named names.security lab) ∙ join_none (fault_in (label_named names.security lab)))
  forms_fault (Relabel subj obj lab) =
      act_fault None subj (action_of names vars (obj ∷ lab ∷ []) word.Relabel) (Object obj ∷ Security lab ∷ [])
      (fault_made (λ p. action.ObjectLevel p.0 p.1) (both (object_of names vars obj) (label_named names.security lab)) ∙ two_faults (object_of names vars obj) (label_named names.security lab))

  module _ (law : LabelLaw) (security : IsScheme names.security) (integrity : IsScheme names.integrity) where
    -- what a line of a form means is read of it
    pub means_read : (form : Form) (view : LineView) → All IsInForm (parts_in form) → Means names vars form view → read_form form ≡ Ok view
    means_read Empty view each is = ap Ok (sym is)
    means_read (Note note rest) view each is = ap Ok (sym is)
    means_read (Check subj x obj) view each (s, o, subject, object, is) =
        rw (mode_reads x, subject_reads names subj s subject, object_reads names vars obj o object) (ap Ok (sym is))
    means_read (Get subj x obj) view each (s, o, subject, object, is) =
        rw (subject_reads names subj s subject, object_reads names vars obj o object) (ap Ok (sym is))
    means_read (Release subj x obj) view each (s, o, subject, object, is) =
        rw (mode_reads x, subject_reads names subj s subject, object_reads names vars obj o object) (ap Ok (sym is))
    means_read (Give subj x to obj) view each (s, t, o, subject, other, object, is) =
        rw (mode_reads x, subject_reads names subj s subject, subject_reads names to t other, object_reads names vars obj o object) (ap Ok (sym is))
    means_read (Rescind subj x of obj) view each (s, t, o, subject, other, object, is) =
        rw (mode_reads x, subject_reads names subj s subject, subject_reads names of t other, object_reads names vars obj o object) (ap Ok (sym is))
    means_read (Create subj obj sec int) view each (s, o, l, i, subject, object, sec_is, int_is, is) =
        rw (subject_reads names subj s subject, object_reads names vars obj o object, label_reads law names.security security sec l sec_is, label_reads law names.integrity integrity int i int_is) (ap Ok (sym is))
    means_read (Bind name subj obj sec int) view each (s, o, l, i, subject, object, sec_is, int_is, is) =
        let named : is_name name ≡ true = All-head IsInForm (Variable name) (Subject subj ∷ Object obj ∷ Security sec ∷ Integrity int ∷ []) each in
        rw (named, subject_reads names subj s subject, object_reads names vars obj o object, label_reads law names.security security sec l sec_is, label_reads law names.integrity integrity int i int_is) (ap Ok (sym is))
    means_read (Delete subj obj) view each (s, o, subject, object, is) =
        rw (subject_reads names subj s subject, object_reads names vars obj o object) (ap Ok (sym is))
    means_read (Level subj lab) view each (s, l, subject, lab_is, is) =
        rw (subject_reads names subj s subject, label_reads law names.security security lab l lab_is) (ap Ok (sym is))
    means_read (Relabel subj obj lab) view each (s, o, l, subject, object, lab_is, is) =
        rw (subject_reads names subj s subject, object_reads names vars obj o object, label_reads law names.security security lab l lab_is) (ap Ok (sym is))

    -- what is read of a line of a form it means

    record ActRead (bind : Option (List ℕ)) (subj : List ℕ) (act : Result Action LineFault) (view : LineView) : Type 0 where
      pub s : ℕ
      pub a : Action
      pub subject : IsSubject names subj s
      pub read : act ≡ Ok a
      pub is : view ≡ Asks bind (submits s a)

    act_ok : (bind : Option (List ℕ)) (subj : List ℕ) (act : Result Action LineFault) (view : LineView) → asked bind (submitted (subject_of names subj) act) ≡ Ok view → ActRead bind subj act view
    act_ok bind subj act view h =
        let made = said_ok bind (λ p. submits p.0 p.1) (both (subject_of names subj) act) view h in
        let parts = both_ok (subject_of names subj) act made.0.0 made.0.1 made.1 in
        record { s = made.0.0; a = made.0.1; subject = subject_says names subj made.0.0 parts.0; read = parts.1; is = made.2 }

    one_says : (subj obj : List ℕ) (f : ℕ → Action) (view : LineView) → asked None (submitted (subject_of names subj) (made_of f (object_of names vars obj))) ≡ Ok view
        → (s o : ℕ) × IsSubject names subj s × IsObject names vars obj o × (view ≡ Asks None (submits s (f o)))
    one_says subj obj f view h =
        let act = act_ok None subj (made_of f (object_of names vars obj)) view h in
        let made = made_ok f (object_of names vars obj) act.a act.read in
        (act.s, made.0, act.subject, object_says names vars obj made.0 made.1, act.is ∙ ap (λ a. Asks None (submits act.s a)) made.2)

    release_says : (subj : List ℕ) (x : Mode) (obj : List ℕ) (view : LineView) → read_form (Release subj x obj) ≡ Ok view → Means names vars (Release subj x obj) view
    release_says subj x obj view h =
        let act = act_ok None subj (action_of names vars (mode_word x ∷ obj ∷ []) word.Release) view h in
        let made = made_ok (λ p. action.Release p.0 p.1) (with_mode (read_mode (mode_word x)) (object_of names vars obj)) act.a act.read in
        let moded = moded_ok x (object_of names vars obj) made.0 made.1 in
        (act.s, made.0.1, act.subject, object_says names vars obj made.0.1 moded.1, act.is ∙ ap (λ a. Asks None (submits act.s a)) (made.2 ∙ ap (λ m. action.Release m made.0.1) moded.0))

    check_says : (subj : List ℕ) (x : Mode) (obj : List ℕ) (view : LineView) → read_form (Check subj x obj) ≡ Ok view → Means names vars (Check subj x obj) view
    check_says subj x obj view h =
        let made = said_ok None (λ p. ask.Check p.0 p.1.1 p.1.0) (both (subject_of names subj) (with_mode (read_mode (mode_word x)) (object_of names vars obj))) view h in
        let outer = both_ok (subject_of names subj) (with_mode (read_mode (mode_word x)) (object_of names vars obj)) made.0.0 made.0.1 made.1 in
        let moded = moded_ok x (object_of names vars obj) made.0.1 outer.1 in
        (made.0.0, made.0.1.1, subject_says names subj made.0.0 outer.0, object_says names vars obj made.0.1.1 moded.1, made.2 ∙ ap (λ m. Asks None (ask.Check made.0.0 made.0.1.1 m)) moded.0)

    cell_says : (subj : List ℕ) (x : Mode) (to obj : List ℕ) (f : Mode → ℕ → ℕ → Action) (view : LineView)
        → asked None (submitted (subject_of names subj) (made_of (λ p. f p.0 p.1.0 p.1.1) (with_mode (read_mode (mode_word x)) (both (subject_of names to) (object_of names vars obj))))) ≡ Ok view
        → (s t o : ℕ) × IsSubject names subj s × IsSubject names to t × IsObject names vars obj o × (view ≡ Asks None (submits s (f x t o)))
    cell_says subj x to obj f view h =
        let act = act_ok None subj (made_of (λ p. f p.0 p.1.0 p.1.1) (with_mode (read_mode (mode_word x)) (both (subject_of names to) (object_of names vars obj)))) view h in
        let made = made_ok (λ p. f p.0 p.1.0 p.1.1) (with_mode (read_mode (mode_word x)) (both (subject_of names to) (object_of names vars obj))) act.a act.read in
        let moded = moded_ok x (both (subject_of names to) (object_of names vars obj)) made.0 made.1 in
        let cell = both_ok (subject_of names to) (object_of names vars obj) made.0.1.0 made.0.1.1 moded.1 in (
          act.s,
          made.0.1.0,
          made.0.1.1,
          act.subject,
          subject_says names to made.0.1.0 cell.0,
          object_says names vars obj made.0.1.1 cell.1,
          act.is ∙ ap (λ a. Asks None (submits act.s a)) (made.2 ∙ ap (λ m. f m made.0.1.0 made.0.1.1) moded.0),
        )

    made_says : (bind : Option (List ℕ)) (subj obj sec int : List ℕ) (view : LineView) → asked bind (submitted (subject_of names subj) (made_action obj sec int)) ≡ Ok view
        → (s o : ℕ) × (l i : Label) × IsSubject names subj s × IsObject names vars obj o × IsLabel names.security sec l × IsLabel names.integrity int i × (view ≡ Asks bind (submits s (action.Create o l i)))
    made_says bind subj obj sec int view h =
        let act = act_ok bind subj (made_action obj sec int) view h in
        let made = made_ok (λ p. action.Create p.0 p.1.0 p.1.1) (both (object_of names vars obj) (both (label_named names.security sec) (label_named names.integrity int))) act.a act.read in
        let parts = both_ok (object_of names vars obj) (both (label_named names.security sec) (label_named names.integrity int)) made.0.0 made.0.1 made.1 in
        let labels = both_ok (label_named names.security sec) (label_named names.integrity int) made.0.1.0 made.0.1.1 parts.1 in (
          act.s,
          made.0.0,
          made.0.1.0,
          made.0.1.1,
          act.subject,
          object_says names vars obj made.0.0 parts.0,
          label_says law names.security security sec made.0.1.0 labels.0,
          label_says law names.integrity integrity int made.0.1.1 labels.1,
          act.is ∙ ap (λ a. Asks bind (submits act.s a)) made.2,
        )

    bound_says : (name subj obj sec int : List ℕ) (view : LineView) → read_form (Bind name subj obj sec int) ≡ Ok view → Means names vars (Bind name subj obj sec int) view
    bound_says name subj obj sec int view h = elim (is_name name) as (λ t. binding_line names vars (cond t (Some name) None) (Some (subj, obj ∷ sec ∷ int ∷ [])) ≡ Ok view → Means names vars (Bind name subj obj sec int) view) [
      | true ↦ λ is. made_says (Some name) subj obj sec int view is
      | false ↦ λ is. cc
    ] h

    level_says : (subj lab : List ℕ) (view : LineView) → read_form (Level subj lab) ≡ Ok view → Means names vars (Level subj lab) view
    level_says subj lab view h =
        let act = act_ok None subj (action_of names vars (lab ∷ []) word.Level) view h in
        let made = made_ok (λ l. action.SubjectLevel l) (label_named names.security lab) act.a act.read in
        (act.s, made.0, act.subject, label_says law names.security security lab made.0 made.1, act.is ∙ ap (λ a. Asks None (submits act.s a)) made.2)

    relabel_says : (subj obj lab : List ℕ) (view : LineView) → read_form (Relabel subj obj lab) ≡ Ok view → Means names vars (Relabel subj obj lab) view
    relabel_says subj obj lab view h =
        let act = act_ok None subj (action_of names vars (obj ∷ lab ∷ []) word.Relabel) view h in
        let made = made_ok (λ p. action.ObjectLevel p.0 p.1) (both (object_of names vars obj) (label_named names.security lab)) act.a act.read in
        let parts = both_ok (object_of names vars obj) (label_named names.security lab) made.0.0 made.0.1 made.1 in
        (act.s, made.0.0, made.0.1, act.subject, object_says names vars obj made.0.0 parts.0, label_says law names.security security lab made.0.1 parts.1, act.is ∙ ap (λ a. Asks None (submits act.s a)) made.2)

    pub means_said : (form : Form) (view : LineView) → read_form form ≡ Ok view → Means names vars form view
    means_said Empty view h = cc
    means_said (Note note rest) view h = cc
    means_said (Check subj x obj) view h = check_says subj x obj view h
    means_said (Get subj x obj) view h = one_says subj obj (λ o. action.Get x o) view h
    means_said (Release subj x obj) view h = release_says subj x obj view h
    means_said (Give subj x to obj) view h = cell_says subj x to obj (λ m t o. action.Give m t o) view h
    means_said (Rescind subj x of obj) view h = cell_says subj x of obj (λ m t o. action.Rescind m t o) view h
    means_said (Create subj obj sec int) view h = made_says None subj obj sec int view h
    means_said (Bind name subj obj sec int) view h = bound_says name subj obj sec int view h
    means_said (Delete subj obj) view h = one_says subj obj (λ o. action.Delete o) view h
    means_said (Level subj lab) view h = level_says subj lab view h
    means_said (Relabel subj obj lab) view h = relabel_says subj obj lab view h
