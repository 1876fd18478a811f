-- The tokens of a line are those of a form, and are read as that form is, or else they are read as of bad form.
use Rattle.std.proofs.Common.{◌≡◌, ℕ, true, false, cond, ◌&&◌, ◌⊎◌, List, [], ◌∷◌, Option, Some, None, Result, Ok, Err, refl, sym, ap, ◌∙◌, inl, inr}
use Rattle.std.specs.Prelude.{◌==◌, codes, option_map}
use Rattle.std.specs.Str.{bytes_eq}
use Rattle.std.proofs.lemmas.Slice.Eq.{bytes_eq-Decides}
use Rattle.mls_tables.specs.declared.mode.Mode.{Mode}
use Rattle.mls_requests.specs.declared.action_word.ActionWord.{ActionWord}
use Rattle.mls_requests.specs.declared.action_word.ActionWord.TheVariants as word
use Rattle.mls_requests.specs.ActionWords.{action_word, read_action}
use Rattle.mls_requests.specs.ModeWords.{mode_word, read_mode}
use Rattle.mls_requests.specs.declared.ask.Ask.{Ask}
use Rattle.mls_lines.specs.declared.fault.LineFault.{LineFault}
use Rattle.mls_lines.specs.declared.fault.LineFault.TheVariants.{BadForm, UnknownName, BadLabel}
use Rattle.mls_lines.specs.declared.command.Word.{Word}
use Rattle.mls_lines.specs.declared.command.Word.TheVariants as asks
use Rattle.mls_lines.specs.Fault.{both}
use Rattle.mls_lines.specs.Forms.{Form, Empty, Note, Check, Get, Release, Give, Rescind, Create, Bind, Delete, Level, Relabel, tokens_in}
use Rattle.mls_lines.specs.LineView.{LineView, Blank}
use Rattle.mls_lines.specs.Names.{Names}
use Rattle.mls_lines.specs.ScriptLine.{subject_of, mode_and_object, cell_operands, made_of, action_of, asked, command_of, command_line, created_by, binding_line, said_of}
use Rattle.mls_lines.specs.Tokens.{name_of, one_of, two_of, three_of}
use Rattle.mls_lines.specs.Words.{check_word, word_of}
use Rattle.mls_lines.proofs.FormsRead.{spoken, read_form}
use Rattle.mls_lines.proofs.TokenForms.{is_byte}

-- what is read of a mode's word and of an action's is what is written so
abbrev pub ModeLaw : Type 0
ModeLaw = (w : List ℕ) (x : Mode) → read_mode w ≡ Some x → w ≡ mode_word x

abbrev pub ActionLaw : Type 0
ActionLaw = (w : List ℕ) (x : ActionWord) → read_action w ≡ Some x → w ≡ action_word x

-- lists of one, two and three tokens

one_or : (tokens : List (List ℕ)) → (one_of tokens ≡ None) ⊎ ((a : List ℕ) × (tokens ≡ a ∷ []))
one_or [] = inl refl
one_or (a ∷ []) = inr (a, refl)
one_or (a ∷ b ∷ more) = inl refl

two_or : (tokens : List (List ℕ)) → (two_of tokens ≡ None) ⊎ ((a b : List ℕ) × (tokens ≡ a ∷ b ∷ []))
two_or [] = inl refl
two_or (a ∷ []) = inl refl
two_or (a ∷ b ∷ []) = inr (a, b, refl)
two_or (a ∷ b ∷ c ∷ more) = inl refl

three_or : (tokens : List (List ℕ)) → (three_of tokens ≡ None) ⊎ ((a b c : List ℕ) × (tokens ≡ a ∷ b ∷ c ∷ []))
three_or [] = inl refl
three_or (a ∷ []) = inl refl
three_or (a ∷ b ∷ []) = inl refl
three_or (a ∷ b ∷ c ∷ []) = inr (a, b, c, refl)
three_or (a ∷ b ∷ c ∷ d ∷ more) = inl refl

-- a part of bad form makes the line one

bad_said : {X Y : Type 0} (bind : Option (List ℕ)) (f : X × Y → Ask) (p : Result X LineFault) (q : Result Y LineFault) → q ≡ Err BadForm → asked bind (made_of f (both p q)) ≡ Err BadForm
bad_said bind f (Ok x) q e = rw e refl
bad_said bind f (Err BadForm) q e = rw e refl
bad_said bind f (Err UnknownName) q e = rw e refl
bad_said bind f (Err BadLabel) q e = rw e refl

mapped : {X Y : Type 0} (f : X → Y) (o : Option X) (y : Y) → option_map f o ≡ Some y → (x : X) × (o ≡ Some x) × (f x ≡ y)
mapped f None y h = cc
mapped f (Some x) y h = (x, refl, cc)

-- the text of a word
word_text : Word → List ℕ
word_text asks.Check = check_word
word_text (asks.Action w) = action_word w

word_says : ActionLaw → (w : List ℕ) (x : Word) → word_of w ≡ Some x → w ≡ word_text x
unfolding word_text
word_says law w x h = elim (bytes_eq w check_word) as (λ t. bytes_eq w check_word ≡ t → cond t (Some asks.Check) (option_map asks.Action (read_action w)) ≡ Some x → w ≡ word_text x) [
  | true ↦ λ here is. let same : asks.Check ≡ x = cc in (bytes_eq-Decides w check_word).0 here ∙ ap word_text same
  | false ↦ λ _ is. let found = mapped asks.Action (read_action w) x is in law w found.0 found.1 ∙ ap word_text found.2
] refl h

-- the subject and the operands of a line that binds
created_says : (rest : List (List ℕ)) (p : List ℕ × List (List ℕ)) → created_by rest ≡ Some p → rest ≡ codes "=" ∷ p.0 ∷ action_word word.Create ∷ p.1
created_says [] p h = cc
created_says (e ∷ []) p h = cc
created_says (e ∷ subj ∷ []) p h = cc
created_says (e ∷ subj ∷ w ∷ operands) p h =
    elim (bytes_eq e (codes "=")) as (λ t. bytes_eq e (codes "=") ≡ t → cond (t && bytes_eq w (action_word word.Create)) (Some (subj, operands)) None ≡ Some p → e ∷ subj ∷ w ∷ operands ≡ codes "=" ∷ p.0 ∷ action_word word.Create ∷ p.1) [
      | true ↦ λ equals more. elim (bytes_eq w (action_word word.Create)) as (λ t. bytes_eq w (action_word word.Create) ≡ t → cond t (Some (subj, operands)) None ≡ Some p → e ∷ subj ∷ w ∷ operands ≡ codes "=" ∷ p.0 ∷ action_word word.Create ∷ p.1) [
        | true ↦ λ create is.
            let same : ◌≡◌ {A = List ℕ × List (List ℕ)} (subj, operands) p = cc in
            rw ((bytes_eq-Decides e (codes "=")).0 equals, (bytes_eq-Decides w (action_word word.Create)).0 create)
            (ap (λ (q : List ℕ × List (List ℕ)). codes "=" ∷ q.0 ∷ action_word word.Create ∷ q.1) same)
        | false ↦ λ _ is. cc
      ] refl more
      | false ↦ λ _ is. cc
    ] refl h

module _ (modes : ModeLaw) (actions : ActionLaw) (names : Names) (vars : List (List ℕ × ℕ)) where
  -- tokens are those of a form, and are read as that form is, or they are read as of bad form
  abbrev pub Found : List (List ℕ) → Result LineView LineFault → Type 0
  Found tokens read = (read ≡ Err BadForm) ⊎ ((form : Form) × (tokens ≡ tokens_in form) × (read ≡ read_form names vars form))

  -- a mode and an object
  access_or : (tokens : List (List ℕ)) → (mode_and_object names vars (two_of tokens) ≡ Err BadForm) ⊎ ((x : Mode) × (obj : List ℕ) × (tokens ≡ mode_word x ∷ obj ∷ []))
  access_or tokens = elim (two_or tokens) [
    | inl none ↦ inl (ap (mode_and_object names vars) none)
    | inr two ↦ read two.0 two.1 (read_mode two.0) refl two.2
  ] where
    read : (m obj : List ℕ) (found : Option Mode) → read_mode m ≡ found → tokens ≡ m ∷ obj ∷ []
        → (mode_and_object names vars (two_of tokens) ≡ Err BadForm) ⊎ ((x : Mode) × (o : List ℕ) × (tokens ≡ mode_word x ∷ o ∷ []))
    read m obj None e is = inl (ap (λ ts. mode_and_object names vars (two_of ts)) is ∙ rw e refl)
    read m obj (Some x) e is = inr (x, obj, is ∙ ap (λ t. t ∷ obj ∷ []) (modes m x e))

  -- a mode, a subject and an object
  cell_or : (tokens : List (List ℕ)) → (cell_operands names vars (three_of tokens) ≡ Err BadForm) ⊎ ((x : Mode) × (subj obj : List ℕ) × (tokens ≡ mode_word x ∷ subj ∷ obj ∷ []))
  cell_or tokens = elim (three_or tokens) [
    | inl none ↦ inl (ap (cell_operands names vars) none)
    | inr three ↦ read three.0 three.1 three.2 (read_mode three.0) refl three.3
  ] where
    read : (m subj obj : List ℕ) (found : Option Mode) → read_mode m ≡ found → tokens ≡ m ∷ subj ∷ obj ∷ []
        → (cell_operands names vars (three_of tokens) ≡ Err BadForm) ⊎ ((x : Mode) × (s o : List ℕ) × (tokens ≡ mode_word x ∷ s ∷ o ∷ []))
    read m subj obj None e is = inl (ap (λ ts. cell_operands names vars (three_of ts)) is ∙ rw e refl)
    read m subj obj (Some x) e is = inr (x, subj, obj, is ∙ ap (λ t. t ∷ subj ∷ obj ∷ []) (modes m x e))

  -- an action's operands: bad, or those of a form
  abbrev ActFound : List ℕ → List (List ℕ) → ActionWord → Type 0
  ActFound subj operands w =
      (action_of names vars operands w ≡ Err BadForm)
      ⊎ ((form : Form) × (subj ∷ action_word w ∷ operands ≡ tokens_in form) × (spoken names vars subj operands (asks.Action w) ≡ read_form names vars form))

  act_found : (subj : List ℕ) (operands : List (List ℕ)) (w : ActionWord) → ActFound subj operands w
  act_found subj operands (word.Get x) = elim (one_or operands) [
    | inl none ↦ inl (rw none refl)
    | inr one ↦ inr (Get subj x one.0, ap (λ ts. subj ∷ action_word (word.Get x) ∷ ts) one.1, ap (λ ts. spoken names vars subj ts (asks.Action (word.Get x))) one.1)
  ]
  act_found subj operands word.Release = elim (access_or operands) [
    | inl bad ↦ inl (ap (made_of _) bad)
    | inr two ↦ inr (Release subj two.0 two.1, ap (λ ts. subj ∷ action_word word.Release ∷ ts) two.2, ap (λ ts. spoken names vars subj ts (asks.Action word.Release)) two.2)
  ]
  act_found subj operands word.Give = elim (cell_or operands) [
    | inl bad ↦ inl (ap (made_of _) bad)
    | inr three ↦ inr (Give subj three.0 three.1 three.2, ap (λ ts. subj ∷ action_word word.Give ∷ ts) three.3, ap (λ ts. spoken names vars subj ts (asks.Action word.Give)) three.3)
  ]
  act_found subj operands word.Rescind = elim (cell_or operands) [
    | inl bad ↦ inl (ap (made_of _) bad)
    | inr three ↦ inr (Rescind subj three.0 three.1 three.2, ap (λ ts. subj ∷ action_word word.Rescind ∷ ts) three.3, ap (λ ts. spoken names vars subj ts (asks.Action word.Rescind)) three.3)
  ]
  act_found subj operands word.Create = elim (three_or operands) [
    | inl none ↦ inl (rw none refl)
    | inr three ↦ inr (Create subj three.0 three.1 three.2, ap (λ ts. subj ∷ action_word word.Create ∷ ts) three.3, ap (λ ts. spoken names vars subj ts (asks.Action word.Create)) three.3)
  ]
  act_found subj operands word.Delete = elim (one_or operands) [
    | inl none ↦ inl (rw none refl)
    | inr one ↦ inr (Delete subj one.0, ap (λ ts. subj ∷ action_word word.Delete ∷ ts) one.1, ap (λ ts. spoken names vars subj ts (asks.Action word.Delete)) one.1)
  ]
  act_found subj operands word.Level = elim (one_or operands) [
    | inl none ↦ inl (rw none refl)
    | inr one ↦ inr (Level subj one.0, ap (λ ts. subj ∷ action_word word.Level ∷ ts) one.1, ap (λ ts. spoken names vars subj ts (asks.Action word.Level)) one.1)
  ]
  act_found subj operands word.Relabel = elim (two_or operands) [
    | inl none ↦ inl (rw none refl)
    | inr two ↦ inr (Relabel subj two.0 two.1, ap (λ ts. subj ∷ action_word word.Relabel ∷ ts) two.2, ap (λ ts. spoken names vars subj ts (asks.Action word.Relabel)) two.2)
  ]

  word_found : (subj : List ℕ) (operands : List (List ℕ)) (x : Word) → Found (subj ∷ word_text x ∷ operands) (spoken names vars subj operands x)
  unfolding word_text
  word_found subj operands asks.Check = elim (access_or operands) [
    | inl bad ↦ inl (bad_said None _ (subject_of names subj) (mode_and_object names vars (two_of operands)) bad)
    | inr two ↦ inr (Check subj two.0 two.1, ap (λ ts. subj ∷ check_word ∷ ts) two.2, ap (λ ts. spoken names vars subj ts asks.Check) two.2)
  ]
  word_found subj operands (asks.Action w) = elim (act_found subj operands w) [
    | inl bad ↦ inl (bad_said None _ (subject_of names subj) (action_of names vars operands w) bad)
    | inr found ↦ inr found
  ]

  command_found : (subj w : List ℕ) (operands : List (List ℕ)) (found : Option Word) → word_of w ≡ found → Found (subj ∷ w ∷ operands) (command_of names vars subj operands found)
  command_found subj w operands None e = inl refl
  command_found subj w operands (Some x) e = elim (word_found subj operands x) [
    | inl bad ↦ inl bad
    | inr found ↦ inr (found.0, ap (λ t. subj ∷ t ∷ operands) (word_says actions w x e) ∙ found.1, found.2)
  ]

  subject_found : (subj : List ℕ) (rest : List (List ℕ)) → Found (subj ∷ rest) (command_line names vars subj rest)
  subject_found subj [] = inl refl
  subject_found subj (w ∷ operands) = command_found subj w operands (word_of w) refl

  -- a line that binds
  binding_found : (token : List ℕ) (rest : List (List ℕ)) (name : Option (List ℕ)) (parts : Option (List ℕ × List (List ℕ))) → name_of token ≡ name → created_by rest ≡ parts
      → Found ((36 ∷ token) ∷ rest) (binding_line names vars name parts)
  binding_found token rest None parts n e = inl refl
  binding_found token rest (Some name) None n e = inl refl
  binding_found token rest (Some name) (Some p) n e = elim (three_or p.1) [
    | inl none ↦ inl (bad_said (Some name) _ (subject_of names p.0) (action_of names vars p.1 word.Create) (rw none refl))
    | inr three ↦ inr (
      Bind token p.0 three.0 three.1 three.2,
      ap (λ ts. (36 ∷ token) ∷ ts) (created_says rest p e ∙ ap (λ ts. codes "=" ∷ p.0 ∷ action_word word.Create ∷ ts) three.3),
      ap (λ ts. binding_line names vars (Some name) (Some (p.0, ts))) three.3
          ∙ ap (λ found. binding_line names vars found (Some (p.0, three.0 ∷ three.1 ∷ three.2 ∷ []))) (sym n),
    )
  ]

  -- the tokens of a line
  pub tokens_found : (tokens : List (List ℕ)) → Found tokens (said_of names vars tokens)
  tokens_found [] = inr (Empty, refl, refl)
  tokens_found ([] ∷ rest) = subject_found [] rest
  tokens_found ((b ∷ token) ∷ rest) = elim (b == 59) as (λ t. (b == 59) ≡ t → Found ((b ∷ token) ∷ rest) (cond t (Ok Blank) (cond (b == 36) (binding_line names vars (name_of token) (created_by rest)) (command_line names vars (b ∷ token) rest)))) [
    | true ↦ λ e. inr (Note token rest, ap (λ first. (first ∷ token) ∷ rest) (is_byte b 59 e), refl)
    | false ↦ λ _. elim (b == 36) as (λ t. (b == 36) ≡ t → Found ((b ∷ token) ∷ rest) (cond t (binding_line names vars (name_of token) (created_by rest)) (command_line names vars (b ∷ token) rest))) [
      | true ↦ λ e. rw (is_byte b 36 e) (binding_found token rest (name_of token) (created_by rest) refl refl)
      | false ↦ λ _. subject_found (b ∷ token) rest
    ] refl
  ] refl
