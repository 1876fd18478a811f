-- What serving a script is made of, and going over lines that ask nothing.
use Rattle.std.proofs.Common.{◌≡◌, ℕ, List, [], ◌∷◌, ◌++◌, Option, Some, None, Result, Ok, Err, refl, sym, ap, ◌∙◌, append_assoc, subst}
use Rattle.mls_requests.specs.declared.ask.Ask.{Ask}
use Rattle.mls_requests.specs.declared.ask.Ask.TheVariants.{Submit, Check}
use Rattle.mls_lines.specs.declared.fault.LineFault.{LineFault}
use Rattle.mls_lines.specs.Names.{Names}
use Rattle.mls_lines.specs.LineView.{LineView, Blank, Asks}
use Rattle.mls_lines.specs.ScriptLine.{line_of}
use Rattle.mls_scripts.specs.declared.answer.Answer.TheVariants.{Fault}
use Rattle.mls_scripts.specs.Script.{Standing, answer_bytes, said_to, left_by, answer_to, after_line, answers, after_lines}
use Rattle.mls_scripts.specs.Halves.{Asking, ask_in, aside, Halt, halt_by, next_of, heard_by, vars_told, told_by, after_ask, ByHalves}

none_is_not : {X P : Type 0} (x : X) → None ≡ Some x → P
none_is_not x e = cc

module _ (names : Names) (session : ℕ) where
  -- what serving one line comes to, by what it says
  abbrev Served : Standing → Result LineView LineFault → List (List ℕ) → Halt → Type 0
  Served s said lines h =
      (h.asks ≡ None → (answer_bytes (said_to s said) ++ answers names session (left_by session s said) lines ≡ h.text) × (after_lines names session (left_by session s said) lines ≡ s))
      × ((q : Asking) → h.asks ≡ Some q →
      (answer_bytes (said_to s said) ++ answers names session (left_by session s said) lines
      ≡ h.text ++ answer_bytes (heard_by q.1 (told_by session s q.1)) ++ answers names session (after_ask session s q) h.rest)
      × (after_lines names session (left_by session s said) lines ≡ after_lines names session (after_ask session s q) h.rest))

  -- the same of lines
  pub record Halts (s : Standing) (lines : List (List ℕ)) (h : Halt) : Type 0 where
    pub ends : h.asks ≡ None → (answers names session s lines ≡ h.text) × (after_lines names session s lines ≡ s)
    pub asks : (q : Asking) → h.asks ≡ Some q →
        (answers names session s lines ≡ h.text ++ answer_bytes (heard_by q.1 (told_by session s q.1)) ++ answers names session (after_ask session s q) h.rest)
        × (after_lines names session s lines ≡ after_lines names session (after_ask session s q) h.rest)

  -- a line that asks nothing, before others
  passed : (s : Standing) (text : List ℕ) (lines : List (List ℕ)) (later : Halt) → Halts s lines later → (answered : List ℕ) (stood : Standing) → answered ≡ text ++ answers names session s lines
      → stood ≡ after_lines names session s lines
      → (later.asks ≡ None → (answered ≡ text ++ later.text) × (stood ≡ s))
      × ((q : Asking) → later.asks ≡ Some q → (answered ≡ (text ++ later.text) ++ answer_bytes (heard_by q.1 (told_by session s q.1)) ++ answers names session (after_ask session s q) later.rest)
      × (stood ≡ after_lines names session (after_ask session s q) later.rest))
  passed s text lines later h answered stood is_text is_stood = (
    λ none. (is_text ∙ ap (λ t. text ++ t) (h.ends none).0, is_stood ∙ (h.ends none).1),
    λ q some. (
      is_text ∙ ap (λ t. text ++ t) (h.asks q some).0
          ∙ sym (append_assoc text (later.text ++ answer_bytes (heard_by q.1 (told_by session s q.1))) (answers names session (after_ask session s q) later.rest))
          ∙ ap (λ t. t ++ answers names session (after_ask session s q) later.rest) (sym (append_assoc text later.text (answer_bytes (heard_by q.1 (told_by session s q.1))))),
      is_stood ∙ (h.asks q some).1,
    ),
  )

  said_serves : (s : Standing) (lines : List (List ℕ)) (said : Result LineView LineFault) (later : Halt) → Halts s lines later
      → Served s said lines (halt_by (ask_in said) (aside said) lines later)
  said_serves s lines (Err fault) later h = passed s (aside (Err fault)) lines later h _ _ refl refl
  said_serves s lines (Ok Blank) later h = passed s [] lines later h _ _ refl refl
  said_serves s lines (Ok (Asks bind (Submit r))) later h = (
    λ none. none_is_not _ (sym none),
    λ q some. let e : (bind, Submit r) ≡ q = cc in subst (λ p. (answer_bytes (said_to s (Ok (Asks bind (Submit r)))) ++ answers names session (left_by session s (Ok (Asks bind (Submit r)))) lines
        ≡ [] ++ answer_bytes (heard_by p.1 (told_by session s p.1)) ++ answers names session (after_ask session s p) lines)
        × (after_lines names session (left_by session s (Ok (Asks bind (Submit r)))) lines ≡ after_lines names session (after_ask session s p) lines)) e (refl, refl),
  )
  said_serves s lines (Ok (Asks bind (Check t o x))) later h = (
    λ none. none_is_not _ (sym none),
    λ q some. let e : (bind, Check t o x) ≡ q = cc in subst (λ p. (answer_bytes (said_to s (Ok (Asks bind (Check t o x)))) ++ answers names session (left_by session s (Ok (Asks bind (Check t o x)))) lines
        ≡ [] ++ answer_bytes (heard_by p.1 (told_by session s p.1)) ++ answers names session (after_ask session s p) lines)
        × (after_lines names session (left_by session s (Ok (Asks bind (Check t o x)))) lines ≡ after_lines names session (after_ask session s p) lines)) e (refl, refl),
  )

  pub halts : (s : Standing) (lines : List (List ℕ)) → Halts s lines (next_of names s.vars lines)
  unfolding next_of answers after_lines answer_to after_line
  halts s [] = record { ends = λ none. (refl, refl); asks = λ q some. none_is_not q some }
  halts s (line ∷ lines) =
      let served = said_serves s lines (line_of names s.vars line) (next_of names s.vars lines) (halts s lines) in
      record { ends = served.0; asks = served.1 }

  -- the variables that an ask leaves
  pub after_vars : (s : Standing) (q : Asking) → (after_ask session s q).vars ≡ vars_told s.vars q.0 (heard_by q.1 (told_by session s q.1))
  after_vars s (bind, Submit r) = refl
  after_vars s (bind, Check t o x) = refl

  pub by_halves : (s : Standing) (lines : List (List ℕ)) (q : Asking) → (next_of names s.vars lines).asks ≡ Some q → ByHalves names session s lines (next_of names s.vars lines) q
  by_halves s lines q some = record { text = ((halts s lines).asks q some).0; stands = ((halts s lines).asks q some).1; vars = after_vars s q }

  pub at_end : (s : Standing) (lines : List (List ℕ)) → (next_of names s.vars lines).asks ≡ None → (answers names session s lines ≡ (next_of names s.vars lines).text) × (after_lines names session s lines ≡ s)
  at_end s lines none = (halts s lines).ends none

-- lines that ask nothing were gone over: what was to come is what came and what is to come
pub record GoneOver (whole later : Halt) (before now : List ℕ) : Type 0 where
  pub text : now ++ later.text ≡ before ++ whole.text
  pub asks : whole.asks ≡ later.asks
  pub rest : whole.rest ≡ later.rest

module _ (names : Names) (vars : List (List ℕ × ℕ)) where
  next_line : (lines more : List (List ℕ)) (line : List ℕ) → lines ≡ line ∷ more
      → next_of names vars lines ≡ halt_by (ask_in (line_of names vars line)) (aside (line_of names vars line)) more (next_of names vars more)
  unfolding next_of
  next_line lines more line cut = ap (next_of names vars) cut

  -- one that is a fault
  pub at_fault : (whole : Halt) (lines more : List (List ℕ)) (line : List ℕ) (fault : LineFault) → whole ≡ next_of names vars lines → lines ≡ line ∷ more → Err fault ≡ line_of names vars line
      → whole ≡ halt_by None (answer_bytes (Fault fault)) more (next_of names vars more)
  at_fault whole lines more line fault so cut is =
      so ∙ next_line lines more line cut ∙ ap (λ said. halt_by (ask_in said) (aside said) more (next_of names vars more)) (sym is)

  -- none
  pub at_none : (whole : Halt) (lines : List (List ℕ)) → whole ≡ next_of names vars lines → lines ≡ [] → whole ≡ record { text = []; asks = None; rest = lines }
  unfolding next_of
  at_none whole lines so none =
      let ends : List (List ℕ) → Halt = λ ls. record { text = []; asks = None; rest = ls } in
      so ∙ ap (next_of names vars) none ∙ ap ends (sym none)

  -- one that is blank
  pub past_blank : (whole : Halt) (lines more : List (List ℕ)) (line : List ℕ) → whole ≡ next_of names vars lines → lines ≡ line ∷ more → Ok Blank ≡ line_of names vars line → whole ≡ next_of names vars more
  past_blank whole lines more line so cut blank =
      so ∙ next_line lines more line cut ∙ ap (λ said. halt_by (ask_in said) (aside said) more (next_of names vars more)) (sym blank)

  -- and one that asks
  pub at_ask : (whole : Halt) (lines more : List (List ℕ)) (line : List ℕ) (bind : Option (List ℕ)) (a : Ask) → whole ≡ next_of names vars lines → lines ≡ line ∷ more → Ok (Asks bind a) ≡ line_of names vars line
      → whole ≡ record { text = []; asks = Some (bind, a); rest = more }
  at_ask whole lines more line bind a so cut asks =
      so ∙ next_line lines more line cut ∙ ap (λ said. halt_by (ask_in said) (aside said) more (next_of names vars more)) (sym asks)
