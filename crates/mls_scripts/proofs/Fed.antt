-- What a script prints that is fed to its end.
use Rattle.std.proofs.Common.{◌≡◌, ℕ, Bool, true, false, List, [], ◌∷◌, ◌++◌, Option, Some, None, refl, sym, ap, ◌∙◌, subst, append_assoc, append-nil, drop}
use Rattle.mls_lines.specs.Names.{Names}
use Rattle.mls_monitor.specs.Feeds.{Exchange, Turn, in_turns, asks_of, answers_of, GaveAhead, Heard, Fed}
use Rattle.mls_scripts.specs.Feed.{ScriptFeed, GoesOn, first_of, first_binds, left_to_bind}
use Rattle.mls_scripts.specs.Fed.{Gives, GivesAhead, Takes, Prints}
use Rattle.mls_scripts.specs.Halves.{next_of, heard, heard_by, vars_told}
use Rattle.mls_scripts.specs.Lines.{lines_of}
use Rattle.mls_scripts.specs.Script.{answer_bytes}
use Rattle.mls_scripts.specs.declared.answer.Answer.{Answer}
use Rattle.mls_scripts.specs.declared.answer.Answer.TheVariants.{Nothing, Fault, Held, Replied}

not_before : (before after : Bool) → (before ≡ true → after ≡ true) → after ≡ false → before ≡ false
not_before false after kept none = refl
not_before true after kept none = sym (kept refl) ∙ none

-- what is bound by a line without a variable
unbound : (vars : List (List ℕ × ℕ)) (a : Answer) → vars_told vars None a ≡ vars
unbound vars Nothing = refl
unbound vars (Fault fault) = refl
unbound vars (Held held) = refl
unbound vars (Replied r) = refl

-- the answers to what was asked and told
abbrev said : List Exchange → List ℕ
said [] = []
said (x ∷ xs) = answer_bytes (heard_by x.0 x.1) ++ said xs

-- the variables after the answer to the last of these, whose line binds that
abbrev vars_last : List (List ℕ × ℕ) → Option (List ℕ) → Exchange → List Exchange → List (List ℕ × ℕ)
vars_last vars bind x [] = vars_told vars bind (heard_by x.0 x.1)
vars_last vars bind x (y ∷ ys) = vars_last vars bind y ys

-- a feed that gave asks ahead has printed nothing by it, and failed no more than before
ahead_keeps : (f g : ScriptFeed) (xs : List Exchange) → GaveAhead GivesAhead f (asks_of xs) g → (g.names ≡ f.names) × (g.vars ≡ f.vars) × (g.failed ≡ f.failed) × (g.text ≡ f.text) × (g.asked ≡ f.asked ++ asks_of xs)
ahead_keeps f g [] so = (ap (λ h. h.names) (sym so), ap (λ h. h.vars) (sym so), ap (λ h. h.failed) (sym so), ap (λ h. h.text) (sym so), ap (λ h. h.asked) (sym so) ∙ sym (append-nil f.asked))
ahead_keeps f g (x ∷ xs) so =
    let h : ScriptFeed = so.0 in
    let one = so.1 in
    let later = ahead_keeps h g xs so.2 in
    (later.0 ∙ one.names, later.1 ∙ one.vars, later.2 ∙ one.failed, later.3 ∙ one.step.text, later.4 ∙ ap (λ qs. qs ++ asks_of xs) one.step.asked ∙ append_assoc f.asked (x.0 ∷ []) (asks_of xs))

-- what the lines print of which those were that gave the asks ahead, by what those after them print
ahead_prints : (f g : ScriptFeed) (x : Exchange) (xs later : List Exchange) (text : List ℕ) → GaveAhead GivesAhead f (asks_of xs) g → Prints g.names (vars_last g.vars g.binds x xs) (lines_of g.rest) later text
    → Prints f.names (vars_told f.vars f.binds (heard_by x.0 x.1)) (lines_of f.rest) (xs ++ later) (said xs ++ text)
ahead_prints f g x [] later text so prints = subst (λ (h : ScriptFeed). Prints h.names (vars_told h.vars h.binds (heard_by x.0 x.1)) (lines_of h.rest) later text) (sym so) prints
ahead_prints f g x (y ∷ xs) later text so prints =
    let h : ScriptFeed = so.0 in
    let one = so.1 in
    let vars : vars_told f.vars f.binds (heard_by x.0 x.1) ≡ f.vars = ap (λ b. vars_told f.vars b (heard_by x.0 x.1)) one.step.unbound ∙ unbound f.vars (heard_by x.0 x.1) in
    let on : List ℕ = answer_bytes (heard_by y.0 y.1) in
    let rest : List ℕ = said xs ++ text in
    let after = ahead_prints h g y xs later text so.2 prints in
    let same : Prints f.names (vars_told f.vars h.binds (heard_by y.0 y.1)) (next_of f.names f.vars (lines_of f.rest)).rest (xs ++ later) rest =
    subst (λ n. Prints n (vars_told f.vars h.binds (heard_by y.0 y.1)) (next_of f.names f.vars (lines_of f.rest)).rest (xs ++ later) rest) one.names
    (subst (λ vs. Prints h.names (vars_told vs h.binds (heard_by y.0 y.1)) (next_of f.names f.vars (lines_of f.rest)).rest (xs ++ later) rest) one.vars
    (subst (λ ls. Prints h.names (vars_told h.vars h.binds (heard_by y.0 y.1)) ls (xs ++ later) rest) one.step.rest after)) in
    let here : Prints f.names f.vars (lines_of f.rest) ((y ∷ xs) ++ later) (said (y ∷ xs) ++ text) =
    (h.binds, rest, one.step.asks, append_assoc on (said xs) text ∙ ap (λ t. (t ++ on) ++ rest) (sym one.step.quiet), same) in
    subst (λ vs. Prints f.names vs (lines_of f.rest) ((y ∷ xs) ++ later) (said (y ∷ xs) ++ text)) (sym vars) here

-- a feed that was told answers to all that it asked has printed them
record Printed (f : ScriptFeed) (x : Exchange) (xs : List Exchange) (g : ScriptFeed) : Type 0 where
  text : g.text ≡ f.text ++ said (x ∷ xs)
  vars : g.vars ≡ vars_last f.vars f.binds x xs
  rest : g.rest ≡ f.rest

heard_keeps : (f g : ScriptFeed) (xs : List Exchange) → Heard Takes f (answers_of xs) g → (g.names ≡ f.names) × (f.failed ≡ true → g.failed ≡ true)
heard_keeps f g [] so = (ap (λ h. h.names) (sym so), λ failed. ap (λ h. h.failed) (sym so) ∙ failed)
heard_keeps f g (x ∷ xs) so = let later = heard_keeps so.0 g xs so.2 in (later.0 ∙ so.1.names, λ failed. later.1 (so.1.kept failed))

heard_prints : (f g : ScriptFeed) (x : Exchange) (xs : List Exchange) → Heard Takes f (answers_of (x ∷ xs)) g → f.asked ≡ asks_of (x ∷ xs) → g.failed ≡ false → Printed f x xs g
heard_prints f g x [] so asked none =
    let h : ScriptFeed = so.0 in
    let same : h ≡ g = so.2 in
    let one = so.1.step (ap (λ i. i.failed) same ∙ none) in
    record {
      text = ap (λ i. i.text) (sym same) ∙ one.text ∙ ap (λ qs. f.text ++ answer_bytes (heard (first_of qs) x.1)) asked ∙ ap (λ t. f.text ++ t) (sym (append-nil (answer_bytes (heard_by x.0 x.1))));
      vars = ap (λ i. i.vars) (sym same) ∙ one.vars ∙ ap (λ qs. vars_told f.vars (first_binds qs f.binds) (heard (first_of qs) x.1)) asked;
      rest = ap (λ i. i.rest) (sym same) ∙ one.rest;
    }
heard_prints f g x (y ∷ ys) so asked none =
    let h : ScriptFeed = so.0 in
    let whole : h.failed ≡ false = not_before h.failed g.failed (heard_keeps h g (y ∷ ys) so.2).1 none in
    let one = so.1.step whole in
    let later = heard_prints h g y ys so.2 (one.asked ∙ ap (λ qs. drop 1 qs) asked) none in
    let vars : h.vars ≡ f.vars = one.vars ∙ ap (λ qs. vars_told f.vars (first_binds qs f.binds) (heard (first_of qs) x.1)) asked ∙ unbound f.vars (heard_by x.0 x.1) in
    let binds : h.binds ≡ f.binds = one.binds ∙ ap (λ qs. left_to_bind qs f.binds) asked in
    let answer : List ℕ = answer_bytes (heard_by x.0 x.1) in
    record {
      text = later.text ∙ ap (λ t. t ++ said (y ∷ ys)) (one.text ∙ ap (λ qs. f.text ++ answer_bytes (heard (first_of qs) x.1)) asked) ∙ append_assoc f.text answer (said (y ∷ ys));
      vars = later.vars ∙ ap (λ vs. vars_last vs h.binds y ys) vars ∙ ap (λ b. vars_last f.vars b y ys) binds;
      rest = later.rest ∙ one.rest;
    }

-- a feed that didn't fail at its end never did
never_failed : (f g : ScriptFeed) (turns : List Turn) → Fed Gives GivesAhead Takes f turns g → g.failed ≡ false → f.failed ≡ false
never_failed f g [] so none = let last : Gives f None g = subst (λ h. Gives h None g) (sym so.1) so.2 in not_before f.failed g.failed last.kept none
never_failed f g (x ∷ turns) so none =
    let turn = so.1 in
    let asked : ScriptFeed = turn.0 in
    let full : ScriptFeed = turn.1 in
    let told : ScriptFeed = turn.2 in
    let whole : full.failed ≡ false = not_before full.failed told.failed (heard_keeps full told (x.0 ∷ x.1) turn.5).1 (never_failed told g turns (so.0, turn.6, so.2) none) in
    not_before f.failed asked.failed turn.3.kept (sym (ahead_keeps asked full x.1 turn.4).2 ∙ whole)

prints_as : (names names' : Names) (vars vars' : List (List ℕ × ℕ)) (lines lines' : List (List ℕ)) (xs : List Exchange) (text : List ℕ) → names ≡ names' → vars ≡ vars' → lines ≡ lines'
    → Prints names vars lines xs text → Prints names' vars' lines' xs text
prints_as names names' vars vars' lines lines' xs text p q r so =
    subst (λ n. Prints n vars' lines' xs text) p (subst (λ v. Prints names v lines' xs text) q (subst (λ l. Prints names vars l xs text) r so))

-- what it printed since
pub fed_prints : (f g : ScriptFeed) (turns : List Turn) → Fed Gives GivesAhead Takes f turns g → g.failed ≡ false
    → (text : List ℕ) × (g.text ≡ f.text ++ text) × Prints f.names f.vars (lines_of f.rest) (in_turns turns) text
fed_prints f g [] so none = let last : Gives f None g = subst (λ h. Gives h None g) (sym so.1) so.2 in let step = last.step none in ((next_of f.names f.vars (lines_of f.rest)).text, step.text, (sym step.asks, refl))
fed_prints f g (turn ∷ turns) so none =
    let x : Exchange = turn.0 in
    let xs : List Exchange = turn.1 in
    let here = so.1 in
    let asked : ScriptFeed = here.0 in
    let full : ScriptFeed = here.1 in
    let told : ScriptFeed = here.2 in
    let on_to : Fed Gives GivesAhead Takes told turns g = (so.0, here.6, so.2) in
    let whole : told.failed ≡ false = never_failed told g turns on_to none in
    let hears = heard_keeps full told (x ∷ xs) here.5 in
    let on = ahead_keeps asked full xs here.4 in
    let unfailed : asked.failed ≡ false = sym on.2 ∙ not_before full.failed told.failed hears.1 whole in
    let goes : GoesOn f (Some x.0) asked = here.3.step unfailed in
    let waits : full.asked ≡ asks_of (x ∷ xs) = on.4 ∙ ap (λ qs. qs ++ asks_of xs) goes.asked in
    let printed = heard_prints full told x xs here.5 waits whole in
    let later = fed_prints told g turns on_to none in
    let way : List ℕ = (next_of f.names f.vars (lines_of f.rest)).text in
    let answer : List ℕ = answer_bytes (heard_by x.0 x.1) in
    let rest : List ℕ = said xs ++ later.0 in
    let grew : told.text ≡ f.text ++ (way ++ said (x ∷ xs)) = printed.text ∙ ap (λ t. t ++ said (x ∷ xs)) (on.3 ∙ goes.text) ∙ append_assoc f.text way (said (x ∷ xs)) in
    let tail : Prints full.names (vars_last full.vars full.binds x xs) (lines_of full.rest) (in_turns turns) later.0 = prints_as _ _ _ _ _ _ (in_turns turns) later.0 hears.0 printed.vars (ap lines_of printed.rest) later.2 in
    let after : Prints asked.names (vars_told asked.vars asked.binds (heard_by x.0 x.1)) (lines_of asked.rest) (xs ++ in_turns turns) rest = ahead_prints asked full x xs (in_turns turns) later.0 here.4 tail in (
      (way ++ answer) ++ rest,
      later.1 ∙ ap (λ t. t ++ later.0) grew ∙ append_assoc f.text (way ++ said (x ∷ xs)) later.0
          ∙ ap (λ t. f.text ++ t) (append_assoc way (said (x ∷ xs)) later.0 ∙ ap (λ t. way ++ t) (append_assoc answer (said xs) later.0) ∙ sym (append_assoc way answer rest)),
      (
        asked.binds,
        rest,
        sym goes.asks,
        refl,
        prints_as _ _ _ _ _ _ (xs ++ in_turns turns) rest here.3.names (ap (λ vs. vars_told vs asked.binds (heard_by x.0 x.1)) here.3.vars) goes.rest after,
      ),
    )
