-- Which accesses are permitted after an entry, and which are permissions.
use Rattle.std.proofs.Common.{◌≡◌, ℕ, Bool, true, false, List, [], ◌∷◌, ◌++◌, Option, Some, None, refl, sym, ap, ◌∙◌, inl, inr}
use Rattle.std.specs.Prelude.{not, ◌&&◌, ◌||◌, ◌⊎◌}
use Rattle.std.specs.List.{list_any}
use Rattle.std.proofs.lemmas.Bool.{and_parts, and_from, or_left, or_right, or_cases}
use Rattle.std.proofs.lemmas.List.Folds.{list_any-append}
use Rattle.mls_monitor.specs.Journal.{fold}
use Rattle.mls_requests.specs.declared.action.Action.{Action}
use Rattle.mls_requests.specs.declared.action.Action.TheVariants.{Get, Release, Give, Rescind, Create, Delete, SubjectLevel, ObjectLevel}
use Rattle.mls_requests.specs.declared.entry.Entry.{Entry}
use Rattle.mls_requests.specs.declared.reply.Reply.{Reply}
use Rattle.mls_requests.specs.declared.reply.Reply.TheVariants.{Yes, Created, No, Undefined}
use Rattle.mls_requests.specs.declared.request.Request.{Request}
use Rattle.mls_rules.specs.Rules.{reply, after, after_reply, change}
use Rattle.mls_state.specs.Changes.{stays}
use Rattle.mls_state.specs.State.{State}
use Rattle.mls_tables.specs.Triples.{Triple, is_triple}
use Rattle.mls_tables.proofs.Laws.{is_triple-true, contains-insert-triple, contains-remove-triple, contains-retain-triple}
use Rattle.mls_spans.specs.Uses.{is_permitted, states_over, is_permission}
use Rattle.mls_spans.specs.Kept.{given_by, is_given}

pub and_false : (b : Bool) → (b && false) ≡ false
and_false true = refl
and_false false = refl

and_true : (b : Bool) → (b && true) ≡ b
and_true true = refl
and_true false = refl

pub or_false : (b : Bool) → (b || false) ≡ b
or_false true = refl
or_false false = refl

pub or_true : (b : Bool) → (b || true) ≡ true
or_true true = refl
or_true false = refl

-- a test of one access is that of each that is the same
pub same_test : (p : Triple → Bool) (t a : Triple) → (p a && is_triple t a) ≡ (is_triple t a && p t)
same_test p t a = from (is_triple t a) refl where
  from : (b : Bool) → is_triple t a ≡ b → (p a && b) ≡ (b && p t)
  from true is = and_true (p a) ∙ ap p (sym (is_triple-true t a is))
  from false is = and_false (p a)

-- what is given and permitted is permitted
pub given_there : (w : State) (g : Option Triple) (t : Triple) → is_given w g t ≡ true → is_permitted w t ≡ true
given_there w None t is = absurd (let no : false ≡ true = is in cc)
given_there w (Some a) t is = (and_parts (is_triple t a) (is_permitted w t) (sym (same_test (is_permitted w) t a) ∙ is)).1

-- what a granted action leaves permitted was permitted, or it was given
change_grows : (v : State) (s : ℕ) (a : Action) (t : Triple) → is_permitted (change v s a) t ≡ true
    → (is_permitted v t || is_given (change v s a) (given_by a) t) ≡ true
change_grows v s (Get x o) t there = or_left (is_permitted v t) false there
change_grows v s (Release x o) t there = or_left (is_permitted v t) false there
change_grows v s (Give x r o) t there = from (or_cases (is_triple t (r, o, x)) (is_permitted v t) (sym (contains-insert-triple v.matrix (r, o, x) t) ∙ there)) where
  w : State
  w = change v s (Give x r o)

  from : ((is_triple t (r, o, x) ≡ true) ⊎ (is_permitted v t ≡ true)) → (is_permitted v t || is_given w (Some (r, o, x)) t) ≡ true
  from (inl is) =
      or_right (is_permitted v t) (is_given w (Some (r, o, x)) t)
      (same_test (is_permitted w) t (r, o, x) ∙ and_from (is_triple t (r, o, x)) (is_permitted w t) is there)
  from (inr old) = or_left (is_permitted v t) (is_given w (Some (r, o, x)) t) old
change_grows v s (Rescind x r o) t there =
    or_left (is_permitted v t) false
    (and_parts (not (is_triple t (r, o, x))) (is_permitted v t) (sym (contains-remove-triple v.matrix (r, o, x) t) ∙ there)).1
change_grows v s (Create p l i) t there = or_left (is_permitted v t) false there
change_grows v s (Delete o) t there =
    or_left (is_permitted v t) false
    (and_parts (is_permitted v t) (stays v o t.1) (sym (contains-retain-triple v.matrix (λ u. stays v o u.1) t) ∙ there)).0
change_grows v s (SubjectLevel l) t there = or_left (is_permitted v t) false there
change_grows v s (ObjectLevel o l) t there = or_left (is_permitted v t) false there

reply_grows : (r : Reply) (v : State) (s : ℕ) (a : Action) (t : Triple) → is_permitted (after_reply r v (change v s a)) t ≡ true
    → (is_permitted v t || is_given (after_reply r v (change v s a)) (given_by a) t) ≡ true
reply_grows Yes v s a t there = change_grows v s a t there
reply_grows (Created o) v s a t there = change_grows v s a t there
reply_grows (No reason) v s a t there = or_left (is_permitted v t) (is_given v (given_by a) t) there
reply_grows Undefined v s a t there = or_left (is_permitted v t) (is_given v (given_by a) t) there

pub grows : (v : State) (r : Request) (t : Triple) → is_permitted (after v r) t ≡ true
    → (is_permitted v t || is_given (after v r) (given_by r.action) t) ≡ true
grows v r t there = reply_grows (reply v r) v r.subject r.action t there

-- the last state is one of them
pub last_state : (v : State) (es : List Entry) (t : Triple) → is_permitted (fold v es) t ≡ true → is_permission v es t ≡ true
last_state v [] t there = or_left (is_permitted v t) false there
last_state v (e ∷ es) t there =
    or_right (is_permitted v t) (is_permission (after v e.request) es t) (last_state (after v e.request) es t there)

states_push : (v : State) (es : List Entry) (e : Entry)
    → states_over v (es ++ e ∷ []) ≡ states_over v es ++ after (fold v es) e.request ∷ []
states_push v [] e = refl
states_push v (f ∷ es) e = λ i. v ∷ states_push (after v f.request) es e i

-- the permissions over one entry more
pub permission_push : (v : State) (es : List Entry) (e : Entry) (t : Triple)
    → is_permission v (es ++ e ∷ []) t ≡ (is_permission v es t || is_permitted (after (fold v es) e.request) t)
permission_push v es e t =
    let p : State → Bool = λ w. is_permitted w t in
    let w = after (fold v es) e.request in
    ap (list_any p) (states_push v es e) ∙ list_any-append p (states_over v es) (w ∷ [])
    ∙ ap (λ b. is_permission v es t || b) (or_false (is_permitted w t))
