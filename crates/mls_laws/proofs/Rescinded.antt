-- After a rescission.
use Rattle.std.proofs.Common.{◌≡◌, ℕ, zero, suc, Bool, true, false, not, ◌&&◌, ◌||◌, List, [], ◌∷◌, ◌++◌, ◌⊎◌, inl, inr, refl, sym, ap, subst, ◌∙◌, if◌then◌else◌}
use Rattle.std.specs.FinSet as set
use Rattle.mls_tables.specs.declared.mode.Mode.{Mode}
use Rattle.mls_tables.specs.Triples.{Triple, TripleSet, is_triple}
use Rattle.mls_tables.proofs.Laws.{is_triple-true, is_triple-itself, contains-insert-triple, contains-remove-triple, contains-retain-triple}
use Rattle.mls_requests.specs.declared.action.Action.{Action}
use Rattle.mls_requests.specs.declared.action.Action.TheVariants.{Get, Release, Give, Rescind, Create, Delete, SubjectLevel, ObjectLevel}
use Rattle.mls_requests.specs.declared.request.Request.{Request}
use Rattle.mls_requests.specs.declared.reason.Reason.{Reason}
use Rattle.mls_requests.specs.declared.reason.Reason.TheVariants.{Discretionary, Simple, Star, Integrity}
use Rattle.mls_requests.specs.declared.reply.Reply.TheVariants.{Yes, No, Undefined}
use Rattle.mls_requests.specs.declared.entry.Entry.{Entry}
use Rattle.mls_state.specs.State.{State}
use Rattle.mls_state.specs.Properties.{discretionary_holds, simple_holds, star_holds, integrity_holds}
use Rattle.mls_state.specs.Changes.{stays}
use Rattle.mls_rules.specs.Rules.{is_defined, conditions, AllHold, first_failing, granted, reply_unless, reply, change, after}
use Rattle.mls_monitor.specs.Journal.{fold, IsLegal}
use Rattle.mls_laws.specs.Journals.{is_grant}
use Rattle.mls_laws.specs.Provenance.{NeverGives}
use Rattle.mls_laws.proofs.Answered.{IsRun, legal_run, run_rest, by_reply, granted_from, after_grant, fold-append}

-- a triple is neither permitted nor an access
abbrev pub IsOut : Triple → State → Type 0
IsOut u v = (set.contains v.matrix u ≡ false) × (set.contains v.accesses u ≡ false)

still_out : (b : TripleSet) (t u : Triple) → set.contains b u ≡ false → (u ≡ t → ⊥) → set.contains (set.insert b t) u ≡ false
still_out b t u out other = contains-insert-triple b t u ∙ from (is_triple u t) refl where
  from : (e : Bool) → is_triple u t ≡ e → (is_triple u t || set.contains b u) ≡ false
  from true is = absurd (other (is_triple-true u t is))
  from false is = ap (λ c. c || set.contains b u) is ∙ out

and_false : (b c : Bool) → c ≡ false → (b && c) ≡ false
and_false true c is = is
and_false false c is = refl

out_removed : (b : TripleSet) (t u : Triple) → set.contains b u ≡ false → set.contains (set.remove b t) u ≡ false
out_removed b t u out = contains-remove-triple b t u ∙ and_false (not (is_triple u t)) (set.contains b u) out

gone : (b : TripleSet) (u : Triple) → set.contains (set.remove b u) u ≡ false
gone b u = contains-remove-triple b u u ∙ ap (λ c. not c && set.contains b u) (is_triple-itself u)

out_retained : (b : TripleSet) (p : Triple → Bool) (u : Triple) → set.contains b u ≡ false → set.contains (set.retain b p) u ≡ false
out_retained b p u out = contains-retain-triple b p u ∙ ap (λ c. c && p u) out

change_out : (u : Triple) (v : State) (s : ℕ) (a : Action) → AllHold (conditions v s a) → (a ≡ Give u.2 u.0 u.1 → ⊥) → IsOut u v → IsOut u (change v s a)
change_out u v s (Get x o) holds never_gives (m, b) =
    (m, still_out v.accesses (s, o, x) u b (λ same. let permitted : set.contains v.matrix u ≡ true = ap (set.contains v.matrix) same ∙ holds.0 in cc))
change_out u v s (Release x o) holds never_gives (m, b) = (m, out_removed v.accesses (s, o, x) u b)
change_out u v s (Give x t o) holds never_gives (m, b) =
    (still_out v.matrix (t, o, x) u m (λ same. never_gives (λ i. Give (sym same i).2 (sym same i).0 (sym same i).1)), b)
change_out u v s (Rescind x t o) holds never_gives (m, b) = (out_removed v.matrix (t, o, x) u m, out_removed v.accesses (t, o, x) u b)
change_out u v s (Create p l i) holds never_gives out = out
change_out u v s (Delete o) holds never_gives (m, b) = (out_retained v.matrix (λ t. stays v o t.1) u m, out_retained v.accesses (λ t. stays v o t.1) u b)
change_out u v s (SubjectLevel l) holds never_gives out = out
change_out u v s (ObjectLevel o l) holds never_gives out = out

-- a request keeps a triple out, unless it is a granted give of just that triple
after_out : (u : Triple) (v : State) (r : Request) → (r.action ≡ Give u.2 u.0 u.1 → reply v r ≡ Yes → ⊥) → IsOut u v → IsOut u (after v r)
after_out u v r never_gives out =
    by_reply (IsOut u) v r out (λ is.
    let all = granted_from v r is in
    change_out u v r.subject r.action all.1 (λ gives. never_gives gives (all.2 ∙ ap (granted v) gives)) out)

fold_out : (u : Triple) (v : State) (entries : List Entry) → IsRun v entries → NeverGives entries u.0 u.1 u.2 → IsOut u v → IsOut u (fold v entries)
fold_out u v [] run never out = out
fold_out u v (e ∷ entries) run never out =
    fold_out u (after v e.request) entries run.1 (λ n f at. never (suc n) f at)
    (after_out u v e.request (λ gives grants. never zero e refl gives (run.0 ∙ grants)) out)

rescinded : (v : State) (s : ℕ) (a : Action) (t o : ℕ) (x : Mode) → a ≡ Rescind x t o → IsOut (t, o, x) (change v s a)
rescinded v s a t o x is = subst (λ a. IsOut (t, o, x) (change v s a)) (sym is) (gone v.matrix (t, o, x), gone v.accesses (t, o, x))

want : (d c : Bool) (rest : List (Reason × Bool)) → c ≡ false
    → ((if d then reply_unless (first_failing ((Discretionary, c) ∷ rest)) Yes else Undefined) ≡ No Discretionary)
    ⊎ ((if d then reply_unless (first_failing ((Discretionary, c) ∷ rest)) Yes else Undefined) ≡ Undefined)
want false c rest is = inr refl
want true true rest is = cc
want true false rest is = inl refl

-- what isn't permitted is denied, or undefined
pub asks_in_vain : (v : State) (t o : ℕ) (x : Mode) → set.contains v.matrix (t, o, x) ≡ false
    → (reply v (record { subject = t; action = Get x o }) ≡ No Discretionary) ⊎ (reply v (record { subject = t; action = Get x o }) ≡ Undefined)
asks_in_vain v t o x out =
    want (is_defined v (record { subject = t; action = Get x o })) (discretionary_holds v (t, o, x))
    ((Simple, simple_holds v (t, o, x)) ∷ (Star, star_holds v (t, o, x)) ∷ (Integrity, integrity_holds v (t, o, x)) ∷ []) out

-- a rescinded triple stays out until it is given anew
pub stays_out : (v : State) (front rest : List Entry) (e : Entry) (t o : ℕ) (x : Mode) → IsLegal v (front ++ e ∷ rest)
    → e.request.action ≡ Rescind x t o → e.reply ≡ Yes → NeverGives rest t o x → IsOut (t, o, x) (fold v (front ++ e ∷ rest))
stays_out v front rest e t o x legal is grants never =
    let run = run_rest v front (e ∷ rest) (legal_run v (front ++ e ∷ rest) legal) in
    let w = fold v front in
    subst (IsOut (t, o, x)) (sym (fold-append v front (e ∷ rest)))
    (fold_out (t, o, x) (after w e.request) rest run.1 never
    (subst (IsOut (t, o, x)) (sym (after_grant w e.request (ap is_grant (sym run.0 ∙ grants)))) (rescinded w e.request.subject e.request.action t o x is)))
