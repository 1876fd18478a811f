-- Why an access is held.
use Rattle.std.proofs.Common.{◌≡◌, ℕ, zero, suc, ◌<◌, Bool, true, false, not, ◌&&◌, ◌||◌, ◌⊎◌, inl, inr, List, [], ◌∷◌, take, Some, refl, sym, ap, subst, ◌∙◌, arith}
use Rattle.std.specs.Prelude.{slice_get}
use Rattle.std.proofs.lemmas.Bool.{and_parts, or_right}
use Rattle.std.specs.FinSet as set
use Rattle.mls_tables.specs.declared.mode.Mode.{Mode}
use Rattle.mls_tables.specs.Triples.{Triple, TripleSet, is_triple}
use Rattle.mls_tables.proofs.Laws.{is_triple-true, is_triple-itself, contains-insert-triple, contains-remove-triple, contains-retain-triple}
use Rattle.mls_tree.specs.Tree.{Reaches, is_inferior}
use Rattle.mls_tree.proofs.Laws.{is_inferior-Reaches}
use Rattle.mls_requests.specs.declared.action.Action.{Action}
use Rattle.mls_requests.specs.declared.action.Action.TheVariants.{Get, Release, Give, Rescind, Create, Delete, SubjectLevel, ObjectLevel}
use Rattle.mls_requests.specs.declared.request.Request.{Request}
use Rattle.mls_requests.specs.declared.reply.Reply.TheVariants.{Yes}
use Rattle.mls_requests.specs.declared.entry.Entry.{Entry}
use Rattle.mls_state.specs.State.{State, is_subject, is_active}
use Rattle.mls_state.specs.Properties.{IsSecure, HasTree}
use Rattle.mls_state.specs.Changes.{stays}
use Rattle.mls_rules.specs.Rules.{granted, reply, change, after}
use Rattle.mls_rules.proofs.Laws.{after_secure}
use Rattle.mls_monitor.specs.Journal.{fold}
use Rattle.mls_laws.specs.Journals.{is_grant}
use Rattle.mls_laws.specs.Provenance.{Ends, released, rescinded, deleted, NeverEnds, Provenance}
use Rattle.mls_laws.proofs.Answered.{granted_from, after_grant, by_reply, IsRun}

-- a triple that was in a set, with others taken out
was_in : (a b : Bool) → b ≡ false → (a && b) ≡ true → ⊥
was_in true b out there = cc
was_in false b out there = cc

was_retained : (a b : Bool) → a ≡ false → (a && b) ≡ true → ⊥
was_retained true b out there = cc
was_retained false b out there = cc

new_one : (a b : Bool) → b ≡ false → (a || b) ≡ true → a ≡ true
new_one true b out there = refl
new_one false b out there = cc

-- an action makes a triple an access only where it gets just that one
abbrev Got : ℕ → Action → ℕ → ℕ → Mode → Type 0
Got subject a s o x = (subject ≡ s) × (a ≡ Get x o)

got_by : (v : State) (subject : ℕ) (a : Action) (s o : ℕ) (x : Mode) → set.contains v.accesses (s, o, x) ≡ false
    → set.contains (change v subject a).accesses (s, o, x) ≡ true → Got subject a s o x × (granted v a ≡ Yes)
got_by v subject (Get y q) s o x out there =
    let same : (s, o, x) ≡ (subject, q, y) =
    is_triple-true (s, o, x) (subject, q, y)
    (new_one (is_triple (s, o, x) (subject, q, y)) (set.contains v.accesses (s, o, x)) out (sym (contains-insert-triple v.accesses (subject, q, y) (s, o, x)) ∙ there)) in
    ((λ i. (sym same i).0, λ i. Get (sym same i).2 (sym same i).1), refl)
got_by v subject (Release y q) s o x out there =
    absurd (was_in _ (set.contains v.accesses (s, o, x)) out (sym (contains-remove-triple v.accesses (subject, q, y) (s, o, x)) ∙ there))
got_by v subject (Give y t q) s o x out there = cc
got_by v subject (Rescind y t q) s o x out there =
    absurd (was_in _ (set.contains v.accesses (s, o, x)) out (sym (contains-remove-triple v.accesses (t, q, y) (s, o, x)) ∙ there))
got_by v subject (Create p l i) s o x out there = cc
got_by v subject (Delete q) s o x out there =
    absurd (was_retained (set.contains v.accesses (s, o, x)) _ out (sym (contains-retain-triple v.accesses (λ t. stays v q t.1) (s, o, x)) ∙ there))
got_by v subject (SubjectLevel l) s o x out there = cc
got_by v subject (ObjectLevel q l) s o x out there = cc

request_of : (r : Request) (s : ℕ) (a : Action) → r.subject ≡ s → r.action ≡ a → r ≡ record { subject = s; action = a }
request_of r s a subject action i = record { subject = subject i; action = action i }

-- and so does a request
abbrev GotBy : State → Request → ℕ → ℕ → Mode → State → Type 0
GotBy v r s o x w = set.contains w.accesses (s, o, x) ≡ true → (r ≡ record { subject = s; action = Get x o }) × (reply v r ≡ Yes)

got : (v : State) (r : Request) (s o : ℕ) (x : Mode) → set.contains v.accesses (s, o, x) ≡ false → GotBy v r s o x (after v r)
got v r s o x out =
    by_reply (GotBy v r s o x) v r (λ there. cc) (λ is there.
    let by = got_by v r.subject r.action s o x out there in
    (request_of r s (Get x o) by.0.0 by.0.1, (granted_from v r is).2 ∙ by.1))

not_kept : (b : Bool) → not b ≡ true → b ≡ true → ⊥
not_kept true keeps is = cc
not_kept false keeps is = cc

-- what reaches a deleted object is no access after the deletion
not_below : (v : State) (q s o : ℕ) (x : Mode) → HasTree v → Reaches v.parent o q
    → set.contains (set.retain v.accesses (λ t. stays v q t.1)) (s, o, x) ≡ true → ⊥
not_below v q s o x h reaches there =
    let both = and_parts (set.contains v.accesses (s, o, x)) (stays v q o) (sym (contains-retain-triple v.accesses (λ t. stays v q t.1) (s, o, x)) ∙ there) in
    let active : is_active v o ≡ true = (and_parts (is_subject v s) (is_active v o) (h.accesses_known (s, o, x) both.0)).1 in
    not_kept (is_inferior v.parent o q) both.1 ((is_inferior-Reaches v.parent (is_active v) h.objects o q).1 (active, reaches))

not_removed : (b : TripleSet) (t : Triple) → set.contains (set.remove b t) t ≡ true → ⊥
not_removed b t there =
    let out : set.contains (set.remove b t) t ≡ false = contains-remove-triple b t t ∙ ap (λ c. not c && set.contains b t) (is_triple-itself t) in cc

-- an access that is held after an entry wasn't ended by it
after_yes : (v : State) (r : Request) → reply v r ≡ Yes → after v r ≡ change v r.subject r.action
after_yes v r yields = after_grant v r (ap is_grant yields)

pub not_ended : (v : State) (e : Entry) (s o : ℕ) (x : Mode) → HasTree v → e.reply ≡ reply v e.request
    → set.contains (after v e.request).accesses (s, o, x) ≡ true → Ends v e s o x → ⊥
not_ended v e s o x h answered there (released yields is) =
    not_removed v.accesses (s, o, x)
    (subst (λ (r : Request). set.contains (change v r.subject r.action).accesses (s, o, x) ≡ true) is
    (subst (λ (w : State). set.contains w.accesses (s, o, x) ≡ true) (after_yes v e.request (sym answered ∙ yields)) there))
not_ended v e s o x h answered there (rescinded yields is) =
    not_removed v.accesses (s, o, x)
    (subst (λ a. set.contains (change v e.request.subject a).accesses (s, o, x) ≡ true) is
    (subst (λ (w : State). set.contains w.accesses (s, o, x) ≡ true) (after_yes v e.request (sym answered ∙ yields)) there))
not_ended v e s o x h answered there (deleted q yields is reaches) =
    not_below v q s o x h reaches
    (subst (λ a. set.contains (change v e.request.subject a).accesses (s, o, x) ≡ true) is
    (subst (λ (w : State). set.contains w.accesses (s, o, x) ≡ true) (after_yes v e.request (sym answered ∙ yields)) there))

-- what an action takes from the accesses
abbrev Lost : State → ℕ → Action → ℕ → ℕ → Mode → Type 0
Lost v subject a s o x =
    ((subject ≡ s) × (a ≡ Release x o)) ⊎ ((a ≡ Rescind x s o) ⊎ ((q : ℕ) × (a ≡ Delete q) × Reaches v.parent o q))

taken_one : (a b : Bool) → b ≡ true → (not a && b) ≡ false → a ≡ true
taken_one true b there gone = refl
taken_one false b there gone = let still : b ≡ false = gone in cc

taken_away : (a b : Bool) → a ≡ true → (a && not b) ≡ false → b ≡ true
taken_away true true there gone = refl
taken_away true false there gone = cc
taken_away false b there gone = cc

lost_by : (v : State) (subject : ℕ) (a : Action) (s o : ℕ) (x : Mode) → HasTree v → set.contains v.accesses (s, o, x) ≡ true
    → set.contains (change v subject a).accesses (s, o, x) ≡ false → Lost v subject a s o x × (granted v a ≡ Yes)
lost_by v subject (Get y q) s o x h there gone =
    let still : set.contains (set.insert v.accesses (subject, q, y)) (s, o, x) ≡ true =
    contains-insert-triple v.accesses (subject, q, y) (s, o, x) ∙ or_right (is_triple (s, o, x) (subject, q, y)) (set.contains v.accesses (s, o, x)) there in
    cc
lost_by v subject (Release y q) s o x h there gone =
    let same : (s, o, x) ≡ (subject, q, y) =
    is_triple-true (s, o, x) (subject, q, y)
    (taken_one (is_triple (s, o, x) (subject, q, y)) (set.contains v.accesses (s, o, x)) there (sym (contains-remove-triple v.accesses (subject, q, y) (s, o, x)) ∙ gone)) in
    (inl (λ i. (sym same i).0, λ i. Release (sym same i).2 (sym same i).1), refl)
lost_by v subject (Give y t q) s o x h there gone = cc
lost_by v subject (Rescind y t q) s o x h there gone =
    let same : (s, o, x) ≡ (t, q, y) =
    is_triple-true (s, o, x) (t, q, y)
    (taken_one (is_triple (s, o, x) (t, q, y)) (set.contains v.accesses (s, o, x)) there (sym (contains-remove-triple v.accesses (t, q, y) (s, o, x)) ∙ gone)) in
    (inr (inl (λ i. Rescind (sym same i).2 (sym same i).0 (sym same i).1)), refl)
lost_by v subject (Create p l i) s o x h there gone = cc
lost_by v subject (Delete q) s o x h there gone =
    let below : is_inferior v.parent o q ≡ true =
    taken_away (set.contains v.accesses (s, o, x)) (is_inferior v.parent o q) there (sym (contains-retain-triple v.accesses (λ t. stays v q t.1) (s, o, x)) ∙ gone) in
    (inr (inr (q, refl, ((is_inferior-Reaches v.parent (is_active v) h.objects o q).0 below).1)), refl)
lost_by v subject (SubjectLevel l) s o x h there gone = cc
lost_by v subject (ObjectLevel q l) s o x h there gone = cc

-- an access that an entry takes is one that it ends
abbrev EndsIn : State → Entry → ℕ → ℕ → Mode → State → Type 0
EndsIn v e s o x w = set.contains w.accesses (s, o, x) ≡ false → Ends v e s o x

pub ended : (v : State) (e : Entry) (s o : ℕ) (x : Mode) → HasTree v → e.reply ≡ reply v e.request → set.contains v.accesses (s, o, x) ≡ true
    → set.contains (after v e.request).accesses (s, o, x) ≡ false → Ends v e s o x
ended v e s o x h answered there = by_reply (EndsIn v e s o x) v e.request (λ gone. cc) (λ is gone.
    let lost = lost_by v e.request.subject e.request.action s o x h there gone in
    from (answered ∙ (granted_from v e.request is).2 ∙ lost.1) lost.0) where
      from : e.reply ≡ Yes → Lost v e.request.subject e.request.action s o x → Ends v e s o x
      from yields (inl (own, action)) = released yields (request_of e.request s (Release x o) own action)
      from yields (inr (inl action)) = rescinded yields action
      from yields (inr (inr (q, action, reaches))) = deleted q yields action reaches

-- and no longer held after it
not_held : (b : Bool) → (b ≡ true → ⊥) → b ≡ false
not_held true never = absurd (never refl)
not_held false never = refl

pub over : (v : State) (e : Entry) (s o : ℕ) (x : Mode) → HasTree v → e.reply ≡ reply v e.request → Ends v e s o x
    → set.contains (after v e.request).accesses (s, o, x) ≡ false
over v e s o x h answered ends = not_held (set.contains (after v e.request).accesses (s, o, x)) (λ there. not_ended v e s o x h answered there ends)

-- held from the beginning, with nothing that ends it
abbrev pub HeldAlong : State → List Entry → ℕ → ℕ → Mode → Type 0
HeldAlong v entries s o x = (set.contains v.accesses (s, o, x) ≡ true) × NeverEnds v entries s o x

further : (v : State) (e : Entry) (entries : List Entry) (s o : ℕ) (x : Mode) → Provenance (after v e.request) entries s o x → Provenance v (e ∷ entries) s o x
further v e entries s o x p = record {
  place = suc p.place;
  entry = p.entry;
  there = p.there;
  asked = p.asked;
  granted = p.granted;
  since = later;
} where
  later : (n : ℕ) (f : Entry) → suc p.place < n → slice_get (e ∷ entries) n ≡ Some f → Ends (fold v (take n (e ∷ entries))) f s o x → ⊥
  later zero f past at ends = absurd (omega arith)
  later (suc n) f past at ends = p.since n f (omega arith) at ends

here_first : (v : State) (e : Entry) (entries : List Entry) (s o : ℕ) (x : Mode) → e.request ≡ record { subject = s; action = Get x o } → e.reply ≡ Yes
    → NeverEnds (after v e.request) entries s o x → Provenance v (e ∷ entries) s o x
here_first v e entries s o x asked yields never = record {
  place = zero;
  entry = e;
  there = refl;
  asked = asked;
  granted = yields;
  since = later;
} where
  later : (n : ℕ) (f : Entry) → zero < n → slice_get (e ∷ entries) n ≡ Some f → Ends (fold v (take n (e ∷ entries))) f s o x → ⊥
  later zero f past at ends = absurd (omega arith)
  later (suc n) f past at ends = never n f at ends

pub held_from : (v : State) (entries : List Entry) (s o : ℕ) (x : Mode) → IsSecure v → IsRun v entries
    → set.contains (fold v entries).accesses (s, o, x) ≡ true → Provenance v entries s o x ⊎ HeldAlong v entries s o x
held_from v [] s o x h run there = inr (there, λ n e at. cc)
held_from v (e ∷ entries) s o x h run there = from (held_from (after v e.request) entries s o x (after_secure v e.request h) run.1 there) where
  at_first : (b : Bool) → set.contains v.accesses (s, o, x) ≡ b → HeldAlong (after v e.request) entries s o x
      → Provenance v (e ∷ entries) s o x ⊎ HeldAlong v (e ∷ entries) s o x
  at_first false out (held, never) =
      let by = got v e.request s o x out held in
      inl (here_first v e entries s o x by.0 (run.0 ∙ by.1) never)
  at_first true in_it (held, never) = inr (in_it, along) where
    along : NeverEnds v (e ∷ entries) s o x
    along zero f at ends = let same : e ≡ f = cc in not_ended v e s o x h.tree run.0 held (subst (λ g. Ends v g s o x) (sym same) ends)
    along (suc n) f at ends = never n f at ends

  from : Provenance (after v e.request) entries s o x ⊎ HeldAlong (after v e.request) entries s o x
      → Provenance v (e ∷ entries) s o x ⊎ HeldAlong v (e ∷ entries) s o x
  from (inl p) = inl (further v e entries s o x p)
  from (inr held) = at_first (set.contains v.accesses (s, o, x)) refl held

-- where nothing is held at first, each access was granted
pub granted_in : (v : State) (entries : List Entry) (s o : ℕ) (x : Mode) → IsSecure v → IsRun v entries → set.contains v.accesses (s, o, x) ≡ false
    → set.contains (fold v entries).accesses (s, o, x) ≡ true → Provenance v entries s o x
granted_in v entries s o x h run none there = from (held_from v entries s o x h run there) where
  from : Provenance v entries s o x ⊎ HeldAlong v entries s o x → Provenance v entries s o x
  from (inl p) = p
  from (inr held) = let is : set.contains v.accesses (s, o, x) ≡ true = held.0 in cc
