-- What a request changes of the accesses, of the permissions and of the tree.
use Rattle.std.proofs.Common.{◌≡◌, ℕ, Bool, true, false, not, ◌||◌, ◌⊎◌, inl, inr, refl, sym, ap, subst, ◌∙◌}
use Rattle.std.proofs.lemmas.Bool.{and_parts}
use Rattle.std.specs.FinMap as map
use Rattle.std.specs.FinSet as set
use Rattle.mls_facts.proofs.Entries.{elsewhere, has-kept, at_kept}
use Rattle.mls_tables.specs.declared.mode.Mode.{Mode}
use Rattle.mls_tables.specs.Triples.{Triple, TripleSet, is_triple}
use Rattle.mls_tables.proofs.Laws.{is_triple-true, contains-insert-triple, contains-remove-triple, contains-retain-triple}
use Rattle.mls_requests.specs.declared.action.Action.{Action}
use Rattle.mls_requests.specs.declared.action.Action.TheVariants.{Get, Release, Give, Rescind, Create, Delete, SubjectLevel, ObjectLevel}
use Rattle.mls_requests.specs.declared.request.Request.{Request}
use Rattle.mls_state.specs.State.{State, is_active}
use Rattle.mls_state.specs.Properties.{HasTree}
use Rattle.mls_state.specs.Changes.{stays}
use Rattle.mls_rules.specs.Rules.{conditions, AllHold, change, after, controls}
use Rattle.mls_laws.proofs.Laws.{by_reply, granted_from, not_new}

-- a triple that is there with one more is that one, or was there
was_or_is : (b : TripleSet) (t u : Triple) → set.contains (set.insert b t) u ≡ true → (set.contains b u ≡ true) ⊎ (u ≡ t)
was_or_is b t u there = from (is_triple u t) refl where
  from : (c : Bool) → is_triple u t ≡ c → (set.contains b u ≡ true) ⊎ (u ≡ t)
  from true is = inr (is_triple-true u t is)
  from false is = inl (sym (contains-insert-triple b t u ∙ ap (λ c. c || set.contains b u) is) ∙ there)

was_left : (b : TripleSet) (t u : Triple) → set.contains (set.remove b t) u ≡ true → set.contains b u ≡ true
was_left b t u there = (and_parts (not (is_triple u t)) (set.contains b u) (sym (contains-remove-triple b t u) ∙ there)).1

was_kept : (b : TripleSet) (p : Triple → Bool) (u : Triple) → set.contains (set.retain b p) u ≡ true → set.contains b u ≡ true
was_kept b p u there = (and_parts (set.contains b u) (p u) (sym (contains-retain-triple b p u) ∙ there)).0

-- who gets a permission gets it from one that controls the object
abbrev Permitted : State → ℕ → Triple → Type 0
Permitted v s t = (set.contains v.matrix t ≡ true) ⊎ (controls v s t.1 ≡ true)

change_matrix : (v : State) (s : ℕ) (a : Action) (t : Triple) → AllHold (conditions v s a) → set.contains (change v s a).matrix t ≡ true → Permitted v s t
change_matrix v s (Get x o) t holds there = inl there
change_matrix v s (Release x o) t holds there = inl there
change_matrix v s (Give x r o) t holds there = from (was_or_is v.matrix (r, o, x) t there) where
  from : (set.contains v.matrix t ≡ true) ⊎ (t ≡ (r, o, x)) → Permitted v s t
  from (inl was) = inl was
  from (inr is) = inr (ap (λ (u : Triple). controls v s u.1) is ∙ holds.0)
change_matrix v s (Rescind x r o) t holds there = inl (was_left v.matrix (r, o, x) t there)
change_matrix v s (Create p l i) t holds there = inl there
change_matrix v s (Delete o) t holds there = inl (was_kept v.matrix (λ u. stays v o u.1) t there)
change_matrix v s (SubjectLevel l) t holds there = inl there
change_matrix v s (ObjectLevel o l) t holds there = inl there

pub after_matrix : (v : State) (r : Request) (t : Triple) → set.contains (after v r).matrix t ≡ true → Permitted v r.subject t
after_matrix v r t =
    by_reply (λ w. set.contains w.matrix t ≡ true → Permitted v r.subject t) v r (λ there. inl there)
    (λ is there. change_matrix v r.subject r.action t ((granted_from v r is).1) there)

-- who gets an access asked for it
abbrev Held : State → ℕ → Triple → Type 0
Held v s t = (set.contains v.accesses t ≡ true) ⊎ (t.0 ≡ s)

change_accesses : (v : State) (s : ℕ) (a : Action) (t : Triple) → set.contains (change v s a).accesses t ≡ true → Held v s t
change_accesses v s (Get x o) t there = from (was_or_is v.accesses (s, o, x) t there) where
  from : (set.contains v.accesses t ≡ true) ⊎ (t ≡ (s, o, x)) → Held v s t
  from (inl was) = inl was
  from (inr is) = inr (ap (λ (u : Triple). u.0) is)
change_accesses v s (Release x o) t there = inl (was_left v.accesses (s, o, x) t there)
change_accesses v s (Give x r o) t there = inl there
change_accesses v s (Rescind x r o) t there = inl (was_left v.accesses (r, o, x) t there)
change_accesses v s (Create p l i) t there = inl there
change_accesses v s (Delete o) t there = inl (was_kept v.accesses (λ u. stays v o u.1) t there)
change_accesses v s (SubjectLevel l) t there = inl there
change_accesses v s (ObjectLevel o l) t there = inl there

pub after_accesses : (v : State) (r : Request) (t : Triple) → set.contains (after v r).accesses t ≡ true → Held v r.subject t
after_accesses v r t =
    by_reply (λ w. set.contains w.accesses t ≡ true → Held v r.subject t) v r (λ there. inl there)
    (λ is there. change_accesses v r.subject r.action t there)

-- an object that stays keeps its parent
change_parent : (v : State) (s : ℕ) (a : Action) (o : ℕ) → HasTree v → AllHold (conditions v s a) → is_active v o ≡ true → is_active (change v s a) o ≡ true
    → map.get (change v s a).parent o ≡ map.get v.parent o
change_parent v s (Get x q) o h holds active there = refl
change_parent v s (Release x q) o h holds active there = refl
change_parent v s (Give x t q) o h holds active there = refl
change_parent v s (Rescind x t q) o h holds active there = refl
change_parent v s (Create p l i) o h (authority, (compatible, (integrity, (room, u)))) active there =
    elsewhere v.parent v.next p o (not_new v o h active room)
change_parent v s (Delete q) o h holds active there =
    at_kept v.parent (stays v q) o ((and_parts (is_active v o) (stays v q o) (sym (has-kept v.object_label (stays v q) o) ∙ there)).1)
change_parent v s (SubjectLevel l) o h holds active there = refl
change_parent v s (ObjectLevel q l) o h holds active there = refl

pub after_parent : (v : State) (r : Request) (o : ℕ) → HasTree v → is_active v o ≡ true → is_active (after v r) o ≡ true
    → map.get (after v r).parent o ≡ map.get v.parent o
after_parent v r o h active =
    by_reply (λ w. is_active w o ≡ true → map.get w.parent o ≡ map.get v.parent o) v r (λ there. refl)
    (λ is there. change_parent v r.subject r.action o h ((granted_from v r is).1) active there)

-- a release changes nothing but accesses
pub after_release : (v : State) (r : Request) (x : Mode) (o : ℕ) → r.action ≡ Release x o → (b : TripleSet) × (after v r ≡ record v { accesses = b })
after_release v r x o is =
    by_reply (λ w. (b : TripleSet) × (w ≡ record v { accesses = b })) v r (v.accesses, refl)
    (λ granted. subst (λ a. (b : TripleSet) × (change v r.subject a ≡ record v { accesses = b })) (sym is) (set.remove v.accesses (r.subject, o, x), refl))
