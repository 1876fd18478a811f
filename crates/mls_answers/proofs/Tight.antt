-- Starts without the permissions that were never granted.
use Rattle.std.proofs.Common.{◌≡◌, ℕ, ◌+◌, ◌<◌, Bool, true, false, List, [], ◌∷◌, ◌++◌, length, get_or, take, Result, Ok, Err, refl, sym, ap, subst, ◌∙◌, inl}
use Rattle.std.specs.Prelude.{not, ◌&&◌, ◌||◌, IfOk, IfErr, string_bytes}
use Rattle.std.specs.FinSet as set
use Rattle.std.specs.List.{list_any}
use Rattle.std.proofs.lemmas.List.{take_more}
use Rattle.std.proofs.lemmas.List.Folds.{list_any-append}
use Rattle.mls_lines.specs.Names.{Names}
use Rattle.mls_replay.specs.Replays.{Replayed}
use Rattle.mls_replay.specs.declared.command.CommandFault.TheVariants.{Memory}
use Rattle.mls_replay.specs.declared.question_fault.QuestionFault.{QuestionFault}
use Rattle.mls_replay.specs.declared.question_fault.QuestionFault.TheVariants.{Files}
use Rattle.mls_snapshots.specs.Starts.{IsStartBy}
use Rattle.mls_snapshots.specs.declared.state_start.StateStart.{StateStart}
use Rattle.mls_spans.specs.Asked.{Choice, Words, IsChosen}
use Rattle.mls_spans.specs.Listings.{RefusesNames}
use Rattle.mls_spans.specs.declared.states.States.{States}
use Rattle.mls_spans.specs.declared.usage.Usage.{Usage}
use Rattle.mls_state.specs.State.{State, is_active, is_subject}
use Rattle.mls_state.specs.Properties.{HasTree}
use Rattle.mls_state.specs.declared.table.Table.TheVariants.{Matrix}
use Rattle.mls_state.proofs.Laws.{inactive_object, unknown_subject}
use Rattle.mls_tables.specs.Triples.{Triple, TripleSet, is_triple}
use Rattle.mls_tables.specs.declared.mode.Mode.{Mode}
use Rattle.mls_tables.proofs.Laws.{contains-remove-triple, is_triple-true, same_triples}
use Rattle.mls_answers.specs.Starts.{RefusesStart}
use Rattle.mls_answers.specs.Tightening.{IsTightened, IsTightStart, RefusesTight, Tightens, is_among, is_left_out, unused_seen}
use Rattle.mls_answers.specs.declared.snapshot_fault.SnapshotFault.{SnapshotFault}
use Rattle.mls_answers.specs.declared.snapshot_fault.SnapshotFault.TheVariants.{Question, TooLong, Differs}

-- the state of what a filter asks for
pub tight_start : (r : Replayed) (states : States) (words : Words) (c : Choice) (result : Result State QuestionFault) → IsChosen r.names words c
    → IfOk result (λ w. IsTightened (unused_seen r c states) r.start w) → IfOk result (λ w. IsTightStart r states words w)
tight_start r states words c (Ok w) chosen tightened = record { choice = c; chosen = chosen; tightened = tightened }
tight_start r states words c (Err fault) chosen tightened = tt

pub refuses_memory : (names : Names) (words : Words) (result : Result State QuestionFault) → IfErr result (λ fault. fault ≡ Files Memory)
    → IfErr result (λ fault. RefusesNames names words fault)
refuses_memory names words (Ok w) memory = tt
refuses_memory names words (Err fault) memory = inl memory

-- a start file of such a state, and why there is none
pub tight_tells : (r : Replayed) (states : States) (words : Words) (w : State) (result : Result StateStart SnapshotFault)
    → IsTightStart r states words w → IfOk result (λ made. IsStartBy r.names w made.order.items (string_bytes made.text))
    → IfOk result (λ made. Tightens r states words made.order.items (string_bytes made.text))
tight_tells r states words w (Ok made) tight by = (w, tight, by)
tight_tells r states words w (Err fault) tight by = tt

tight_refuses : (r : Replayed) (states : States) (words : Words) (w : State) (fault : SnapshotFault) → IsTightStart r states words w
    → RefusesStart r.names w fault → RefusesTight r states words fault
tight_refuses r states words w (Question cause) tight why = inl why
tight_refuses r states words w TooLong tight why = (w, tight, why)
tight_refuses r states words w Differs tight why = tt

pub tight_refused : (r : Replayed) (states : States) (words : Words) (w : State) (result : Result StateStart SnapshotFault)
    → IsTightStart r states words w → IfErr result (λ fault. RefusesStart r.names w fault) → IfErr result (λ fault. RefusesTight r states words fault)
tight_refused r states words w (Ok made) tight why = tt
tight_refused r states words w (Err fault) tight why = tight_refuses r states words w fault tight why

and_true : (m : Bool) → m ≡ (m && true)
and_true true = refl
and_true false = refl

and_false : (m : Bool) → (m && false) ≡ false
and_false true = refl
and_false false = refl

-- a triple that isn't there, or that is held, or neither
absent : (same m a : Bool) → (same ≡ true → m ≡ false) → m ≡ (m && not (same && not a))
absent true m a none = none refl ∙ sym (ap (λ x. x && not (true && not a)) (none refl))
absent false m a none = and_true m

kept : (same m a : Bool) → (same ≡ true → a ≡ true) → m ≡ (m && not (same && not a))
kept true m a held = and_true m ∙ sym (ap (λ x. m && not (true && not x)) (held refl))
kept false m a held = and_true m

removed : (same m a : Bool) → (same ≡ true → a ≡ false) → (not same && m) ≡ (m && not (same && not a))
removed true m a free = sym (ap (λ x. m && not (true && not x)) (free refl) ∙ and_false m)
removed false m a free = and_true m

-- what one triple comes to, of another
of_same : (b : TripleSet) (t u : Triple) (there : Bool) → set.contains b t ≡ there → is_triple u t ≡ true → set.contains b u ≡ there
of_same b t u there is same = ap (λ (x : Triple). set.contains b x) (is_triple-true u t same) ∙ is

-- without a triple that isn't there nothing changes
remove_absent : (b : TripleSet) (t : Triple) → set.contains b t ≡ false → set.remove b t ≡ b
remove_absent b t none = same_triples (set.remove b t) b (λ u. contains-remove-triple b t u ∙ gone u (is_triple u t) refl) where
  gone : (u : Triple) (same : Bool) → is_triple u t ≡ same → (not same && set.contains b u) ≡ set.contains b u
  gone u true is = sym (of_same b t u false none is)
  gone u false is = refl

module _ (v : State) (s o : ℕ) (x : Mode) where
  -- a cell of a subject that isn't known, or an object that isn't active, isn't there
  pub unknown_stays : HasTree v → is_subject v s ≡ false → (t : Triple)
      → set.contains v.matrix t ≡ (set.contains v.matrix t && not (is_triple t (s, o, x) && not (set.contains v.accesses t)))
  unknown_stays tree unknown t =
      absent (is_triple t (s, o, x)) (set.contains v.matrix t) (set.contains v.accesses t)
      (of_same v.matrix (s, o, x) t false (unknown_subject Matrix v s o x tree unknown))

  pub inactive_stays : HasTree v → is_active v o ≡ false → (t : Triple)
      → set.contains v.matrix t ≡ (set.contains v.matrix t && not (is_triple t (s, o, x) && not (set.contains v.accesses t)))
  inactive_stays tree inactive t =
      absent (is_triple t (s, o, x)) (set.contains v.matrix t) (set.contains v.accesses t)
      (of_same v.matrix (s, o, x) t false (inactive_object Matrix v s o x tree inactive))

  -- one that is held stays
  pub held_stays : set.contains v.accesses (s, o, x) ≡ true → (t : Triple)
      → set.contains v.matrix t ≡ (set.contains v.matrix t && not (is_triple t (s, o, x) && not (set.contains v.accesses t)))
  held_stays held t =
      kept (is_triple t (s, o, x)) (set.contains v.matrix t) (set.contains v.accesses t) (of_same v.accesses (s, o, x) t true held)

  -- any other is left out, and nothing else
  pub left_rest : (w : State) → set.contains v.accesses (s, o, x) ≡ false
      → w ≡ record v { matrix = set.remove v.matrix (s, o, x); accesses = set.remove v.accesses (s, o, x) }
      → w ≡ record v { matrix = w.matrix }
  left_rest w free is =
      let tables : w ≡ record v { matrix = set.remove v.matrix (s, o, x) } =
      is ∙ ap (λ (b : TripleSet). record v { matrix = set.remove v.matrix (s, o, x); accesses = b }) (remove_absent v.accesses (s, o, x) free) in
      tables ∙ sym (ap (λ (u : State). record v { matrix = u.matrix }) tables)

  pub left_cells : (w : State) → set.contains v.accesses (s, o, x) ≡ false
      → w ≡ record v { matrix = set.remove v.matrix (s, o, x); accesses = set.remove v.accesses (s, o, x) } → (t : Triple)
      → set.contains w.matrix t ≡ (set.contains v.matrix t && not (is_triple t (s, o, x) && not (set.contains v.accesses t)))
  left_cells w free is t =
      ap (λ (u : State). set.contains u.matrix t) is ∙ contains-remove-triple v.matrix (s, o, x) t
      ∙ removed (is_triple t (s, o, x)) (set.contains v.matrix t) (set.contains v.accesses t) (of_same v.accesses (s, o, x) t false free)

-- two tests after each other are one
both_tests : (m p q c : Bool) → ((m && not (p && not c)) && not (q && not c)) ≡ (m && not ((p || q) && not c))
both_tests false p q c = refl
both_tests true true q true = case_of q where
  case_of : (q : Bool) → (true && not (q && not true)) ≡ true
  case_of true = refl
  case_of false = refl
both_tests true true q false = refl
both_tests true false true true = refl
both_tests true false true false = refl
both_tests true false false c = refl

module _ (v : State) (unused : List Usage) where
  -- nothing is left out so far
  pub tight_none : IsTightened [] v v
  tight_none = record { rest = refl; cells = λ t. and_true (set.contains v.matrix t) }

  among_more : (n : ℕ) (u : Usage) (t : Triple) → n < length unused → u ≡ get_or unused n u
      → is_among (take (n + 1) unused) t ≡ (is_among (take n unused) t || is_triple t u.access)
  among_more n u t below is =
      ap (λ us. is_among us t) (take_more unused n u below ∙ ap (λ x. take n unused ++ x ∷ []) (sym is))
      ∙ list_any-append (λ x. is_triple t x.access) (take n unused) (u ∷ []) ∙ ap (λ b. is_among (take n unused) t || b) (or_false (is_triple t u.access)) where
        or_false : (b : Bool) → (b || false) ≡ b
        or_false true = refl
        or_false false = refl

  -- one permission more
  pub tight_more : (n : ℕ) (u : Usage) (now new : State) → n < length unused → u ≡ get_or unused n u → IsTightened (take n unused) v now
      → new ≡ record now { matrix = new.matrix }
      → ((t : Triple) → set.contains new.matrix t ≡ (set.contains now.matrix t && not (is_triple t u.access && not (set.contains now.accesses t))))
      → IsTightened (take (n + 1) unused) v new
  tight_more n u now new below is so_far rest cells = record {
    rest = rest ∙ ap (λ (x : State). record x { matrix = new.matrix }) so_far.rest;
    cells = λ t.
        cells t
        ∙ (λ i. so_far.cells t i && not (is_triple t u.access && not (set.contains (accesses_same i) t)))
        ∙ both_tests (set.contains v.matrix t) (is_among (take n unused) t) (is_triple t u.access) (set.contains v.accesses t)
        ∙ ap (λ b. set.contains v.matrix t && not (b && not (set.contains v.accesses t))) (sym (among_more n u t below is));
  } where
    accesses_same : now.accesses ≡ v.accesses
    accesses_same = ap (λ (x : State). x.accesses) so_far.rest
