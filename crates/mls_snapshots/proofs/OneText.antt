-- Over one start, states that have one text are one.
use Rattle.std.proofs.Common.{◌≡◌, ℕ, ◌<◌, ◌≤◌, ◌^◌, Bool, true, false, List, [], ◌∷◌, length, Option, Some, None, refl, sym, ap, subst, ◌∙◌, arith, inl, inr}
use Rattle.std.proofs.lemmas.Bool.Decides.{nat_tests}
use Rattle.std.specs.Prelude.{nat_lt, is_some, IfSome, IsTrue}
use Rattle.std.specs.Cmp.{nat_cmp_total}
use Rattle.std.specs.Ordering.{nat_cmp}
use Rattle.std.specs.FinMap as maps
use Rattle.std.specs.FinMap.{FinMap, same_map}
use Rattle.std.specs.FinSet as set
use Rattle.std.specs.FinSet.{nat_cmp-IsAntisymmetric}
use Rattle.std.proofs.lemmas.Bool.{and_parts}
use Rattle.mls_labels.specs.Label.{Label, Bounds, has_label}
use Rattle.mls_labels.specs.Scheme.{IsScheme, bounds_of}
use Rattle.mls_lines.specs.Names.{Names}
use Rattle.mls_start_file.specs.Ties.{AreTied, HasFewNames}
use Rattle.mls_state.specs.State.{State, is_subject, is_active}
use Rattle.mls_state.specs.Tables.{triples_of}
use Rattle.mls_state.specs.declared.table.Table.{Table}
use Rattle.mls_state.specs.declared.table.Table.TheVariants.{Matrix, Accesses}
use Rattle.mls_tables.specs.declared.limits.TheConstants.{MAX_SUBJECTS, MAX_OBJECTS}
use Rattle.mls_tables.specs.declared.mode.Mode.{Mode}
use Rattle.mls_tables.proofs.Laws.{same_triples}
use Rattle.mls_wording.specs.ReadBack.{HasNames, IsOf}
use Rattle.mls_wording.proofs.Laws.{WrittenLaw, OneLaw}
use Rattle.mls_snapshots.specs.Reading.{IsOver}
use Rattle.mls_snapshots.specs.States.{state_text}
use Rattle.mls_snapshots.proofs.Rows.{Row, Kind, Next, Subject, Object, Triple, Fits, AllFit, ModeLaw, rows_alike}
use Rattle.mls_snapshots.proofs.RowsOf.{rows_of, state_joined}
use Rattle.mls_snapshots.proofs.RowsSay.{IsRowOf, Each, each_row, In, in_each, subject_in, object_in, triple_in}

-- what is there in a table
there : {X : Type 0} (o : Option X) → is_some o ≡ true → (x : X) × (o ≡ Some x)
there None is = cc
there (Some x) is = (x, refl)

-- maps of which each has what the other has are one
maps_alike : {X : Type 0} (m n : FinMap nat_cmp X) → ((q : ℕ) (x : X) → maps.get m q ≡ Some x → maps.get n q ≡ Some x) → ((q : ℕ) (x : X) → maps.get n q ≡ Some x → maps.get m q ≡ Some x) → m ≡ n
maps_alike {X} m n to back = same_map nat_cmp_total nat_cmp-IsAntisymmetric m n (λ q. from q (maps.get m q) refl (maps.get n q) refl) where
  from : (q : ℕ) (a : Option X) → maps.get m q ≡ a → (b : Option X) → maps.get n q ≡ b → maps.get m q ≡ maps.get n q
  from q None e None f = e ∙ sym f
  from q None e (Some y) f = back q y f ∙ sym f
  from q (Some x) e b f = e ∙ sym (to q x e)

tests_alike : (a b : Bool) → (a ≡ true → b ≡ true) → (b ≡ true → a ≡ true) → a ≡ b
tests_alike true b to back = sym (to refl)
tests_alike false true to back = back refl
tests_alike false false to back = refl

pub from_some : {X : Type 0} (P : X → Type 0) (o : Option X) (x : X) → o ≡ Some x → IfSome o P → P x
from_some {X} P o x is holds = subst (λ (q : Option X). IfSome q P) is holds

module _ (names : Names) (start : State) (tied : AreTied names start) (few : HasFewNames names) where
  -- the bounds of states over the start are those of the schemes
  pub security_is : (v : State) → IsOver start v → v.security ≡ bounds_of names.security
  security_is v over = over.start.security ∙ tied.security

  pub integrity_is : (v : State) → IsOver start v → v.integrity ≡ bounds_of names.integrity
  integrity_is v over = over.start.integrity ∙ tied.integrity

  pub in_security : (v : State) → IsOver start v → (l : Label) → has_label v.security l ≡ true → IsOf names.security l
  in_security v over l has = ap (λ (b : Bounds). has_label b l) (sym (security_is v over)) ∙ has

  pub in_integrity : (v : State) → IsOver start v → (l : Label) → has_label v.integrity l ≡ true → IsOf names.integrity l
  in_integrity v over l has = ap (λ (b : Bounds). has_label b l) (sym (integrity_is v over)) ∙ has

  -- their subjects are those of the start
  pub known_few : (v : State) → IsOver start v → (s : ℕ) → is_subject v s ≡ true → s < MAX_SUBJECTS
  known_few v over s known =
      let same : nat_lt s (length names.subjects) ≡ true = sym (tied.known s) ∙ ap (λ m. maps.contains_key m s) (sym over.start.subjects.maximum) ∙ known in
      let below : s < length names.subjects = grind (arith, nat_tests, same) in
      let many : length names.subjects ≤ MAX_SUBJECTS = few.subjects in
      omega (arith, below, many)

  pub active_few : (v : State) → IsOver start v → (o : ℕ) → is_active v o ≡ true → o < MAX_OBJECTS
  active_few v over o active = over.tree.objects.below o active

  -- rows of such a state fit
  parent_fits : (v : State) → IsOver start v → (o : ℕ) (p : Option ℕ) → maps.get v.parent o ≡ p → IfSome p (λ q. q < 2 ^ 16)
  parent_fits v over o None e = tt
  parent_fits v over o (Some q) e =
      let below : q < 4096 = active_few v over q (over.tree.objects.children_active o q e).1 in
      omega (arith, below)

  pub known_triple : (v : State) → IsOver start v → (table : Table) (s o : ℕ) (x : Mode) → set.contains (triples_of table v) (s, o, x) ≡ true → (is_subject v s ≡ true) × (is_active v o ≡ true)
  known_triple v over Matrix s o x is = and_parts (is_subject v s) (is_active v o) (over.tree.matrix_known (s, o, x) is)
  known_triple v over Accesses s o x is = and_parts (is_subject v s) (is_active v o) (over.tree.accesses_known (s, o, x) is)

  fits : (v : State) → IsOver start v → (row : Row) → IsRowOf v row → Fits names row
  fits v over (Kind p) is = tt
  fits v over (Next n) is =
      let small : v.next ≤ 4096 = over.tree.next.few in
      omega (arith, is, small)
  fits v over (Subject s m c i t) is =
      let within = over.labels.subjects s in
      let below : s < 256 = known_few v over s (ap is_some is.0) in (
        omega (arith, below),
        in_security v over m (from_some (λ l. IsTrue (has_label v.security l)) (maps.get v.maximum s) m is.0 within.maximum),
        in_security v over c (from_some (λ l. IsTrue (has_label v.security l)) (maps.get v.current s) c is.1 within.current),
        in_integrity v over i (from_some (λ l. IsTrue (has_label v.integrity l)) (maps.get v.subject_integrity s) i is.2 within.integrity),
      )
  fits v over (Object o l i p) is =
      let within = over.labels.objects o in
      let below : o < 4096 = active_few v over o (ap is_some is.0) in (
        omega (arith, below),
        in_security v over l (from_some (λ k. IsTrue (has_label v.security k)) (maps.get v.object_label o) l is.0 within.security),
        in_integrity v over i (from_some (λ k. IsTrue (has_label v.integrity k)) (maps.get v.object_integrity o) i is.1 within.integrity),
        parent_fits v over o p is.2,
      )
  fits v over (Triple table s o x) is =
      let known = known_triple v over table s o x is in
      let subject : s < 256 = known_few v over s known.0 in
      let object : o < 4096 = active_few v over o known.1 in
      (omega (arith, subject), omega (arith, object))

  all_fit : (v : State) → IsOver start v → (rows : List Row) → Each (IsRowOf v) rows → AllFit names rows
  all_fit v over [] each = tt
  all_fit v over (row ∷ rows) each = (fits v over row each.0, all_fit v over rows each.1)

  -- what is in one state of which all rows are another's is in the other
  module _ (v w : State) (over : IsOver start v) (same : rows_of v ≡ rows_of w) where
    carried : (row : Row) → In row (rows_of v) → IsRowOf w row
    carried row here = in_each (IsRowOf w) row (rows_of w) (each_row w) (subst (In row) same here)

    subject_carried : (s : ℕ) (c : Label) → maps.get v.current s ≡ Some c → maps.get w.current s ≡ Some c
    subject_carried s c e =
        let known : is_subject v s ≡ true = sym (over.whole.current s) ∙ ap is_some e in
        let maximum = there (maps.get v.maximum s) known in
        let own = there (maps.get v.subject_integrity s) (over.whole.subject_integrity s ∙ known) in
        (carried (Subject s maximum.0 c own.0 (set.contains v.trusted s)) (subject_in v s maximum.0 c own.0 (known_few v over s known) maximum.1 e own.1)).1

    -- the row of an active object
    object_carried : (o : ℕ) → is_active v o ≡ true → (l i : Label) × (maps.get v.object_label o ≡ Some l) × (maps.get v.object_integrity o ≡ Some i) × IsRowOf w (Object o l i (maps.get v.parent o))
    object_carried o active =
        let label = there (maps.get v.object_label o) active in
        let own = there (maps.get v.object_integrity o) (over.whole.object_integrity o ∙ active) in
        (label.0, own.0, label.1, own.1, carried (Object o label.0 own.0 (maps.get v.parent o)) (object_in v o label.0 own.0 (active_few v over o active) label.1 own.1))

    label_carried : (o : ℕ) (l : Label) → maps.get v.object_label o ≡ Some l → maps.get w.object_label o ≡ Some l
    label_carried o l e = let row = object_carried o (ap is_some e) in row.4.0 ∙ sym row.2 ∙ e

    own_carried : (o : ℕ) (i : Label) → maps.get v.object_integrity o ≡ Some i → maps.get w.object_integrity o ≡ Some i
    own_carried o i e =
        let active : is_active v o ≡ true = sym (over.whole.object_integrity o) ∙ ap is_some e in
        let row = object_carried o active in
        row.4.1 ∙ sym row.3 ∙ e

    parent_carried : (o p : ℕ) → maps.get v.parent o ≡ Some p → maps.get w.parent o ≡ Some p
    parent_carried o p e =
        let row = object_carried o (over.tree.objects.children_active o p e).0 in
        row.4.2 ∙ e

    triple_carried : (table : Table) (s o : ℕ) (x : Mode) → set.contains (triples_of table v) (s, o, x) ≡ true → set.contains (triples_of table w) (s, o, x) ≡ true
    triple_carried table s o x is =
        let known = known_triple v over table s o x is in
        carried (Triple table s o x) (triple_in v table s o x (known_few v over s known.0) (active_few v over o known.1) is)

    kind_carried : v.profile ≡ w.profile
    kind_carried = let h : v.profile ≡ w.profile = carried (Kind v.profile) (inl refl) in h

    next_carried : v.next ≡ w.next
    next_carried = let h : v.next ≡ w.next = carried (Next v.next) (inr (inl refl)) in h

  tables_alike : (table : Table) (v w : State) → IsOver start v → IsOver start w → rows_of v ≡ rows_of w → triples_of table v ≡ triples_of table w
  tables_alike table v w over other same = same_triples (triples_of table v) (triples_of table w) (λ t.
      tests_alike (set.contains (triples_of table v) t) (set.contains (triples_of table w) t)
      (triple_carried v w over same table t.0 t.1 t.2) (triple_carried w v other (sym same) table t.0 t.1 t.2))

  -- states with the same rows are one
  states_alike : (v w : State) → IsOver start v → IsOver start w → rows_of v ≡ rows_of w → v ≡ w
  states_alike v w over other same =
      let accesses : v.accesses ≡ w.accesses = tables_alike Accesses v w over other same in
      let matrix : v.matrix ≡ w.matrix = tables_alike Matrix v w over other same in
      let current : v.current ≡ w.current = maps_alike v.current w.current (subject_carried v w over same) (subject_carried w v other (sym same)) in
      let label : v.object_label ≡ w.object_label = maps_alike v.object_label w.object_label (label_carried v w over same) (label_carried w v other (sym same)) in
      let own : v.object_integrity ≡ w.object_integrity = maps_alike v.object_integrity w.object_integrity (own_carried v w over same) (own_carried w v other (sym same)) in
      let parent : v.parent ≡ w.parent = maps_alike v.parent w.parent (parent_carried v w over same) (parent_carried w v other (sym same)) in
      let maximum : v.maximum ≡ w.maximum = over.start.subjects.maximum ∙ sym other.start.subjects.maximum in
      let trust : v.trusted ≡ w.trusted = over.start.subjects.trusted ∙ sym other.start.subjects.trusted in
      let integrity : v.subject_integrity ≡ w.subject_integrity = over.start.subjects.integrity ∙ sym other.start.subjects.integrity in
      let bounds : v.security ≡ w.security = over.start.security ∙ sym other.start.security in
      let trusts : v.integrity ≡ w.integrity = over.start.integrity ∙ sym other.start.integrity in
      (λ i. record {
        accesses = accesses i;
        matrix = matrix i;
        maximum = maximum i;
        current = current i;
        subject_integrity = integrity i;
        trusted = trust i;
        object_label = label i;
        object_integrity = own i;
        parent = parent i;
        profile = kind_carried v w over same i;
        next = next_carried v w over same i;
        security = bounds i;
        integrity = trusts i;
      })

  pub one_state : HasNames names → WrittenLaw → OneLaw → ModeLaw → IsScheme names.security → IsScheme names.integrity
      → (v w : State) → IsOver start v → IsOver start w → state_text names v ≡ state_text names w → v ≡ w
  one_state has spelled one modes security integrity v w over other same =
      states_alike v w over other
      (rows_alike names has spelled one modes security integrity (rows_of v) (rows_of w)
      (all_fit v over (rows_of v) (each_row v)) (all_fit w other (rows_of w) (each_row w))
      (sym (state_joined names v) ∙ same ∙ state_joined names w))
