-- Rows with which nothing is wrong: what is so of them, and that their opening is secure.
use Rattle.std.proofs.Common.{◌≡◌, ℕ, zero, suc, ◌+◌, ◌<◌, ◌≤◌, Bool, true, false, not, ◌&&◌, List, [], ◌∷◌, length, map, Option, Some, None, refl, sym, ap, subst, ◌∙◌, arith, nat_lt, get_or}
use Rattle.std.specs.Prelude.{◌==◌, if◌then◌else◌, IsTrue, slice_get, option_and_then, option_map}
use Rattle.std.specs.List.{list_all}
use Rattle.std.proofs.lemmas.Bool.{and_from, and_parts}
use Rattle.std.proofs.lemmas.Bool.Decides.{nat_tests}
use Rattle.std.proofs.lemmas.Option.{slice_get_within, slice_get-map}
use Rattle.std.specs.FinMap as map
use Rattle.std.specs.FinSet as set
use Rattle.mls_facts.specs.Each.{each}
use Rattle.mls_facts.specs.Numbered.{holds_of}
use Rattle.mls_facts.proofs.Each.{each-contains}
use Rattle.mls_facts.proofs.Numbered.{get-numbered}
use Rattle.mls_labels.specs.Label.{Label, dominates}
use Rattle.mls_tables.specs.Triples.{Triple, TripleSet, triple_cmp}
use Rattle.mls_tables.specs.declared.limits.TheConstants.{MAX_SUBJECTS, MAX_OBJECTS}
use Rattle.mls_tables.proofs.Laws.{triples_total, same_triple}
use Rattle.mls_tree.specs.Tree.{IsTree, Reaches, IsNextOf}
use Rattle.mls_tree.specs.declared.profile.Profile.{Profile}
use Rattle.mls_tree.specs.declared.profile.Profile.TheVariants.{One, Two}
use Rattle.mls_facts.proofs.Least.{least_failing-is}
use Rattle.mls_tree.specs.Tree.Reaches.{here, up}
use Rattle.mls_state.specs.declared.subject.Subject.{Subject}
use Rattle.mls_state.specs.declared.subject.ObjectLabels.{ObjectLabels}
use Rattle.mls_start.specs.declared.object_row.ObjectRow.{ObjectRow}
use Rattle.mls_state.specs.declared.start_fault.StartFault.{StartFault}
use Rattle.mls_state.specs.declared.start_fault.StartFault.TheVariants.{NoSubjects, TooManySubjects, TooManyObjects, BadLabel, BadParent, CurrentAboveMaximum, NotCompatible, IntegrityAboveParent, NoSuchCell, NotSecure}
use Rattle.mls_state.specs.State.{State, is_subject, is_active, is_above}
use Rattle.mls_state.specs.Properties.{Each, IsSecure, compatible_holds, is_known, simple_holds, star_holds, discretionary_holds, integrity_holds}
use Rattle.mls_state.specs.Audit.{access_holds}
use Rattle.mls_start.specs.Rows.{Rows, object_count, labels_of, parents_of, opening}
use Rattle.mls_start.specs.StartFaults.{start_fault, labels_fit, parents_before, current_fits, security_fits, integrity_fits, is_cell, has_known_accesses}
use Rattle.mls_state.specs.First.{first_state}
use Rattle.mls_start.specs.Growing.{with_rows}
use Rattle.mls_state.proofs.Laws.{at-from_Each}
use Rattle.mls_start.proofs.Opening.{active_opening, subject_opening, opened}
use Rattle.mls_start.proofs.Secured.{item_at}

-- what is so of rows with which nothing is wrong
pub record Faultless (rows : Rows) : Type 0 where
  pub some : 1 ≤ length rows.subjects
  pub few : length rows.subjects ≤ MAX_SUBJECTS
  pub room : object_count rows ≤ MAX_OBJECTS
  pub labels : labels_fit rows ≡ true
  pub parents : parents_before 1 rows.objects ≡ true
  pub currents : list_all current_fits rows.subjects ≡ true
  pub security : list_all (security_fits (labels_of rows)) rows.objects ≡ true
  pub integrity : list_all (integrity_fits (labels_of rows)) rows.objects ≡ true
  pub cells : each rows.cells (is_cell (length rows.subjects) (object_count rows)) ≡ true
  pub accesses : has_known_accesses rows ≡ true
  pub secure : each rows.accesses (access_holds (opening rows)) ≡ true

-- a test that leads to a fault fails where there is none
passed : (b : Bool) (fault : StartFault) (rest : Option StartFault) → (if b then Some fault else rest) ≡ None → (b ≡ false) × (rest ≡ None)
passed true fault rest none = cc
passed false fault rest none = (refl, none)

held : (b : Bool) → not b ≡ false → b ≡ true
held true h = refl
held false h = cc

pub faultless : (rows : Rows) → start_fault rows ≡ None → Faultless rows
faultless rows none =
    let some = passed (length rows.subjects == 0) NoSubjects _ none in
    let few = passed (nat_lt MAX_SUBJECTS (length rows.subjects)) TooManySubjects _ some.1 in
    let room = passed (nat_lt MAX_OBJECTS (object_count rows)) TooManyObjects _ few.1 in
    let labels = passed (not (labels_fit rows)) BadLabel _ room.1 in
    let parents = passed (not (parents_before 1 rows.objects)) BadParent _ labels.1 in
    let currents = passed (not (list_all current_fits rows.subjects)) CurrentAboveMaximum _ parents.1 in
    let security = passed (not (list_all (security_fits (labels_of rows)) rows.objects)) NotCompatible _ currents.1 in
    let integrity = passed (not (list_all (integrity_fits (labels_of rows)) rows.objects)) IntegrityAboveParent _ security.1 in
    let cells = passed (not (each rows.cells (is_cell (length rows.subjects) (object_count rows)))) NoSuchCell _ integrity.1 in
    let accesses = passed (not (has_known_accesses rows)) NoSuchCell _ cells.1 in
    let secure = passed (not (each rows.accesses (access_holds (opening rows)))) NotSecure None accesses.1 in
    record {
      some = grind (arith, nat_tests, some.0);
      few = grind (arith, nat_tests, few.0);
      room = grind (arith, nat_tests, room.0);
      labels = held (labels_fit rows) labels.0;
      parents = held (parents_before 1 rows.objects) parents.0;
      currents = held (list_all current_fits rows.subjects) currents.0;
      security = held (list_all (security_fits (labels_of rows)) rows.objects) security.0;
      integrity = held (list_all (integrity_fits (labels_of rows)) rows.objects) integrity.0;
      cells = held (each rows.cells (is_cell (length rows.subjects) (object_count rows))) cells.0;
      accesses = held (has_known_accesses rows) accesses.0;
      secure = held (each rows.accesses (access_holds (opening rows))) secure.0;
    }

past : (b : Bool) (fault : StartFault) (rest : Option StartFault) → b ≡ false → rest ≡ None → (if b then Some fault else rest) ≡ None
past b fault rest fails none = rw fails none

unless : (b : Bool) (fault : StartFault) (rest : Option StartFault) → b ≡ true → rest ≡ None → (if not b then Some fault else rest) ≡ None
unless b fault rest holds none = rw holds none

-- with rows of which all this is so nothing is wrong
pub from_faultless : (rows : Rows) → Faultless rows → start_fault rows ≡ None
from_faultless rows h =
    let some : (length rows.subjects == 0) ≡ false = grind (arith, nat_tests, h.some) in
    let few : nat_lt MAX_SUBJECTS (length rows.subjects) ≡ false = grind (arith, nat_tests, h.few) in
    let room : nat_lt MAX_OBJECTS (object_count rows) ≡ false = grind (arith, nat_tests, h.room) in
    past _ NoSubjects _ some
    (past _ TooManySubjects _ few
    (past _ TooManyObjects _ room
    (unless _ BadLabel _ h.labels
    (unless _ BadParent _ h.parents
    (unless _ CurrentAboveMaximum _ h.currents
    (unless _ NotCompatible _ h.security
    (unless _ IntegrityAboveParent _ h.integrity
    (unless _ NoSuchCell _ h.cells
    (unless _ NoSuchCell _ h.accesses
    (unless _ NotSecure _ h.secure refl))))))))))

-- what all items pass, one passes
all_at : {X : Type 0} (p : X → Bool) (xs : List X) → list_all p xs ≡ true → (k : ℕ) (x : X) → slice_get xs k ≡ Some x → p x ≡ true
all_at p [] all k x at = cc
all_at p (y ∷ xs) all zero x at = let same : y ≡ x = cc in ap p (sym same) ∙ (and_parts (p y) (list_all p xs) all).0
all_at p (y ∷ xs) all (suc k) x at = all_at p xs ((and_parts (p y) (list_all p xs) all).1) k x at

-- the object whose parent stands at a place
row_of : (objects : List ObjectRow) (k p : ℕ) → option_and_then (λ e. e) (slice_get (map (λ (o : ObjectRow). Some o.parent) objects) k) ≡ Some p
    → (o : ObjectRow) × (slice_get objects k ≡ Some o) × (o.parent ≡ p)
row_of [] k p is = cc
row_of (o ∷ objects) zero p is = (o, refl, cc)
row_of (o ∷ objects) (suc k) p is = row_of objects k p is

before : (n : ℕ) (objects : List ObjectRow) → parents_before n objects ≡ true → (k : ℕ) (o : ObjectRow) → slice_get objects k ≡ Some o → o.parent < n + k
before n [] all k o at = cc
before n (x ∷ objects) all zero o at =
    let first : nat_lt x.parent n ≡ true = (and_parts (nat_lt x.parent n) (parents_before (suc n) objects) all).0 in
    let same : x.parent ≡ o.parent = cc in
    grind (arith, nat_tests, first, same)
before n (x ∷ objects) all (suc k) o at =
    let below : o.parent < suc n + k = before (suc n) objects ((and_parts (nat_lt x.parent n) (parents_before (suc n) objects) all).1) k o at in
    omega arith

-- labels that may lack, one above the other
above-security : (a : Label) (e : Option ObjectLabels) → holds_of (λ q. dominates a q.security) e ≡ true → is_above (Some a) (option_and_then (λ (q : ObjectLabels). Some q.security) e) ≡ true
above-security a None h = h
above-security a (Some q) h = h

above-integrity : (a : Label) (e : Option ObjectLabels) → holds_of (λ q. dominates q.integrity a) e ≡ true → is_above (option_and_then (λ (q : ObjectLabels). Some q.integrity) e) (Some a) ≡ true
above-integrity a None h = h
above-integrity a (Some q) h = h

module _ (rows : Rows) (h : Faultless rows) where
  -- the parent of an object, as its row has it
  parent_row : (k p : ℕ) → map.get (opening rows).parent (suc k) ≡ Some p → (o : ObjectRow) × (slice_get rows.objects k ≡ Some o) × (o.parent ≡ p)
  unfolding opening
  parent_row k p is = row_of rows.objects k p (sym (get-numbered (λ (parent : Option ℕ). parent) (parents_of rows) (suc k)) ∙ is)

  parent_at : (k : ℕ) (o : ObjectRow) → slice_get rows.objects k ≡ Some o → map.get (opening rows).parent (suc k) ≡ Some o.parent
  unfolding opening
  parent_at k o at = get-numbered (λ (parent : Option ℕ). parent) (parents_of rows) (suc k)
      ∙ ap (option_and_then (λ e. e)) (slice_get-map (λ (x : ObjectRow). Some x.parent) rows.objects k)
      ∙ ap (λ e. option_and_then (λ e. e) (option_map (λ (x : ObjectRow). Some x.parent) e)) at

  no_parent : map.get (opening rows).parent 0 ≡ None
  unfolding opening
  no_parent = get-numbered (λ (parent : Option ℕ). parent) (parents_of rows) 0

  label_at : (k : ℕ) (o : ObjectRow) → slice_get rows.objects k ≡ Some o → slice_get (labels_of rows) (suc k) ≡ Some o.labels
  label_at k o at = slice_get-map (λ (x : ObjectRow). x.labels) rows.objects k ∙ ap (option_map (λ (x : ObjectRow). x.labels)) at

  active : (o : ℕ) → o < object_count rows → is_active (opening rows) o ≡ true
  active o below = active_opening rows o ∙ grind (arith, nat_tests, below)

  below_count : (o : ℕ) → is_active (opening rows) o ≡ true → o < object_count rows
  below_count o is = let there : nat_lt o (object_count rows) ≡ true = sym (active_opening rows o) ∙ is in grind (arith, nat_tests, there)

  -- from each object by parent steps to the root
  climbs : (n o : ℕ) → o < n → o < object_count rows → Reaches (opening rows).parent o 0
  climbs zero o below there = absurd (omega arith)
  climbs (suc n) zero below there = here
  climbs (suc n) (suc k) below there =
      let within : k < length rows.objects = omega arith in
      let row = item_at rows.objects k within in
      let less : row.0.parent < 1 + k = before 1 rows.objects h.parents k row.0 row.1 in
      up (parent_at k row.0 row.1) (climbs n row.0.parent (omega arith) (omega arith))

  -- a child and its parent, as the row of the child has them
  from_row : (P : ℕ → ℕ → Type 0) → ((k : ℕ) (o : ObjectRow) → slice_get rows.objects k ≡ Some o → P (suc k) o.parent)
      → (child parent : ℕ) → map.get (opening rows).parent child ≡ Some parent → P child parent
  from_row P each_row zero parent is = let none : map.get (opening rows).parent 0 ≡ None = no_parent in cc
  from_row P each_row (suc k) parent is =
      let row = parent_row k parent is in
      subst (P (suc k)) row.2 (each_row k row.0 row.1)

  tree : IsTree (opening rows).parent (is_active (opening rows))
  tree = record {
    root_active = active 0 (omega arith);
    root_has_no_parent = no_parent;
    reaches_root = λ o is. climbs (o + 1) o (omega arith) (below_count o is);
    children_active = from_row (λ child parent. IsTrue (is_active (opening rows) child) × IsTrue (is_active (opening rows) parent)) (λ k o at.
        let within : k < length rows.objects = slice_get_within rows.objects k o at in
        let less : o.parent < 1 + k = before 1 rows.objects h.parents k o at in
        (active (suc k) (omega arith), active o.parent (omega arith)));
    below = λ o is. let less : o < object_count rows = below_count o is in let most : object_count rows ≤ MAX_OBJECTS = h.room in omega arith;
  }

  -- the next number is that of the profile
  next_right : (p : Profile) → IsNextOf p (is_active (opening rows)) (object_count rows)
  next_right One = below_count
  next_right Two = sym (least_failing-is (is_active (opening rows)) MAX_OBJECTS 0 (object_count rows) (omega arith) h.room
      (λ q low below. active q below)
      (λ high. let past : nat_lt (object_count rows) (object_count rows) ≡ false = grind (arith, nat_tests) in active_opening rows (object_count rows) ∙ past))

  compatible : (child parent : ℕ) → map.get (opening rows).parent child ≡ Some parent → IsTrue (compatible_holds (opening rows) child parent)
  unfolding opening
  compatible = from_row (λ child parent. IsTrue (compatible_holds (opening rows) child parent)) (λ k o at.
      let security : map.get (opening rows).object_label (suc k) ≡ Some o.labels.security = get-numbered (λ (x : ObjectLabels). Some x.security) (labels_of rows) (suc k) ∙ ap (option_and_then (λ (x : ObjectLabels). Some x.security)) (label_at k o at) in
      let integrity : map.get (opening rows).object_integrity (suc k) ≡ Some o.labels.integrity = get-numbered (λ (x : ObjectLabels). Some x.integrity) (labels_of rows) (suc k) ∙ ap (option_and_then (λ (x : ObjectLabels). Some x.integrity)) (label_at k o at) in
      let below = get-numbered (λ (x : ObjectLabels). Some x.security) (labels_of rows) o.parent in
      let above = get-numbered (λ (x : ObjectLabels). Some x.integrity) (labels_of rows) o.parent in
      and_from _ _
      ((λ i. is_above (security i) (below i)) ∙ above-security o.labels.security (slice_get (labels_of rows) o.parent) (all_at (security_fits (labels_of rows)) rows.objects h.security k o at))
      ((λ i. is_above (above i) (integrity i)) ∙ above-integrity o.labels.integrity (slice_get (labels_of rows) o.parent) (all_at (integrity_fits (labels_of rows)) rows.objects h.integrity k o at)))

  ceiling : (s : ℕ) → is_subject (opening rows) s ≡ true → is_above (map.get (opening rows).maximum s) (map.get (opening rows).current s) ≡ true
  unfolding opening
  ceiling s known =
      let there : nat_lt s (length rows.subjects) ≡ true = sym (subject_opening rows s) ∙ known in
      let within : s < length rows.subjects = grind (arith, nat_tests, there) in
      let row = item_at rows.subjects s within in
      (λ i. is_above (get-numbered (λ (x : Subject). Some x.maximum) rows.subjects s i) (get-numbered (λ (x : Subject). Some x.current) rows.subjects s i))
      ∙ ap (λ e. is_above (option_and_then (λ (x : Subject). Some x.maximum) e) (option_and_then (λ (x : Subject). Some x.current) e)) row.1
      ∙ all_at current_fits rows.subjects h.currents s row.0 row.1

  known_of : (b : TripleSet) → each b (is_cell (length rows.subjects) (object_count rows)) ≡ true → Each b (is_known (opening rows))
  known_of b all t there =
      (λ i. subject_opening rows t.0 i && active_opening rows t.1 i)
      ∙ each-contains triples_total same_triple b (is_cell (length rows.subjects) (object_count rows)) t all there

  -- each cell and each access is known in the state with all objects
  module _ (cells accesses : List Triple) (v : State)
      (is : v ≡ with_rows (first_state rows.subjects rows.root rows.security rows.integrity rows.profile) rows.objects)
      (all : set.from_list {R = triple_cmp} cells ≡ rows.cells) (accessed : set.from_list {R = triple_cmp} accesses ≡ rows.accesses) where
    pub cells_known : (k : ℕ) (d : Triple) → k < length cells → is_known v (get_or cells k d) ≡ true
    cells_known k d within =
        ap (λ (w : State). is_known w (get_or cells k d)) (opened rows cells accesses v is all accessed)
        ∙ at-from_Each cells rows.cells (is_known (opening rows)) all (known_of rows.cells h.cells) k d within

    pub accesses_known : (k : ℕ) (d : Triple) → k < length accesses → is_known v (get_or accesses k d) ≡ true
    accesses_known k d within =
        ap (λ (w : State). is_known w (get_or accesses k d)) (opened rows cells accesses v is all accessed)
        ∙ at-from_Each accesses rows.accesses (is_known (opening rows)) accessed (known_of rows.accesses h.accesses) k d within

  -- what is so of each access of the rows
  holds : (t : Triple) → set.contains rows.accesses t ≡ true → access_holds (opening rows) t ≡ true
  holds t there = each-contains triples_total same_triple rows.accesses (access_holds (opening rows)) t h.secure there

  discretionary : Each rows.accesses (discretionary_holds (opening rows))
  discretionary t there =
      (and_parts (discretionary_holds (opening rows) t) (simple_holds (opening rows) t && (star_holds (opening rows) t && integrity_holds (opening rows) t)) (holds t there)).0

  others : (t : Triple) → set.contains rows.accesses t ≡ true → (simple_holds (opening rows) t && (star_holds (opening rows) t && integrity_holds (opening rows) t)) ≡ true
  others t there =
      (and_parts (discretionary_holds (opening rows) t) (simple_holds (opening rows) t && (star_holds (opening rows) t && integrity_holds (opening rows) t)) (holds t there)).1

  simple : Each rows.accesses (simple_holds (opening rows))
  simple t there = (and_parts (simple_holds (opening rows) t) (star_holds (opening rows) t && integrity_holds (opening rows) t) (others t there)).0

  last : (t : Triple) → set.contains rows.accesses t ≡ true → (star_holds (opening rows) t && integrity_holds (opening rows) t) ≡ true
  last t there = (and_parts (simple_holds (opening rows) t) (star_holds (opening rows) t && integrity_holds (opening rows) t) (others t there)).1

  star : Each rows.accesses (star_holds (opening rows))
  star t there = (and_parts (star_holds (opening rows) t) (integrity_holds (opening rows) t) (last t there)).0

  strict : Each rows.accesses (integrity_holds (opening rows))
  strict t there = (and_parts (star_holds (opening rows) t) (integrity_holds (opening rows) t) (last t there)).1

  -- the opening of rows with which nothing is wrong is secure
  pub secure_opening : IsSecure (opening rows)
  unfolding opening
  secure_opening = record {
    simple = simple;
    star = star;
    discretionary = discretionary;
    compatible = compatible;
    tree = record {
      objects = tree;
      next = record { few = h.room; right = next_right rows.profile };
      accesses_known = known_of rows.accesses h.accesses;
      matrix_known = known_of rows.cells h.cells;
    };
    integrity = strict;
    ceiling = ceiling;
  }
