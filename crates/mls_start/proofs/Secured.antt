-- What is looked at of the rows of a start says whether their accesses are secure.
use Rattle.std.proofs.Common.{◌≡◌, ℕ, zero, suc, ◌<◌, Bool, true, false, not, ◌&&◌, ◌||◌, List, [], ◌∷◌, length, get_or, Some, None, refl, sym, ap, ◌∙◌, arith, nat_lt}
use Rattle.std.specs.Prelude.{slice_get, option_and_then, if◌then◌else◌}
use Rattle.std.specs.List.{list_all}
use Rattle.std.proofs.lemmas.Bool.{and_parts}
use Rattle.std.proofs.lemmas.Bool.Decides.{nat_tests}
use Rattle.std.proofs.lemmas.List.Folds.{list_all_at}
use Rattle.std.specs.FinMap as map
use Rattle.std.specs.FinSet as set
use Rattle.mls_facts.specs.Each.{each}
use Rattle.mls_facts.specs.Numbered.{holds_of}
use Rattle.mls_facts.proofs.Numbered.{get-numbered}
use Rattle.mls_facts.proofs.Passing.{contains-passing}
use Rattle.mls_tables.specs.Triples.{Triple, triple_cmp}
use Rattle.mls_state.specs.declared.subject.Subject.{Subject}
use Rattle.mls_state.specs.declared.subject.ObjectLabels.{ObjectLabels}
use Rattle.mls_state.specs.Audit.{access_holds}
use Rattle.mls_state.specs.Properties.{simple_between, star_between, integrity_between}
use Rattle.mls_start.specs.RowAccesses.{labels_permit, rows_permit, cells_permit, all_permitted}
use Rattle.mls_start.specs.Rows.{Rows, object_count, all_labels, labels_of, opening}
use Rattle.mls_start.specs.StartFaults.{is_cell, has_known_accesses, access_fault, start_fault}
use Rattle.mls_start.specs.declared.object_row.ObjectRow.{ObjectRow}
use Rattle.mls_state.specs.declared.start_fault.StartFault.TheVariants.{NotSecure}
use Rattle.mls_start.proofs.Cells.{each_listed}
use Rattle.mls_start.proofs.Opening.{length-labels}

-- the item at a place of a list
pub item_at : {X : Type 0} (xs : List X) (k : ℕ) → k < length xs → (x : X) × (slice_get xs k ≡ Some x)
item_at [] k within = absurd (omega arith)
item_at (x ∷ xs) zero within = (x, refl)
item_at (x ∷ xs) (suc k) within = item_at xs k (omega arith)

module _ (rows : Rows) where
  -- one access is secure in the opening just where its rows permit it
  one_secure : (t : Triple) → is_cell (length rows.subjects) (object_count rows) t ≡ true
      → access_holds (opening rows) t ≡ cells_permit rows.cells rows.subjects (labels_of rows) t
  unfolding opening
  one_secure t known =
      let both = and_parts (nat_lt t.0 (length rows.subjects)) (nat_lt t.1 (object_count rows)) known in
      let subject : t.0 < length rows.subjects = grind (arith, nat_tests, both.0) in
      let object : t.1 < object_count rows = grind (arith, nat_tests, both.1) in
      let s = item_at rows.subjects t.0 subject in
      let o = item_at (labels_of rows) t.1 (omega (arith, length-labels rows)) in
      let maximum : map.get (opening rows).maximum t.0 ≡ Some s.0.maximum = get-numbered (λ (x : Subject). Some x.maximum) rows.subjects t.0 ∙ ap (option_and_then (λ (x : Subject). Some x.maximum)) s.1 in
      let current : map.get (opening rows).current t.0 ≡ Some s.0.current = get-numbered (λ (x : Subject). Some x.current) rows.subjects t.0 ∙ ap (option_and_then (λ (x : Subject). Some x.current)) s.1 in
      let own : map.get (opening rows).subject_integrity t.0 ≡ Some s.0.integrity = get-numbered (λ (x : Subject). Some x.integrity) rows.subjects t.0 ∙ ap (option_and_then (λ (x : Subject). Some x.integrity)) s.1 in
      let trusted : set.contains (opening rows).trusted t.0 ≡ s.0.trusted =
      contains-passing (λ k. holds_of (λ (x : Subject). x.trusted) (slice_get rows.subjects k)) (length rows.subjects) t.0
      ∙ (λ i. both.0 i && holds_of (λ (x : Subject). x.trusted) (s.1 i)) in
      let label : map.get (opening rows).object_label t.1 ≡ Some o.0.security = get-numbered (λ (x : ObjectLabels). Some x.security) (labels_of rows) t.1 ∙ ap (option_and_then (λ (x : ObjectLabels). Some x.security)) o.1 in
      let level : map.get (opening rows).object_integrity t.1 ≡ Some o.0.integrity = get-numbered (λ (x : ObjectLabels). Some x.integrity) (labels_of rows) t.1 ∙ ap (option_and_then (λ (x : ObjectLabels). Some x.integrity)) o.1 in
      (λ i. set.contains rows.cells t
      && (simple_between (maximum i) (label i) t.2
      && ((trusted i || star_between (current i) (label i) t.2) && integrity_between (own i) (level i) t.2)))
      ∙ sym (λ i. set.contains rows.cells t && holds_of (λ (x : Subject). holds_of (λ (y : ObjectLabels). labels_permit x y t.2) (o.1 i)) (s.1 i))

  all_secure : (ts : List Triple) → list_all (is_cell (length rows.subjects) (object_count rows)) ts ≡ true
      → list_all (access_holds (opening rows)) ts ≡ list_all (cells_permit rows.cells rows.subjects (labels_of rows)) ts
  all_secure [] known = refl
  all_secure (t ∷ ts) known =
      let both = and_parts (is_cell (length rows.subjects) (object_count rows) t) (list_all (is_cell (length rows.subjects) (object_count rows)) ts) known in
      λ i. one_secure t both.0 i && all_secure ts both.1 i

  -- all accesses are secure in the opening just where the rows permit them
  pub secured : (cells accesses : List Triple) → set.from_list {R = triple_cmp} cells ≡ rows.cells
      → set.from_list {R = triple_cmp} accesses ≡ rows.accesses → has_known_accesses rows ≡ true
      → each rows.accesses (access_holds (opening rows)) ≡ all_permitted cells rows.subjects (labels_of rows) accesses
  secured cells accesses all accessed known =
      let listed : list_all (is_cell (length rows.subjects) (object_count rows)) accesses ≡ true =
      sym (each_listed (is_cell (length rows.subjects) (object_count rows)) accesses)
      ∙ ap (λ b. each b (is_cell (length rows.subjects) (object_count rows))) accessed ∙ known in
      ap (λ b. each b (access_holds (opening rows))) (sym accessed)
      ∙ each_listed (access_holds (opening rows)) accesses
      ∙ all_secure accesses listed
      ∙ ap (λ b. list_all (cells_permit b rows.subjects (labels_of rows)) accesses) (sym all)

and_false : (b : Bool) → (b && false) ≡ false
and_false true = refl
and_false false = refl

-- where the labels of one access don't permit it, not all are secure
pub not_permitted : (cells : List Triple) (subjects : List Subject) (labels : List ObjectLabels) (accesses : List Triple) (i : ℕ) (t : Triple)
    → i < length accesses → t ≡ get_or accesses i t → rows_permit subjects labels t ≡ false → all_permitted cells subjects labels accesses ≡ false
not_permitted cells subjects labels accesses i t within is lacks =
    list_all_at (cells_permit (set.from_list {R = triple_cmp} cells) subjects labels) accesses i t within
    (ap (cells_permit (set.from_list {R = triple_cmp} cells) subjects labels) (sym is)
    ∙ ap (λ b. set.contains (set.from_list {R = triple_cmp} cells) t && b) lacks
    ∙ and_false (set.contains (set.from_list {R = triple_cmp} cells) t))

-- the fault of rows with which nothing else is wrong, by what was looked at of their accesses
pub judged : (rows v : Rows) → v ≡ rows → (cells accesses : List Triple) (subjects : List Subject) (objects : List ObjectRow) (secure : Bool)
    → subjects ≡ v.subjects → objects ≡ v.objects
    → set.from_list {R = triple_cmp} cells ≡ v.cells → set.from_list {R = triple_cmp} accesses ≡ v.accesses
    → has_known_accesses v ≡ true → start_fault v ≡ access_fault v
    → secure ≡ all_permitted cells subjects (all_labels v.root objects) accesses
    → start_fault rows ≡ (if not secure then Some NotSecure else None)
judged rows v is cells accesses subjects objects secure people things all accessed known others says =
    let whole : secure ≡ all_permitted cells v.subjects (labels_of v) accesses = says ∙ (λ i. all_permitted cells (people i) (all_labels v.root (things i)) accesses) in
    ap start_fault (sym is) ∙ others
    ∙ ap (λ b. if not b then Some NotSecure else None) (secured v cells accesses all accessed known ∙ sym whole)
