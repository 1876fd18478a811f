use Rattle.std.proofs.Common.{◌≡◌, ◌∙◌, ap, sym}
use Rattle.std.specs.Prelude.{None}
use Rattle.std.specs.FinSet as set
use Rattle.mls_state.specs.First.{first_state}
use Rattle.mls_start.specs.Growing.{with_rows}
use Rattle.mls_tables.specs.Triples.{triple_cmp}
use Rattle.mls_start.specs.Rows.{Rows, opening}
use Rattle.mls_start.specs.StartFaults.{start_fault}
use Rattle.mls_start.proofs.Faultless.{faultless, cells_known, accesses_known}
use Rattle.mls_start.proofs.Opening.{active-first, opened}
use Rattle.mls_start.proofs.start_builder.StartBuilder.fill.Goals as goal

pub add_objects-requires-clause-active : goal.add_objects-requires-clause-active
add_objects-requires-clause-active g c o =
    let r = c.args.self.now in
    rw c.requires.first (active-first r.subjects r.root r.security r.integrity r.profile o)

pub put_triples-requires-clause-cells : goal.put_triples-requires-clause-cells
put_triples-requires-clause-cells g c =
    let a = c.self.inside in
    let rows : Rows = record {
      security = a.security;
      integrity = a.integrity;
      profile = a.profile;
      root = a.root;
      subjects = a.subjects.items;
      objects = a.objects.items;
      cells = set.from_list a.cells.items;
      accesses = set.from_list a.accesses.items;
    } in
    let none : start_fault rows ≡ None = rw (← c.self.view_is) at c.requires.faultless in
    let built : c.add_objects.new.state ≡ with_rows (first_state a.subjects.items a.root a.security a.integrity a.profile) a.objects.items =
    c.in_ok-add_objects.ensures
    ∙ (λ i. with_rows (c.requires.first i) (c.deref.ensures.value i))
    ∙ ap (λ (r : Rows). with_rows (first_state r.subjects r.root r.security r.integrity r.profile) a.objects.items) (sym c.self.view_is) in
    let listed : set.from_list {R = triple_cmp} c.deref-2.result.now ≡ rows.cells = ap (λ ts. set.from_list {R = triple_cmp} ts) c.deref-2.ensures.value in
    let accessed : set.from_list {R = triple_cmp} c.deref-3.result.now ≡ rows.accesses = ap (λ ts. set.from_list {R = triple_cmp} ts) c.deref-3.ensures.value in
    cells_known rows (faultless rows none) c.deref-2.result.now c.deref-3.result.now c.add_objects.new.state built listed accessed

pub put_triples-requires-clause-accesses : goal.put_triples-requires-clause-accesses
put_triples-requires-clause-accesses g c =
    let a = c.self.inside in
    let rows : Rows = record {
      security = a.security;
      integrity = a.integrity;
      profile = a.profile;
      root = a.root;
      subjects = a.subjects.items;
      objects = a.objects.items;
      cells = set.from_list a.cells.items;
      accesses = set.from_list a.accesses.items;
    } in
    let none : start_fault rows ≡ None = rw (← c.self.view_is) at c.requires.faultless in
    let built : c.add_objects.new.state ≡ with_rows (first_state a.subjects.items a.root a.security a.integrity a.profile) a.objects.items =
    c.in_ok-add_objects.ensures
    ∙ (λ i. with_rows (c.requires.first i) (c.deref.ensures.value i))
    ∙ ap (λ (r : Rows). with_rows (first_state r.subjects r.root r.security r.integrity r.profile) a.objects.items) (sym c.self.view_is) in
    let listed : set.from_list {R = triple_cmp} c.deref-2.result.now ≡ rows.cells = ap (λ ts. set.from_list {R = triple_cmp} ts) c.deref-2.ensures.value in
    let accessed : set.from_list {R = triple_cmp} c.deref-3.result.now ≡ rows.accesses = ap (λ ts. set.from_list {R = triple_cmp} ts) c.deref-3.ensures.value in
    accesses_known rows (faultless rows none) c.deref-2.result.now c.deref-3.result.now c.add_objects.new.state built listed accessed

pub returns : goal.returns
returns g c =
    let a = c.self.inside in
    let rows : Rows = record {
      security = a.security;
      integrity = a.integrity;
      profile = a.profile;
      root = a.root;
      subjects = a.subjects.items;
      objects = a.objects.items;
      cells = set.from_list a.cells.items;
      accesses = set.from_list a.accesses.items;
    } in
    let built : c.add_objects.new.state ≡ with_rows (first_state a.subjects.items a.root a.security a.integrity a.profile) a.objects.items =
    c.in_ok-add_objects.ensures
    ∙ (λ i. with_rows (c.requires.first i) (c.deref.ensures.value i))
    ∙ ap (λ (r : Rows). with_rows (first_state r.subjects r.root r.security r.integrity r.profile) a.objects.items) (sym c.self.view_is) in
    let listed : set.from_list {R = triple_cmp} c.deref-2.result.now ≡ rows.cells = ap (λ ts. set.from_list {R = triple_cmp} ts) c.deref-2.ensures.value in
    let accessed : set.from_list {R = triple_cmp} c.deref-3.result.now ≡ rows.accesses = ap (λ ts. set.from_list {R = triple_cmp} ts) c.deref-3.ensures.value in
    c.in_ok-put_triples.ensures
    ∙ opened rows c.deref-2.result.now c.deref-3.result.now c.add_objects.new.state built listed accessed ∙ ap opening c.self.view_is
