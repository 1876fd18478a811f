use Rattle.std.proofs.Common.{◌≡◌, ℕ, ◌+◌, ◌<◌, ◌≤◌, cond, set, length, refl, sym, ap, subst, ◌∙◌, arith}
use Rattle.std.specs.Prelude.{max}
use Rattle.mls_facts.specs.Places.{placed}
use Rattle.mls_facts.proofs.Places.{length-placed}
use Rattle.mls_tree.specs.Tree as tree
use Rattle.mls_tree.specs.Tree.{Hierarchy, HasNext, IsTree}
use Rattle.mls_state.specs.Changes.{with_object_at}
use Rattle.mls_state.specs.State.{State}
use Rattle.mls_state.specs.declared.subject.ObjectLabels.{ObjectLabels}
use Rattle.mls_state.proofs.Growing.{state-grown, agrees-grown, placed_inside}
use Rattle.mls_state.proofs.Padding.{on_err, state-padded, agrees-padded}
use Rattle.mls_state.proofs.state.State.add_object_at.Goals as goal

pub invariant_of-self-in_err-add_at : goal.invariant_of-self-in_err-add_at
invariant_of-self-in_err-add_at g c =
    let a = c.self.inside in
    let h = c.self.invariant in
    let many : length c.make_places.new.objects.items ≡ max (length a.objects.items) (c.number-number.result + 1) = c.in_ok-make_places.ensures.many in
    let place : a.tree.next ≤ length a.objects.items = h.place in
    agrees-padded a _ h refl (omega (arith, many)) c.make_places.ensures.labels a.tree.next c.in_err-add_at.ensures.err c.make_places.ensures.permitted c.make_places.ensures.accessed
    refl refl (omega (arith, many, place)) c.make_places.ensures.matrix_columns c.make_places.ensures.access_columns h.next

pub returns-in_err-add_at-clause-err : goal.returns-in_err-add_at-clause-err
returns-in_err-add_at-clause-err g c =
    let a = c.self.inside in
    let many : length c.make_places.new.objects.items ≡ max (length a.objects.items) (c.number-number.result + 1) = c.in_ok-make_places.ensures.many in
    on_err c.from_residual-in_err-add_at.result
    (state-padded a (record {
      subjects = a.subjects;
      objects = c.make_places.new.objects;
      tree = c.add_at.new.self;
      matrix = c.make_places.new.matrix;
      accesses = c.make_places.new.accesses;
      group = a.group;
      security = a.security;
      integrity = a.integrity;
    }) c.self.invariant refl (omega (arith, many)) c.make_places.ensures.labels a.tree.next c.in_err-add_at.ensures.err c.make_places.ensures.permitted c.make_places.ensures.accessed refl refl
    ∙ c.self.view_is)

pub invariant_of-self-2 : goal.invariant_of-self-2
invariant_of-self-2 g c =
    let a = c.self.inside in
    let h = c.self.invariant in
    let xs = c.make_places.new.objects.items in
    let n : ℕ = c.args.o in
    let labels : ObjectLabels = record { security = c.args.security.now; integrity = c.args.integrity.now } in
    let number : c.number-number.result ≡ n = c.number-number.ensures in
    let many : length xs ≡ max (length a.objects.items) (c.number-number.result + 1) = c.in_ok-make_places.ensures.many in
    let place : a.tree.next ≤ length a.objects.items = h.place in
    let below : n < length xs = omega (arith, many, number) in
    let wide : length xs ≤ c.make_places.new.matrix.columns = c.make_places.ensures.matrix_columns in
    let access_wide : length xs ≤ c.make_places.new.accesses.columns = c.make_places.ensures.access_columns in
    let padded = agrees-padded a (record {
      subjects = a.subjects;
      objects = c.make_places.new.objects;
      tree = a.tree;
      matrix = c.make_places.new.matrix;
      accesses = c.make_places.new.accesses;
      group = a.group;
      security = a.security;
      integrity = a.integrity;
    }) h refl (omega (arith, many)) c.make_places.ensures.labels a.tree.next refl c.make_places.ensures.permitted c.make_places.ensures.accessed
    refl refl (omega (arith, many, place)) wide access_wide h.next in
    let longer : length xs ≤ length (placed xs n labels) = (length-placed xs n labels (omega (arith, below))).0 in
    agrees-grown (record {
      subjects = a.subjects;
      objects = c.make_places.new.objects;
      tree = a.tree;
      matrix = c.make_places.new.matrix;
      accesses = c.make_places.new.accesses;
      group = a.group;
      security = a.security;
      integrity = a.integrity;
    }) _ padded n (max a.tree.next (n + 1)) c.args.parent labels (omega (arith, below)) refl
    (c.replace.ensures ∙ ap (λ k. set xs k labels) number ∙ sym (placed_inside xs n labels below)) c.in_ok-add_at.ensures.ok
    refl refl (omega arith) (omega (arith, below, wide)) refl refl (omega arith) (omega (arith, below, access_wide)) refl refl
    (omega (arith, longer, below, many, place)) c.agrees.ensures.tree c.agrees.ensures.right

pub returns-clause-ok : goal.returns-clause-ok
returns-clause-ok g c =
    let a = c.self.inside in
    let h = c.self.invariant in
    let xs = c.make_places.new.objects.items in
    let n : ℕ = c.args.o in
    let labels : ObjectLabels = record { security = c.args.security.now; integrity = c.args.integrity.now } in
    let number : c.number-number.result ≡ n = c.number-number.ensures in
    let many : length xs ≡ max (length a.objects.items) (c.number-number.result + 1) = c.in_ok-make_places.ensures.many in
    let place : a.tree.next ≤ length a.objects.items = h.place in
    let below : n < length xs = omega (arith, many, number) in
    let wide : length xs ≤ c.make_places.new.matrix.columns = c.make_places.ensures.matrix_columns in
    let access_wide : length xs ≤ c.make_places.new.accesses.columns = c.make_places.ensures.access_columns in
    let long : length a.objects.items ≤ length xs = omega (arith, many) in
    let padded = agrees-padded a (record {
      subjects = a.subjects;
      objects = c.make_places.new.objects;
      tree = a.tree;
      matrix = c.make_places.new.matrix;
      accesses = c.make_places.new.accesses;
      group = a.group;
      security = a.security;
      integrity = a.integrity;
    }) h refl long c.make_places.ensures.labels a.tree.next refl c.make_places.ensures.permitted c.make_places.ensures.accessed
    refl refl (omega (arith, many, place)) wide access_wide h.next in
    state-grown (record {
      subjects = a.subjects;
      objects = c.make_places.new.objects;
      tree = a.tree;
      matrix = c.make_places.new.matrix;
      accesses = c.make_places.new.accesses;
      group = a.group;
      security = a.security;
      integrity = a.integrity;
    }) (record {
      subjects = a.subjects;
      objects = c.replace.new.objects;
      tree = c.add_at.new.self;
      matrix = c.make_places.new.matrix;
      accesses = c.make_places.new.accesses;
      group = a.group;
      security = a.security;
      integrity = a.integrity;
    }) padded n (max a.tree.next (n + 1)) c.args.parent labels (omega (arith, below)) refl
    (c.replace.ensures ∙ ap (λ k. set xs k labels) number ∙ sym (placed_inside xs n labels below)) c.in_ok-add_at.ensures.ok
    refl refl (omega arith) (omega (arith, below, wide)) refl refl (omega arith) (omega (arith, below, access_wide)) refl refl
    ∙ ap (λ (v : State). with_object_at v n c.args.parent c.args.security.now c.args.integrity.now)
    (state-padded a (record {
      subjects = a.subjects;
      objects = c.make_places.new.objects;
      tree = a.tree;
      matrix = c.make_places.new.matrix;
      accesses = c.make_places.new.accesses;
      group = a.group;
      security = a.security;
      integrity = a.integrity;
    }) h refl long c.make_places.ensures.labels a.tree.next refl c.make_places.ensures.permitted c.make_places.ensures.accessed refl refl
    ∙ c.self.view_is)
