use Rattle.std.proofs.Common.{◌≡◌, ℕ, ◌<◌, ◌≤◌, length, refl, sym, ap, subst, ◌∙◌, arith}
use Rattle.std.specs.Prelude.{max}
use Rattle.mls_tree.specs.Tree as tree
use Rattle.mls_tree.specs.Tree.{Hierarchy, HasNext, next_number}
use Rattle.mls_tree.proofs.Laws.{next_most, next_number-same}
use Rattle.mls_state.specs.Changes.{renumbered}
use Rattle.mls_state.specs.State.{State, is_active}
use Rattle.mls_state.specs.StateView.{state_of}
use Rattle.mls_state.proofs.Padding.{on_err, state-padded, agrees-padded}
use Rattle.mls_state.proofs.Tables.{active-tree}
use Rattle.mls_state.proofs.state.State.skip_to.Goals as goal

pub invariant_of-self-in_err-skip_to : goal.invariant_of-self-in_err-skip_to
invariant_of-self-in_err-skip_to g c =
    let a = c.self.inside in
    let h = c.self.invariant in
    let many : length c.make_places.new.objects.items ≡ max (length a.objects.items) c.args.end = c.in_ok-make_places.ensures.many in
    let place : a.tree.next ≤ length a.objects.items = h.place in
    agrees-padded a _ h refl (omega (arith, many)) c.make_places.ensures.labels a.tree.next c.in_err-skip_to.ensures.err c.make_places.ensures.permitted c.make_places.ensures.accessed
    refl refl (omega (arith, many, place)) c.make_places.ensures.matrix_columns c.make_places.ensures.access_columns h.next

pub returns-in_err-skip_to-clause-err : goal.returns-in_err-skip_to-clause-err
returns-in_err-skip_to-clause-err g c =
    let a = c.self.inside in
    let many : length c.make_places.new.objects.items ≡ max (length a.objects.items) c.args.end = c.in_ok-make_places.ensures.many in
    on_err c.from_residual-in_err-skip_to.result
    (state-padded a (record {
      subjects = a.subjects;
      objects = c.make_places.new.objects;
      tree = c.skip_to.new.self;
      matrix = c.make_places.new.matrix;
      accesses = c.make_places.new.accesses;
      group = a.group;
      security = a.security;
      integrity = a.integrity;
    }) c.self.invariant refl (omega (arith, many)) c.make_places.ensures.labels a.tree.next c.in_err-skip_to.ensures.err c.make_places.ensures.permitted c.make_places.ensures.accessed refl refl
    ∙ c.self.view_is)

pub invariant_of-self-2 : goal.invariant_of-self-2
invariant_of-self-2 g c =
    let a = c.self.inside in
    let h = c.self.invariant in
    let many : length c.make_places.new.objects.items ≡ max (length a.objects.items) c.args.end = c.in_ok-make_places.ensures.many in
    let place : a.tree.next ≤ length a.objects.items = h.place in
    let active = tree.is_active a.tree.parent in
    let next : ℕ = next_number a.tree.profile (max a.tree.next c.args.end) active in
    let most : next ≤ length c.make_places.new.objects.items =
    next_most a.tree.profile active (max a.tree.next c.args.end) (length c.make_places.new.objects.items) (omega (arith, many, place))
    (λ o is. let low : o < length a.objects.items = h.labels o is in omega (arith, many, low)) in
    agrees-padded a _ h refl (omega (arith, many)) c.make_places.ensures.labels next c.in_ok-skip_to.ensures.ok c.make_places.ensures.permitted c.make_places.ensures.accessed
    refl refl most c.make_places.ensures.matrix_columns c.make_places.ensures.access_columns
    (subst (λ (t : Hierarchy). HasNext t.profile (tree.is_active t.parent) t.next) c.in_ok-skip_to.ensures.ok c.agrees-2.ensures.right)

pub returns-clause-ok : goal.returns-clause-ok
returns-clause-ok g c =
    let a = c.self.inside in
    let many : length c.make_places.new.objects.items ≡ max (length a.objects.items) c.args.end = c.in_ok-make_places.ensures.many in
    let given : ℕ = max a.tree.next c.args.end in
    let active = tree.is_active a.tree.parent in
    state-padded a (record {
      subjects = a.subjects;
      objects = c.make_places.new.objects;
      tree = c.skip_to.new.self;
      matrix = c.make_places.new.matrix;
      accesses = c.make_places.new.accesses;
      group = a.group;
      security = a.security;
      integrity = a.integrity;
    }) c.self.invariant refl (omega (arith, many)) c.make_places.ensures.labels (next_number a.tree.profile given active) c.in_ok-skip_to.ensures.ok
    c.make_places.ensures.permitted c.make_places.ensures.accessed refl refl
    ∙ (λ i. record (state_of a) { next = next_number-same a.tree.profile given active (is_active (state_of a)) (λ o. sym (active-tree a c.self.invariant o)) i })
    ∙ ap (λ (v : State). renumbered v (max v.next c.args.end)) c.self.view_is
