use Rattle.std.proofs.Common.{◌≡◌, ◌+◌, ◌<◌, length, refl, sym, ap, ◌∙◌, arith}
use Rattle.mls_facts.specs.Places.{placed}
use Rattle.mls_facts.proofs.Places.{length-placed}
use Rattle.mls_state.specs.State.{State}
use Rattle.mls_state.specs.declared.subject.ObjectLabels.{ObjectLabels}
use Rattle.mls_state.specs.Changes.{with_object}
use Rattle.mls_state.proofs.Growing.{state-grown, agrees-grown}
use Rattle.mls_state.proofs.state.State.add_object.Goals as goal

pub invariant_of-self-2 : goal.invariant_of-self-2
invariant_of-self-2 g c =
    let a = c.self.inside in
    let labels : ObjectLabels = record { security = c.args.security.now; integrity = c.args.integrity.now } in
    let same : c.next-next.result ≡ a.tree.next = c.next-next.ensures.number ∙ sym (ap (λ (v : State). v.next) c.self.view_is) in
    agrees-grown a _ c.self.invariant a.tree.next (a.tree.next + 1) c.args.parent labels c.self.invariant.place refl
    (c.put_at.ensures ∙ (λ i. placed (c.reserve.ensures.items i) (same i) labels)) c.in-Ok.ensures.ok
    c.widen_matrix.ensures.kept.rows c.widen_matrix.ensures.kept.triples c.widen_matrix.ensures.kept.columns (rw same at c.in_ok-widen_matrix.ensures.ok)
    c.widen_accesses.ensures.kept.rows c.widen_accesses.ensures.kept.triples c.widen_accesses.ensures.kept.columns (rw same at c.in_ok-widen_accesses.ensures.ok)
    refl refl (let behind : a.tree.next < length (placed a.objects.items a.tree.next labels) = (length-placed a.objects.items a.tree.next labels c.self.invariant.place).1 in omega arith)
    c.agrees.ensures.tree c.agrees.ensures.right

pub returns-clause-ok : goal.returns-clause-ok
returns-clause-ok g c =
    let a = c.self.inside in
    let labels : ObjectLabels = record { security = c.args.security.now; integrity = c.args.integrity.now } in
    let same : c.next-next.result ≡ a.tree.next = c.next-next.ensures.number ∙ sym (ap (λ (v : State). v.next) c.self.view_is) in
    state-grown a (record {
      subjects = a.subjects;
      objects = c.put_at.new.items;
      tree = c.add.new.self;
      matrix = c.widen_matrix.new.matrix;
      accesses = c.widen_accesses.new.accesses;
      group = a.group;
      security = a.security;
      integrity = a.integrity;
    }) c.self.invariant a.tree.next (a.tree.next + 1) c.args.parent labels c.self.invariant.place refl
    (c.put_at.ensures ∙ (λ i. placed (c.reserve.ensures.items i) (same i) labels)) c.in-Ok.ensures.ok
    c.widen_matrix.ensures.kept.rows c.widen_matrix.ensures.kept.triples c.widen_matrix.ensures.kept.columns (rw same at c.in_ok-widen_matrix.ensures.ok)
    c.widen_accesses.ensures.kept.rows c.widen_accesses.ensures.kept.triples c.widen_accesses.ensures.kept.columns (rw same at c.in_ok-widen_accesses.ensures.ok)
    refl refl
    ∙ ap (λ (v : State). with_object v c.args.parent c.args.security.now c.args.integrity.now) c.self.view_is
