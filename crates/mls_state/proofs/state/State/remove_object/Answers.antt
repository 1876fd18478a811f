use Rattle.std.proofs.Common.{◌<◌, ◌≤◌, length, get_or, ◌∙◌, ap, refl, sym, arith}
use Rattle.mls_tree.specs.Tree.{inferiors}
use Rattle.mls_tree.proofs.Laws.{inferiors_active}
use Rattle.mls_state.specs.State.{State}
use Rattle.mls_state.specs.Changes.{without_group}
use Rattle.mls_state.proofs.Copies.{agrees-same}
use Rattle.mls_state.proofs.Tables.{active-tree}
use Rattle.mls_state.proofs.Removing.{state-removed, agrees-removed}
use Rattle.mls_state.proofs.state.State.remove_object.Goals as goal

pub take_out-requires-clause-tree : goal.take_out-requires-clause-tree
take_out-requires-clause-tree g c = c.self.invariant.tree

pub take_out-requires-clause-object : goal.take_out-requires-clause-object
take_out-requires-clause-object g c = sym (active-tree c.self.inside c.self.invariant c.args.o) ∙ rw (← c.self.view_is) at c.requires.object

pub take_out-requires-clause-columns : goal.take_out-requires-clause-columns
take_out-requires-clause-columns g c k d within =
    let m = c.self.inside.tree.parent in
    let x = get_or (inferiors m c.args.o) k d in
    let active = inferiors_active m c.args.o c.self.invariant.tree k d within in
    let place : x < length c.self.inside.objects.items = c.self.invariant.labels x active in
    let wide : length c.self.inside.objects.items ≤ c.self.inside.matrix.columns = c.self.invariant.matrix_columns in
    omega arith

pub invariant_of-self : goal.invariant_of-self
invariant_of-self g c =
    agrees-same c.self.inside _ c.self.invariant refl refl c.in_err-take_out.ensures.same_tree c.in_err-take_out.ensures.same_matrix c.in_err-take_out.ensures.same_accesses

pub invariant_of-self-2 : goal.invariant_of-self-2
invariant_of-self-2 g c =
    agrees-removed c.self.inside _ c.self.invariant c.args.o c.requires.other refl refl
    c.in_ok-take_out.ensures.tree c.in_ok-take_out.ensures.matrix c.in_ok-take_out.ensures.accesses refl refl c.agrees.ensures.tree c.agrees.ensures.right

pub returns-clause-ok : goal.returns-clause-ok
returns-clause-ok g c =
    state-removed c.self.inside (record {
      subjects = c.self.inside.subjects;
      objects = c.self.inside.objects;
      tree = c.take_out.new.tree;
      matrix = c.take_out.new.matrix;
      accesses = c.take_out.new.accesses;
      group = c.take_out.new.group;
      security = c.self.inside.security;
      integrity = c.self.inside.integrity;
    }) c.self.invariant c.args.o c.requires.other refl refl
    c.in_ok-take_out.ensures.tree c.in_ok-take_out.ensures.matrix c.in_ok-take_out.ensures.accesses refl refl
    ∙ ap (λ (v : State). without_group v c.args.o) c.self.view_is
