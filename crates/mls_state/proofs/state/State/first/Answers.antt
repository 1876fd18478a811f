use Rattle.std.proofs.Common.{refl, length}
use Rattle.mls_state.proofs.Copies.{first_tree, first_next, agrees-first, state-first}
use Rattle.mls_state.proofs.state.State.first.Goals as goal

pub invariant_of-result : goal.invariant_of-result
invariant_of-result g c =
    agrees-first (record {
      subjects = c.in_ok-rows.rows.0;
      objects = c.in_ok-rows.rows.1;
      tree = c.in_ok-tree.tree;
      matrix = c.in_ok-tables.tables.0;
      accesses = c.in_ok-tables.tables.1;
      group = c.new-group.result;
      security = c.args.security;
      integrity = c.args.integrity;
    }) c.args.subjects.now c.args.root (length c.args.subjects.now) c.in_ok-rows.ensures.subjects c.in_ok-rows.ensures.objects c.args.profile c.in_ok-tree.ensures
    c.in_ok-tables.ensures.matrix c.in_ok-tables.ensures.accesses
    refl (first_tree c.in_ok-tree.tree c.args.profile c.in_ok-tree.ensures) (first_next c.in_ok-tree.tree c.args.profile c.in_ok-tree.ensures)

pub returns : goal.returns
returns g c =
    state-first (record {
      subjects = c.in_ok-rows.rows.0;
      objects = c.in_ok-rows.rows.1;
      tree = c.in_ok-tree.tree;
      matrix = c.in_ok-tables.tables.0;
      accesses = c.in_ok-tables.tables.1;
      group = c.new-group.result;
      security = c.args.security;
      integrity = c.args.integrity;
    }) c.args.subjects.now c.args.root (length c.args.subjects.now) c.in_ok-rows.ensures.subjects c.in_ok-rows.ensures.objects c.args.profile c.in_ok-tree.ensures
    c.in_ok-tables.ensures.matrix c.in_ok-tables.ensures.accesses
