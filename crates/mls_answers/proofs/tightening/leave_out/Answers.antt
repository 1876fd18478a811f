use Rattle.std.proofs.Common.{rules, ◌≡◌, true, false}
use Rattle.std.specs.FinSet as set
use Rattle.mls_state.specs.State.{is_active, is_subject}
use Rattle.mls_answers.proofs.Tight.{held_stays, inactive_stays, left_cells, left_rest, unknown_stays}
use Rattle.mls_answers.proofs.tightening.leave_out.Goals as goal

pub returns-then-not-is_subject-clause-cells : goal.returns-then-not-is_subject-clause-cells
returns-then-not-is_subject-clause-cells c =
    let unknown : is_subject c.args.state.now c.args.access.0 ≡ false = search rules in
    unknown_stays c.args.state.now c.args.access.0 c.args.access.1 c.args.access.2 c.agrees.ensures.tree unknown

pub returns-then-not-is_active-clause-cells : goal.returns-then-not-is_active-clause-cells
returns-then-not-is_active-clause-cells c =
    let inactive : is_active c.args.state.now c.args.access.1 ≡ false = search rules in
    inactive_stays c.args.state.now c.args.access.0 c.args.access.1 c.args.access.2 c.agrees.ensures.tree inactive

pub returns-then-has_access-clause-cells : goal.returns-then-has_access-clause-cells
returns-then-has_access-clause-cells c =
    let held : set.contains c.args.state.now.accesses (c.args.access.0, c.args.access.1, c.args.access.2) ≡ true = search rules in
    held_stays c.args.state.now c.args.access.0 c.args.access.1 c.args.access.2 held

pub returns-clause-rest : goal.returns-clause-rest
returns-clause-rest c =
    let free : set.contains c.args.state.now.accesses (c.args.access.0, c.args.access.1, c.args.access.2) ≡ false = search rules in
    left_rest c.args.state.now c.args.access.0 c.args.access.1 c.args.access.2 _ free c.rescind.ensures

pub returns-clause-cells : goal.returns-clause-cells
returns-clause-cells c =
    let free : set.contains c.args.state.now.accesses (c.args.access.0, c.args.access.1, c.args.access.2) ≡ false = search rules in
    left_cells c.args.state.now c.args.access.0 c.args.access.1 c.args.access.2 _ free c.rescind.ensures
