use Rattle.std.proofs.Common.{rules, ◌≡◌, false}
use Rattle.mls_state.specs.State.{is_subject, is_active}
use Rattle.mls_state.proofs.Unlisted.{none_of_unknown, none_of_inactive}
use Rattle.mls_state.proofs.table.Table.modes.Goals as goal

pub returns-then-not-is_subject : goal.returns-then-not-is_subject
returns-then-not-is_subject g c =
    let unknown : is_subject c.args.state.now c.args.s ≡ false = search rules in
    none_of_unknown _ c.args.self c.args.state.now c.args.s c.args.o c.empty.ensures c.agrees.ensures.tree unknown

pub returns-then-not-is_active : goal.returns-then-not-is_active
returns-then-not-is_active g c =
    let inactive : is_active c.args.state.now c.args.o ≡ false = search rules in
    none_of_inactive _ c.args.self c.args.state.now c.args.s c.args.o c.empty-then-not-is_active.ensures c.agrees.ensures.tree inactive
