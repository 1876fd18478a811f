use Rattle.std.proofs.Common.{sym, subst, ap, ◌∙◌}
use Rattle.mls_state.specs.State.{State, is_active}
use Rattle.mls_snapshots.specs.Rebuilding.{IsPart}
use Rattle.mls_snapshots.proofs.Rebuilt.{part_more, active_more, active_new}
use Rattle.mls_snapshots.proofs.rebuilding.add_below.Goals as goal

pub returns-clause-part : goal.returns-clause-part
returns-clause-part c v tree below part =
    subst (λ (w : State). IsPart v w) (sym c.in_ok-add_object_at.ensures.ok)
    (part_more v c.args.state.now c.args.o c.args.parent c.args.labels.now tree below part)

pub returns-clause-kept : goal.returns-clause-kept
returns-clause-kept c q active =
    ap (λ (w : State). is_active w q) c.in_ok-add_object_at.ensures.ok
    ∙ active_more c.args.state.now c.args.o c.args.parent c.args.labels.now.security c.args.labels.now.integrity q active

pub returns-clause-there : goal.returns-clause-there
returns-clause-there c below active =
    ap (λ (w : State). is_active w c.args.o) c.in_ok-add_object_at.ensures.ok
    ∙ active_new c.args.state.now c.args.o c.args.parent c.args.labels.now.security c.args.labels.now.integrity
