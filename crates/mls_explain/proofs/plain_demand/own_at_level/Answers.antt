use Rattle.std.proofs.Common.{Some, ap, sym, ◌∙◌}
use Rattle.mls_state.specs.Properties.{star_between}
use Rattle.mls_explain.proofs.Untrusted.{star_at_level}
use Rattle.mls_explain.proofs.plain_demand.own_at_level.Goals as goal

pub returns : goal.returns
returns g c =
    c.star_between.ensures
    ∙ ap (λ e. star_between (Some c.args.level) e c.args.x) (sym c.object_label.ensures)
    ∙ sym (star_at_level c.args.state.now c.args.s c.args.o c.args.x c.args.level)
