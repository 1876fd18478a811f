use Rattle.std.proofs.Common.{sym, ◌∙◌}
use Rattle.mls_state.specs.Properties.{star_between}
use Rattle.mls_explain.proofs.Untrusted.{star_at_label}
use Rattle.mls_explain.proofs.plain_demand.own_at_label.Goals as goal

pub returns : goal.returns
returns g c =
    c.star_between.ensures
    ∙ (λ i. star_between (sym c.current.ensures i) (sym c.label_of.ensures i) c.args.x)
    ∙ sym (star_at_label c.args.state.now c.args.s c.args.o c.args.x c.args.changed c.args.label)
