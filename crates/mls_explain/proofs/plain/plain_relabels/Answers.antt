use Rattle.std.proofs.Common.{sym, ◌∙◌}
use Rattle.mls_requests.specs.declared.reason.Reason.TheVariants.{Authority}
use Rattle.mls_explain.proofs.Untrusted.{relabel_alone, relabel_ground_alone}
use Rattle.mls_explain.proofs.plain.plain_relabels.Goals as goal

pub returns : goal.returns
returns g c =
    let v = c.args.state.now in
    let holds = sym (relabel_alone v c.args.s c.args.o c.args.l) in
    let basis = sym (relabel_ground_alone v c.args.s c.args.o c.args.l) in
    c.relabels_alone.ensures ∙ (λ i. record { reason = Authority; holds = holds i; basis = basis i })
