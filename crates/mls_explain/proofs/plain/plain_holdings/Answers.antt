use Rattle.std.proofs.Common.{sym, ◌∙◌}
use Rattle.mls_requests.specs.declared.reason.Reason.TheVariants.{Star}
use Rattle.mls_explain.proofs.Untrusted.{holdings_alone}
use Rattle.mls_explain.proofs.plain.plain_holdings.Goals as goal

pub returns : goal.returns
returns g c =
    let basis = sym (holdings_alone c.args.state.now c.args.s c.args.l) in
    c.new.ensures ∙ (λ i. record { reason = Star; holds = c.subject_meets-holds.ensures i; basis = basis i })
