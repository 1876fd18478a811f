use Rattle.std.proofs.Common.{◌≡◌, subst}
use Rattle.std.specs.Prelude.{IfOk}
use Rattle.mls_spans.proofs.Usages.{told_usages}
use Rattle.mls_spans.proofs.using.usages_over.Goals as goal

pub returns : goal.returns
returns c =
    subst (λ l. IfOk c.usages_by-usages.result (λ usages. usages.items ≡ l))
    (told_usages c.args.first.now c.args.entries.now c.in_ok-tally.tally c.in_ok-tally.ensures) c.usages_by-usages.ensures
