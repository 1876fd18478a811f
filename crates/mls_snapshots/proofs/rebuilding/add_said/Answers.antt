use Rattle.std.proofs.Common.{sym, ◌∙◌, Some}
use Rattle.mls_snapshots.proofs.Rebuilt.{said_below, none_some}
use Rattle.mls_snapshots.proofs.rebuilding.add_said.Goals as goal

pub returns-in_default-clause-there : goal.returns-in_default-clause-there
returns-in_default-clause-there c v said p at active =
    let below = said_below v c.args.objects.now said c.args.o p at in
    absurd (none_some (record { labels = below.0; parent = Some p }) (sym c.in_default.is ∙ c.said_of.ensures ∙ below.1))
