use Rattle.std.proofs.Common.{◌≡◌, subst}
use Rattle.std.specs.Prelude.{IfOk}
use Rattle.mls_spans.proofs.EverListed.{permissions_told}
use Rattle.mls_spans.proofs.ever.permissions_over.Goals as goal

pub returns : goal.returns
returns c =
    subst (λ l. IfOk c.permissions_on-found.result (λ found. found.items ≡ l))
    (permissions_told c.args.first.now c.args.entries.now c.args.asked c.args.o c.in_ok-tally.tally c.fits.ensures c.in_ok-tally.ensures)
    c.permissions_on-found.ensures
