use Rattle.std.proofs.Common.{sym, subst}
use Rattle.mls_could.specs.Brought.{AreBrought}
use Rattle.mls_could.specs.Outsets.{acts_of}
use Rattle.mls_could.proofs.Lacking.{told_brought}
use Rattle.mls_could.proofs.linted.list_brought.Goals as goal

pub returns : goal.returns
returns c =
    told_brought c.args.form c.args.names.now c.args.state.now c.in_ok-outset.outset c.deref.result.now c.written-listing.result c.in_ok-outset.ensures.acts
    (subst (AreBrought c.args.state.now (acts_of c.in_ok-outset.outset)) (sym c.deref.ensures.value) c.in_ok-found.ensures)
    c.written-listing.ensures.bytes c.written-listing.ensures.positive
