use Rattle.mls_could.specs.Brought.{is_untrusted}
use Rattle.mls_could.specs.Outsets.{acts_of}
use Rattle.mls_grid.proofs.Rows.{same_acting}
use Rattle.mls_grid.proofs.grid.grid_of.Goals as goal

pub returns : goal.returns
returns c =
    same_acting c.args.state.now (acts_of c.in_ok-outset.outset) (is_untrusted c.args.state.now) c.grid_where-found.result c.in_ok-outset.ensures.acts
    c.grid_where-found.ensures
