use Rattle.mls_spans.proofs.Begins.{four_begin}
use Rattle.mls_spans.proofs.opening.push_cell.Goals as goal

pub returns : goal.returns
returns c =
    four_begin c.args.state.now c.args.s c.args.o _ _ _ _ _ c.in_ok-push_access.ensures c.in_ok-push_access-2.ensures c.in_ok-push_access-3.ensures
    c.in_ok-push_access-4.ensures
