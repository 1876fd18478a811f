use Rattle.mls_snapshots.proofs.Likes.{start_is}
use Rattle.mls_snapshots.proofs.state_start.opens_alike.Goals as goal

pub returns-in-Ok : goal.returns-in-Ok
returns-in-Ok c =
    start_is c.args.names.now c.args.state.now c.args.text.now c.as_bytes.result.now c.args.order.now c.in-Ok.loaded c.is_like-alike.result
    c.as_bytes.ensures.value c.in-Ok.ensures.ok c.is_like-alike.ensures.ordered c.is_like-alike.ensures.state c.is_like-alike.ensures.names
