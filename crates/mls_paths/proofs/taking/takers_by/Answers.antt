use Rattle.std.proofs.Common.{◌+◌, sym, subst}
use Rattle.mls_paths.specs.Hands.{acts_of, AreTaken, TakesBy}
use Rattle.mls_paths.proofs.Tables.{takers_more}
use Rattle.mls_paths.proofs.taking.takers_by.Goals as goal

pub loop-n-preserved : goal.loop-n-preserved
loop-n-preserved c =
    subst (λ xs. AreTaken c.args.state.now (acts_of c.args.ground) xs (c.loop-n.n + 1)) (sym c.in_ok-push.ensures.items)
    (takers_more c.args.state.now (acts_of c.args.ground) c.loop-n.takers.items c.loop-n.n c.taker_of-taker.result c.loop-n.invariant
    (subst (λ k. TakesBy c.args.state.now (acts_of c.args.ground) k c.taker_of-taker.result) c.new.ensures c.taker_of-taker.ensures))
