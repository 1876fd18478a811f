use Rattle.mls_paths.specs.Hands.{Hands}
use Rattle.mls_paths.proofs.Breadth.{expands_on}
use Rattle.mls_paths.proofs.searching.expand.Goals as goal

pub loop-n-preserved : goal.loop-n-preserved
loop-n-preserved c =
    expands_on (Hands c.args.state.now c.args.ground) c.args.found.now.items c.loop-n.found.items c.visit.new.found.items c.loop-n.marked.items c.visit.new.marked.items c.args.at
    c.loop-n.n c.args.from.now c.loop-n.invariant c.in_ok-visit.ensures
