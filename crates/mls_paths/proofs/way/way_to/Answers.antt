use Rattle.std.proofs.Common.{subst}
use Rattle.mls_paths.specs.Ways.{AddsWay}
use Rattle.mls_paths.proofs.Leading.{way_whole}
use Rattle.mls_paths.proofs.way.way_to.Goals as goal

pub returns-in_ok-push_way-in-Some-clause-some : goal.returns-in_ok-push_way-in-Some-clause-some
returns-in_ok-push_way-in-Some-clause-some c =
    way_whole c.args.found.now c.args.place c.push_way.new.hops.items c.in-Some.at c.in-Some.ensures
    (subst (λ hs. AddsWay c.args.found.now hs c.push_way.new.hops.items c.in-Some.at) c.new-hops.ensures.items c.in_ok-push_way-in-Some.ensures)
