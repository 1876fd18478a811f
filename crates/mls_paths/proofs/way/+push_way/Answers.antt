use Rattle.std.proofs.Common.{length, refl}
use Rattle.std.proofs.lemmas.Option.{slice_get_read}
use Rattle.mls_paths.proofs.Leading.{way_first, way_more, way_wrong}
use Rattle.mls_paths.proofs.way.+push_way.Goals as goal

pub returns-then-came-at : goal.returns-then-came-at
returns-then-came-at t c =
    way_wrong c.args.found.now c.args.hops.now.items c.args.at c.index-found-at.result c.in-Some.came
    (slice_get_read c.args.found.now (length c.args.found.now) c.args.at c.index-found-at.result refl c.requires c.index-found-at.is) c.in-Some.is c.if-came-at.true

pub returns-in_ok-push-in-Some : goal.returns-in_ok-push-in-Some
returns-in_ok-push-in-Some t c =
    way_more c.args.found.now c.args.hops.now.items c.push_way.new.hops.items c.push.new.self.items c.args.at c.index-found-at.result c.in-Some.came
    (slice_get_read c.args.found.now (length c.args.found.now) c.args.at c.index-found-at.result refl c.requires c.index-found-at.is) c.in-Some.is
    c.in_ok-push_way-in-Some.ensures c.in_ok-push-in-Some.ensures.items

pub returns-in-None : goal.returns-in-None
returns-in-None t c =
    way_first c.args.found.now c.args.hops.now.items c.args.at c.index-found-at.result
    (slice_get_read c.args.found.now (length c.args.found.now) c.args.at c.index-found-at.result refl c.requires c.index-found-at.is) c.in-None.is
