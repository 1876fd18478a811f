use Rattle.std.proofs.Common.{map, string_bytes}
use Rattle.mls_differences.proofs.Growing.{names_more, names_none}
use Rattle.mls_differences.proofs.only_listed.push_places.Goals as goal

pub loop-n-init : goal.loop-n-init
loop-n-init c =
    names_none c.args.side c.args.kind (map string_bytes c.args.names.now) (map string_bytes c.args.others.now) c.args.rows.now.items

pub loop-n-preserved : goal.loop-n-preserved
loop-n-preserved c =
    names_more c.args.side c.args.kind (map string_bytes c.args.names.now) (map string_bytes c.args.others.now) c.loop-n.n c.args.rows.now.items
    c.loop-n.rows.items c.push_place.new.rows.items c.loop-n.invariant c.in_ok-push_place.ensures
