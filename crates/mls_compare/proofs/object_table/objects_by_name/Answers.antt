use Rattle.std.proofs.Common.{◌∙◌, ap, sym, map}
use Rattle.mls_compare.specs.Carriers.{from_the_beginning}
use Rattle.mls_compare.proofs.Labels.{counterparts_none}
use Rattle.mls_compare.proofs.Tables.{named_more}
use Rattle.mls_compare.proofs.object_table.objects_by_name.Goals as goal

pub loop-n-init : goal.loop-n-init
loop-n-init c =
    c.new-objects.ensures.items ∙ ap (map from_the_beginning) (sym (counterparts_none c.args.first.now.objects c.args.second.now.objects))

pub loop-n-preserved : goal.loop-n-preserved
loop-n-preserved c =
    named_more c.args.first.now.objects c.args.second.now.objects c.loop-n.n c.loop-n.objects.items c.push.new.self.items
    c.from_the_beginning.result c.counterpart_object-o.result c.loop-n.invariant c.in_ok-push.ensures.items c.from_the_beginning.ensures
    c.counterpart_object-o.ensures
