use Rattle.mls_differences.proofs.Growing.{names_more, names_none}
use Rattle.mls_differences.specs.declared.single.Kind.TheVariants.{Object}
use Rattle.mls_differences.proofs.only.push_objects.Goals as goal

pub loop-n-init : goal.loop-n-init
loop-n-init c = names_none c.args.side Object c.args.names.now.objects c.args.others.now.objects c.args.rows.now.items

pub loop-n-preserved : goal.loop-n-preserved
loop-n-preserved c =
    names_more c.args.side Object c.args.names.now.objects c.args.others.now.objects c.loop-n.n c.args.rows.now.items c.loop-n.rows.items c.push_object.new.rows.items
    c.loop-n.invariant c.in_ok-push_object.ensures
