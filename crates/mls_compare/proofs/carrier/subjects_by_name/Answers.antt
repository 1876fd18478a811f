use Rattle.std.proofs.Common.{◌∙◌, sym}
use Rattle.mls_compare.proofs.Labels.{counterparts_none, counterparts_more}
use Rattle.mls_compare.proofs.carrier.subjects_by_name.Goals as goal

pub loop-n-init : goal.loop-n-init
loop-n-init c = c.new-subjects.ensures.items ∙ sym (counterparts_none c.args.first.now.subjects c.args.second.now.subjects)

pub loop-n-preserved : goal.loop-n-preserved
loop-n-preserved c =
    counterparts_more c.args.first.now.subjects c.args.second.now.subjects c.loop-n.n c.loop-n.subjects.items c.push.new.self.items
    c.counterpart_subject.result c.loop-n.invariant c.in_ok-push.ensures.items c.counterpart_subject.ensures
