use Rattle.std.proofs.Common.{◌++◌, sym, ap, ◌∙◌}
use Rattle.mls_differences.specs.Counterparts.{counterpart, shared_as}
use Rattle.mls_differences.proofs.Growing.{shared_more}
use Rattle.mls_differences.proofs.shared.shared_objects.Goals as goal

pub loop-n-preserved : goal.loop-n-preserved
loop-n-preserved c =
    c.in_ok-push_object.ensures
    ∙ ap (λ t. t ++ shared_as c.loop-n.n (counterpart c.args.first.now.objects c.args.second.now.objects c.loop-n.n)) c.loop-n.invariant
    ∙ sym (shared_more c.args.first.now.objects c.args.second.now.objects c.loop-n.n)
