use Rattle.mls_review.specs.Covers.{cover_at}
use Rattle.mls_review.proofs.Lists.{gathered_more}
use Rattle.mls_review.proofs.covering.push_covers.Goals as goal

pub loop-upper-preserved : goal.loop-upper-preserved
loop-upper-preserved c =
    gathered_more (cover_at c.args.labels.now c.args.lower) c.loop-upper.upper c.args.found.now.items c.loop-upper.found.items c.push_cover.new.found.items
    c.loop-upper.invariant c.in_ok-push_cover.ensures
