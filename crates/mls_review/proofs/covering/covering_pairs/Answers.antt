use Rattle.mls_review.specs.Covers.{covers_of}
use Rattle.std.proofs.Common.{[]}
use Rattle.mls_review.proofs.Lists.{gathered_more}
use Rattle.mls_review.proofs.covering.covering_pairs.Goals as goal

pub loop-lower-preserved : goal.loop-lower-preserved
loop-lower-preserved c =
    gathered_more (covers_of c.args.labels.now) c.loop-lower.lower [] c.loop-lower.found.items c.push_covers.new.found.items
    c.loop-lower.invariant c.in_ok-push_covers.ensures
