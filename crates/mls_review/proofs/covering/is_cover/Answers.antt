use Rattle.mls_review.proofs.Within.{covered}
use Rattle.mls_review.proofs.covering.is_cover.Goals as goal

pub returns : goal.returns
returns c =
    covered c.args.labels.now c.args.over.now c.args.lower c.args.upper c.index-labels-lower.result c.index-labels-upper.result c.covers.result
    c.requires.lower c.requires.upper c.index-labels-lower.is c.index-labels-upper.is c.requires.over c.covers.ensures
