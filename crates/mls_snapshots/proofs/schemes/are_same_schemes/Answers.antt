use Rattle.mls_snapshots.proofs.Likes.{schemes_alike}
use Rattle.mls_snapshots.proofs.schemes.are_same_schemes.Goals as goal

pub returns : goal.returns
returns c =
    schemes_alike c.args.a.now c.args.b.now c.are_categories_alike.result c.has_same_bounds.ensures.sound
    (c.has_same_bounds.ensures.same c.if-not-has_same_bounds.false) (c.in_ok-are_levels_alike.ensures c.if-not-branch.false) c.are_categories_alike.ensures
