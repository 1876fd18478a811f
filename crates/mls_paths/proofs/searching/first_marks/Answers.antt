use Rattle.std.proofs.Common.{true, set, ap}
use Rattle.mls_paths.proofs.searching.first_marks.Goals as goal

pub returns : goal.returns
returns c = ap (λ xs. set xs c.args.n true) (c.in_ok-marks.ensures.items_if_clones_equal (λ y is. is))
