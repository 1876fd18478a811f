use Rattle.mls_futures.proofs.Within.{opens_within, fold_within}
use Rattle.mls_futures.proofs.exact.labels_stay_within_the_bounds.Goals as goal

pub returns : goal.returns
returns c = record { opening = opens_within; journals = fold_within }
