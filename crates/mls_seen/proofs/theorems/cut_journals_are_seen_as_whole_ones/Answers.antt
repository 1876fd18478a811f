use Rattle.mls_seen.proofs.Whole.{cut_seen_whole}
use Rattle.mls_seen.proofs.theorems.cut_journals_are_seen_as_whole_ones.Goals as goal

pub returns : goal.returns
returns c = cut_seen_whole
