use Rattle.mls_c.proofs.ReadBack.{entry_apart}
use Rattle.mls_c.proofs.theorems.entries_have_their_numbers.Goals as goal

pub returns : goal.returns
returns c = record { apart = entry_apart }
