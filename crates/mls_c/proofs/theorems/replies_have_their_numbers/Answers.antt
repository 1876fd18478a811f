use Rattle.mls_c.proofs.ReadBack.{reply_apart}
use Rattle.mls_c.proofs.theorems.replies_have_their_numbers.Goals as goal

pub returns : goal.returns
returns c = record { apart = reply_apart }
