use Rattle.std.proofs.Common.{inr, refl}
use Rattle.mls_c.proofs.session_counting.count.Goals as goal

pub returns-in-Ok-clause-status : goal.returns-in-Ok-clause-status
returns-in-Ok-clause-status c = inr (c.in-Ok.ensures.seen, refl)
