use Rattle.std.proofs.Common.{rules, arith}
use Rattle.mls_sessions.proofs.StepsKeep.{marks_at}
use Rattle.mls_sessions.proofs.gate.mark.Goals as goal

pub compare_exchange-found-requires : goal.compare_exchange-found-requires
compare_exchange-found-requires c = (search rules, search rules, marks_at _ _ _ _ _ _ c.requires.session c.requires.held (grind arith) (omega arith))
