use Rattle.std.proofs.Common.{true, sym, arith}
use Rattle.std.proofs.lemmas.Bool.{eq-eqb}
use Rattle.mls_durable.proofs.KeptLines.{no_variable}
use Rattle.mls_durable.proofs.address.has_variable.Goals as goal

pub returns-in-None : goal.returns-in-None
returns-in-None c = sym (no_variable true c.args.line.now (λ k h is. c.in-None.ensures k (omega arith) h (eq-eqb _ _ is)))
