use Rattle.mls_explain.proofs.LowerLevels.{trusted_least, trusted_helps}
use Rattle.mls_explain.proofs.helping.least_trusted.Goals as goal

pub returns-clause-least : goal.returns-clause-least
returns-clause-least g c = λ m few helps. trusted_least c.lowest.result c.lowest.ensures m

pub returns-clause-helps : goal.returns-clause-helps
returns-clause-helps g c = λ m few helps. trusted_helps c.args.state.now c.args.s c.args.o c.args.x c.lowest.result c.lowest.ensures c.requires m helps
