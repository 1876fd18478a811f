use Rattle.mls_explain.proofs.Joins.{join_least, join_above}
use Rattle.mls_explain.proofs.join.join.Goals as goal

pub returns-clause-least : goal.returns-clause-least
returns-clause-least c = join_least c.args.a c.args.b c.joined.result c.joined.ensures.level c.joined.ensures.categories

pub returns-clause-above : goal.returns-clause-above
returns-clause-above c = join_above c.args.a c.args.b c.joined.result c.joined.ensures.level c.joined.ensures.categories
