use Rattle.mls_explain.proofs.Meets.{meet_first, meet_second, meet_greatest}
use Rattle.mls_explain.proofs.meet.meet.Goals as goal

pub returns-clause-first : goal.returns-clause-first
returns-clause-first c = meet_first c.args.a c.args.b c.met.result c.met.ensures.level c.met.ensures.categories

pub returns-clause-second : goal.returns-clause-second
returns-clause-second c = meet_second c.args.a c.args.b c.met.result c.met.ensures.level c.met.ensures.categories

pub returns-clause-greatest : goal.returns-clause-greatest
returns-clause-greatest c = meet_greatest c.args.a c.args.b c.met.result c.met.ensures.level c.met.ensures.categories
