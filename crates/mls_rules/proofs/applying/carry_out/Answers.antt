use Rattle.mls_rules.proofs.Security.{after_secure}
use Rattle.mls_rules.proofs.applying.carry_out.Goals as goal

pub returns-clause-secure : goal.returns-clause-secure
returns-clause-secure g c secure = rw c.in_ok-change_where_granted.ensures.ok (after_secure c.args.state.now c.args.request.now secure)
