use Rattle.mls_review.proofs.Found.{all_true}
use Rattle.mls_review.proofs.dead.dead_permissions.Goals as goal

pub returns-clause-each : goal.returns-clause-each
returns-clause-each g c = all_true c.args.state.now c.agrees.ensures.tree c.in_ok-found.found.items c.in_ok-found.ensures
