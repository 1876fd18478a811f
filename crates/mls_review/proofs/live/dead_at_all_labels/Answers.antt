use Rattle.mls_review.proofs.Reach.{obstacle_dead, obstacle_first}
use Rattle.mls_review.proofs.live.dead_at_all_labels.Goals as goal

pub returns-clause-dead : goal.returns-clause-dead
returns-clause-dead g c = λ t permitted. obstacle_dead c.args.state.now t.0 t.1 t.2 c.agrees.ensures.tree permitted

pub returns-clause-reason : goal.returns-clause-reason
returns-clause-reason g c = λ t reason permitted is. obstacle_first c.args.state.now t.0 t.1 t.2 c.agrees.ensures.tree permitted reason is
