use Rattle.mls_state.proofs.Tables.{has_tree, has_whole_tables}
use Rattle.mls_state.proofs.state.State.next.Goals as goal

pub returns-clause-tree : goal.returns-clause-tree
returns-clause-tree g c = rw (← c.self.view_is) (has_tree c.self.inside c.self.invariant)

pub returns-clause-whole : goal.returns-clause-whole
returns-clause-whole g c = rw (← c.self.view_is) (has_whole_tables c.self.inside c.self.invariant)
