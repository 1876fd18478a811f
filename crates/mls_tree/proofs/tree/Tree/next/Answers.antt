use Rattle.std.proofs.Common.{subst}
use Rattle.mls_tree.specs.Tree.{Hierarchy, HasNext, is_active}
use Rattle.mls_tree.proofs.Kept.{HasNext-kept}
use Rattle.mls_tree.proofs.tree.Tree.next.Goals as goal

abbrev IsRight : Hierarchy → Type 0
IsRight h = HasNext h.profile (is_active h.parent) h.next

pub returns-in-Two-clause-right : goal.returns-in-Two-clause-right
returns-in-Two-clause-right g c =
    subst IsRight c.self.view_is (HasNext-kept c.self.inside.profile c.self.inside.parents.items c.self.inside.children.lists c.self.inside.active c.self.invariant)
