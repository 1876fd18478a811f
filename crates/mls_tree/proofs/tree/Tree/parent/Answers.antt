use Rattle.std.proofs.Common.{None, get_or, sym, ap, ◌∙◌}
use Rattle.std.specs.FinMap as map
use Rattle.mls_facts.proofs.Numbered.{get-numbered-option}
use Rattle.mls_tree.proofs.tree.Tree.parent.Goals as goal

pub returns-in-Some : goal.returns-in-Some
returns-in-Some g c =
    c.in-Some.ensures.lookup.3.1 None
    ∙ (λ i. get_or (c.deref.ensures.value i) (c.number.ensures i) None)
    ∙ sym (get-numbered-option c.self.inside.parents.items c.args.o)
    ∙ ap (λ h. map.get h.parent c.args.o) c.self.view_is
