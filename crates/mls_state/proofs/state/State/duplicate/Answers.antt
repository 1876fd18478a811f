use Rattle.std.proofs.Common.{◌∙◌}
use Rattle.mls_state.proofs.Copies.{agrees-same}
use Rattle.mls_state.proofs.state.State.duplicate.Goals as goal

pub invariant_of-result : goal.invariant_of-result
invariant_of-result g c =
    agrees-same c.self.inside _ c.self.invariant
    (c.in_ok-rows.ensures.subjects ∙ c.deref.ensures.value)
    (c.in_ok-rows.ensures.objects ∙ c.deref-2.ensures.value)
    c.in_ok-tree.ensures c.in_ok-tables.ensures.matrix c.in_ok-tables.ensures.accesses
