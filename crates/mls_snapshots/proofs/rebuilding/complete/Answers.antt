use Rattle.std.proofs.Common.{ap, ◌∙◌}
use Rattle.std.specs.FinSet as set
use Rattle.mls_state.specs.First.{with_triples}
use Rattle.mls_snapshots.proofs.Rebuilt.{completed}
use Rattle.mls_snapshots.proofs.rebuilding.complete.Goals as goal

pub returns : goal.returns
returns c v tree whole said part =
    completed v c.add_objects.new.state c.give_each.new.state c.access_each.new.state c.deref.result.now c.deref-2.result.now tree
    (c.in_ok-add_objects.ensures v tree whole said part) c.give_each.ensures c.in_ok-access_each.ensures
    (ap (with_triples set.empty) c.deref.ensures.value ∙ said.matrix) (ap (with_triples set.empty) c.deref-2.ensures.value ∙ said.accesses)
