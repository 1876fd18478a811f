use Rattle.std.proofs.Common.{ap, eqb, ◌∙◌}
use Rattle.std.specs.List.{list_any}
use Rattle.mls_tables.proofs.IndexedTable.{subjects_listed, subjects_each}
use Rattle.mls_tables.proofs.access_set.AccessSet.subjects_of.Goals as goal

pub returns-clause-list : goal.returns-clause-list
returns-clause-list g c =
    let index = c.self.inside.index in
    rw (← c.self.view_is) (c.subjects_of.ensures ∙ subjects_listed c.self.inside.matrix.triples c.args.o index.objects.lists index.subjects.lists c.self.invariant.held)

pub returns-clause-each : goal.returns-clause-each
returns-clause-each g c s =
    let index = c.self.inside.index in
    rw (← c.self.view_is) (ap (list_any (eqb s)) c.subjects_of.ensures ∙ subjects_each c.self.inside.matrix.triples c.args.o index.objects.lists index.subjects.lists c.self.invariant.held s)
