use Rattle.std.proofs.Common.{ap, eqb, ◌∙◌}
use Rattle.std.specs.List.{list_any}
use Rattle.mls_tables.proofs.IndexedTable.{objects_listed, objects_each}
use Rattle.mls_tables.proofs.access_set.AccessSet.objects_of.Goals as goal

pub returns-clause-list : goal.returns-clause-list
returns-clause-list g c =
    let index = c.self.inside.index in
    rw (← c.self.view_is) (c.objects_of.ensures ∙ objects_listed c.self.inside.matrix.triples c.args.s index.objects.lists index.subjects.lists c.self.invariant.held)

pub returns-clause-each : goal.returns-clause-each
returns-clause-each g c o =
    let index = c.self.inside.index in
    rw (← c.self.view_is) (ap (list_any (eqb o)) c.objects_of.ensures ∙ objects_each c.self.inside.matrix.triples c.args.s index.objects.lists index.subjects.lists c.self.invariant.held o)
