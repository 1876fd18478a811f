use Rattle.std.proofs.Common.{sym}
use Rattle.std.specs.FinSet as set
use Rattle.mls_tables.specs.Held.{is_held}
use Rattle.mls_tables.proofs.Laws.{insert-known}
use Rattle.mls_tables.proofs.Held.{held_insert}
use Rattle.mls_tables.proofs.Indexes.{Indexes-same}
use Rattle.mls_tables.proofs.IndexedTable.{IsIndexed-changed}
use Rattle.mls_tables.proofs.access_set.AccessSet.insert.Goals as goal

pub returns-then-contains-clause-ok : goal.returns-then-contains-clause-ok
returns-then-contains-clause-ok g c =
    let now = c.args.self.now in
    λ i. record { subjects = now.subjects; columns = now.columns; triples = sym (insert-known now.triples (c.args.s, c.args.o, c.args.x) (sym c.if-contains.ensures)) i }

pub invariant_of-self-2 : goal.invariant_of-self-2
invariant_of-self-2 g c =
    let index = c.self.inside.index in
    let matrix = c.self.inside.matrix in
    let after = c.list_pair.new.index in
    let ts = set.insert matrix.triples (c.args.s, c.args.o, c.args.x) in
    rw c.give.ensures (IsIndexed-changed matrix index.objects.lists index.subjects.lists after.objects.lists after.subjects.lists ts c.self.invariant c.list_pair.ensures.rows c.list_pair.ensures.columns
    (Indexes-same _ (is_held ts) after.objects.lists after.subjects.lists (λ a b. sym (held_insert matrix.triples c.args.s c.args.o c.args.x a b)) c.in_ok-list_pair.ensures.ok))
