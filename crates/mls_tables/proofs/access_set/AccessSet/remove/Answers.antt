use Rattle.std.proofs.Common.{sym}
use Rattle.std.specs.FinSet as set
use Rattle.mls_tables.specs.declared.limits.TheConstants.{MAX_OBJECTS}
use Rattle.mls_tables.specs.Held.{is_held}
use Rattle.mls_tables.proofs.Held.{held_remove}
use Rattle.mls_tables.proofs.Indexes.{Indexes-same}
use Rattle.mls_tables.proofs.IndexedTable.{IsIndexed-changed, remove-unknown}
use Rattle.mls_tables.proofs.access_set.AccessSet.remove.Goals as goal

pub returns-then-not-contains-clause-removed : goal.returns-then-not-contains-clause-removed
returns-then-not-contains-clause-removed g c =
    let now = c.args.self.now in
    λ i. record { subjects = now.subjects; columns = now.columns; triples = sym (remove-unknown now.triples (c.args.s, c.args.o, c.args.x) (sym c.if-not-contains.ensures)) i }

pub unlist_pair-requires-clause-told : goal.unlist_pair-requires-clause-told
unlist_pair-requires-clause-told g c = record { relation = _; bound = MAX_OBJECTS; rows = c.self.invariant.held.rows }

pub invariant_of-self : goal.invariant_of-self
invariant_of-self g c =
    let index = c.self.inside.index in
    let matrix = c.self.inside.matrix in
    let after = c.unlist_pair.new.index in
    let ts = set.remove matrix.triples (c.args.s, c.args.o, c.args.x) in
    let listed = rw c.rescind.ensures at (c.unlist_pair.ensures.listed (is_held matrix.triples) c.self.invariant.held) in
    rw c.rescind.ensures (IsIndexed-changed matrix index.objects.lists index.subjects.lists after.objects.lists after.subjects.lists ts c.self.invariant c.unlist_pair.ensures.rows c.unlist_pair.ensures.columns
    (Indexes-same _ (is_held ts) after.objects.lists after.subjects.lists (λ a b. sym (held_remove matrix.triples c.args.s c.args.o c.args.x a b)) listed))
