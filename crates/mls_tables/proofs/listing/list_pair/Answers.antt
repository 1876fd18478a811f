use Rattle.std.proofs.Common.{◌≤◌, [], length, get_or, arith}
use Rattle.mls_tables.specs.declared.limits.TheConstants.{MAX_SUBJECTS, MAX_OBJECTS}
use Rattle.mls_tables.specs.Held.{is_held}
use Rattle.mls_tables.proofs.Rows.{row-few}
use Rattle.mls_tables.proofs.listing.list_pair.Goals as goal

pub link-requires-clause-few_objects : goal.link-requires-clause-few_objects
link-requires-clause-few_objects g c = row-few (is_held c.args.matrix.now.triples) MAX_OBJECTS c.args.index.now.objects.lists c.requires.indexed.held.rows c.args.s

pub link-requires-clause-few_subjects : goal.link-requires-clause-few_subjects
link-requires-clause-few_subjects g c =
    let few : length (get_or c.args.index.now.subjects.lists c.args.o []) ≤ MAX_SUBJECTS = row-few (λ o s. is_held c.args.matrix.now.triples s o) MAX_SUBJECTS c.args.index.now.subjects.lists c.requires.indexed.held.columns c.args.o in
    omega arith

pub returns-in_ok-link-clause-ok : goal.returns-in_ok-link-clause-ok
returns-in_ok-link-clause-ok g c = c.in_ok-link.ensures.ok (is_held c.args.matrix.now.triples) c.requires.indexed.held
