use Rattle.std.proofs.Common.{◌≡◌, true, take}
use Rattle.mls_start.specs.RowAccesses.{all_permitted}
use Rattle.mls_start.specs.Rows.{all_labels}
use Rattle.mls_start.proofs.start_builder.secure.are_secure.Given as goal

-- the accesses so far are secure
abbrev pub invariant-loop-access : goal.invariant-loop-access
invariant-loop-access l = all_permitted l.cells l.subjects (all_labels l.root l.objects) (take l.access-index l.accesses) ≡ true
