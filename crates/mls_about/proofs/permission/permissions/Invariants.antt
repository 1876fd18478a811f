use Rattle.std.proofs.Common.{◌≡◌, All, map}
use Rattle.mls_about.specs.Permissions.{triple_of, IsTold, permitted}
use Rattle.mls_about.proofs.permission.permissions.Given as goal

-- the permissions on the objects so far are found
abbrev pub invariant-loop-o : goal.invariant-loop-o
invariant-loop-o l = record {
  triples : map triple_of l.found.items ≡ permitted l.state l.s l.o;
  each : All (IsTold l.state) l.found.items;
}
