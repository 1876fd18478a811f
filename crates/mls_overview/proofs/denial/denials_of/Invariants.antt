use Rattle.std.proofs.Common.{◌≡◌, take}
use Rattle.std.specs.List.{All}
use Rattle.std.specs.Prelude.{map}
use Rattle.mls_overview.specs.Denials.{IsOf, said_by, said_of}
use Rattle.mls_overview.proofs.denial.denials_of.Given as goal

-- the groups so far are told
abbrev pub invariant-loop-group : goal.invariant-loop-group
invariant-loop-group l = record {
  said : map said_of l.found.items ≡ map said_by (take l.group-index l.groups);
  last : All (IsOf l.entries) l.found.items;
}
