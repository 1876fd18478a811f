use Rattle.std.proofs.Common.{◌≡◌, All}
use Rattle.std.specs.List.{flat_map, range_with_len}
use Rattle.mls_explain.specs.Prospects.{permitted_modes, pairs_of, IsProspect}
use Rattle.mls_explain.proofs.permitted.prospects.Given as goal

-- what the subjects that were looked at may get is found
abbrev pub invariant-loop-n : goal.invariant-loop-n
invariant-loop-n g l = record {
  pairs : pairs_of l.found.items ≡ flat_map (permitted_modes l.state l.o l.asked) (range_with_len 0 l.n);
  each : All (IsProspect l.state l.o) l.found.items;
}
