use Rattle.std.proofs.Common.{◌≡◌, All}
use Rattle.std.specs.List.{flat_map, range_with_len}
use Rattle.mls_futures.specs.Closure.{acts_in}
use Rattle.mls_could.specs.Foreseeing.{pairs_with, pairs_of, IsForeseen}
use Rattle.mls_could.proofs.foreseeing.foresee.Given as goal

-- what becomes of the accesses of the subjects that were looked at is found
abbrev pub invariant-loop-n : goal.invariant-loop-n
invariant-loop-n l = record {
  pairs : pairs_of l.found.items ≡ flat_map (pairs_with l.mode) (range_with_len 0 l.n);
  each : All (IsForeseen l.state (acts_in l.actors) l.o) l.found.items;
}
