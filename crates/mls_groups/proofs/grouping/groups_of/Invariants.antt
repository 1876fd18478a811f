use Rattle.std.proofs.Common.{◌≡◌, ◌<◌, ◌≤◌, ◌-◌, ◌++◌, drop, length}
use Rattle.std.specs.Prelude.{map}
use Rattle.mls_groups.specs.Groups.{run_of, runs, runs_from}
use Rattle.mls_groups.proofs.grouping.groups_of.Given as goal

-- the groups so far, and the runs of the keys from here on, are all runs
abbrev pub invariant-loop-place : goal.invariant-loop-place
invariant-loop-place l = record {
  begun : l.begin < l.place;
  within : l.place ≤ length l.keys;
  told : map run_of l.groups.items ++ runs_from l.key (l.place - l.begin) (drop l.place l.keys) ≡ runs l.keys;
}
