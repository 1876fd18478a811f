use Rattle.std.proofs.Common.{◌≡◌, ◌++◌, Bool}
use Rattle.std.specs.Prelude.{filter}
use Rattle.std.specs.List.{flat_map, range_with_len}
use Rattle.mls_tables.specs.Triples.{Triple}
use Rattle.mls_could.specs.Brought.{accesses_to, is_lacking}
use Rattle.mls_could.specs.Outsets.{acts_of, Decides}
use Rattle.mls_could.proofs.bringing.push_subject.Given as goal

-- the accesses to the objects so far are added
abbrev pub invariant-loop-n : goal.invariant-loop-n
invariant-loop-n l =
    (test : Triple → Bool) → Decides test l.state (acts_of l.outset)
    → l.found.items ≡ l.fn.found.items ++ filter (is_lacking l.state test) (flat_map (accesses_to l.s) (range_with_len 0 l.n))
