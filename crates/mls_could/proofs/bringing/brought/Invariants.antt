use Rattle.std.proofs.Common.{◌≡◌, Bool}
use Rattle.std.specs.Prelude.{filter}
use Rattle.mls_tables.specs.Triples.{Triple}
use Rattle.mls_could.specs.Brought.{accesses_of, is_lacking}
use Rattle.mls_could.specs.Outsets.{acts_of, Decides}
use Rattle.mls_could.proofs.bringing.brought.Given as goal

-- the accesses of the subjects so far are found
abbrev pub invariant-loop-n : goal.invariant-loop-n
invariant-loop-n l =
    (test : Triple → Bool) → Decides test l.state (acts_of l.outset) → l.found.items ≡ filter (is_lacking l.state test) (accesses_of l.n)
