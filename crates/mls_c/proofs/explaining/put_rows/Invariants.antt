use Rattle.std.proofs.Common.{◌≡◌, ◌++◌, drop, take, map}
use Rattle.mls_c.specs.Conditions.{numbers_of_condition}
use Rattle.mls_c.proofs.explaining.put_rows.Given as goal

-- the conditions so far stand at the front
abbrev pub invariant-loop-k : goal.invariant-loop-k
invariant-loop-k l = l.rows ≡ map numbers_of_condition (take l.k l.all) ++ drop l.k l.initial.rows
