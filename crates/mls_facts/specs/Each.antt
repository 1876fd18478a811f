-- A test of each member of a finite set.
use Rattle.std.specs.Prelude.{Bool}
use Rattle.std.specs.List.{list_all}
use Rattle.std.specs.declared.cmp.Ordering.{Ordering}
use Rattle.std.specs.FinSet as set
use Rattle.std.specs.FinSet.{FinSet}

-- Whether each member of the set passes the test. (own)
abbrev pub each : {K : Type 0} {R : K → K → Ordering} → FinSet R → (K → Bool) → Bool
each s passes = list_all passes (set.items s)
