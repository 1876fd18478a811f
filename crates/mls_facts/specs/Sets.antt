-- Equality of finite sets, as a test.
use Rattle.std.specs.Prelude.{Bool, ◌&&◌}
use Rattle.std.specs.declared.cmp.Ordering.{Ordering}
use Rattle.std.specs.FinSet.{FinSet, is_subset}

-- Whether each of two sets contains the other. (own)
abbrev pub is_same_set : {K : Type 0} {R : K → K → Ordering} → FinSet R → FinSet R → Bool
is_same_set s t = is_subset s t && is_subset t s
