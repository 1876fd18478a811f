use Rattle.std.proofs.Common.{◌≡◌, map, take, string_bytes}
use Rattle.mls_snapshots.proofs.scheme_names.category_names.Given as goal

-- the names of the categories so far
abbrev pub invariant-loop-n : goal.invariant-loop-n
invariant-loop-n l = map string_bytes l.names.items ≡ take l.n l.scheme.categories
