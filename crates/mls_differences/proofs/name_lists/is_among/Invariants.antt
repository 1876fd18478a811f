use Rattle.std.proofs.Common.{◌≡◌, drop, map, string_bytes}
use Rattle.mls_differences.specs.Counterparts.{is_among}
use Rattle.mls_differences.proofs.name_lists.is_among.Given as goal

-- the name is none of those that were looked at
abbrev pub invariant-loop-other : goal.invariant-loop-other
invariant-loop-other l = is_among (map string_bytes (drop l.other-index l.others)) l.name ≡ is_among (map string_bytes l.others) l.name
