use Rattle.std.proofs.Common.{◌≡◌, ◌++◌, drop, map, string_bytes}
use Rattle.mls_compare.specs.Maps.{lines_text, row_of, map_text}
use Rattle.mls_compare.proofs.map.map_text.Given as goal

-- with the lines of the objects that are left it is the map
abbrev pub invariant-loop-new : goal.invariant-loop-new
invariant-loop-new l = string_bytes l.text ++ lines_text l.new (map (row_of l.names) (drop l.new l.order)) ≡ map_text l.names l.order
