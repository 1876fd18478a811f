use Rattle.std.proofs.Common.{◌≡◌, ◌∷◌, ◌++◌, [], cond, map, string_bytes, take}
use Rattle.std.specs.List.{flat_map}
use Rattle.json.specs.Token.{string}
use Rattle.mls_differences.specs.Counterparts.{is_among}
use Rattle.mls_differences.proofs.level_lists.write_names.Given as goal

-- those of the names so far that are among the others are written
abbrev pub invariant-loop-name : goal.invariant-loop-name
invariant-loop-name l =
    (l.writer.tokens ≡ l.fn.writer.tokens ++ flat_map
    (λ name. cond (is_among (map string_bytes l.others) (string_bytes name)) (string (string_bytes name) ∷ []) []) (take l.name-index l.names))
    × (l.writer.before ≡ l.fn.writer.before)
