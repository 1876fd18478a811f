use Rattle.std.proofs.Common.{◌≡◌, ◌++◌, take, string_bytes}
use Rattle.std.specs.List.{flat_map}
use Rattle.mls_review.specs.Granted.{change_view}
use Rattle.mls_review.specs.PowerRows.{granted_line}
use Rattle.mls_review.proofs.change_rows.push_changes.Given as goal

-- what was looked at is written
abbrev pub invariant-loop-change : goal.invariant-loop-change
invariant-loop-change l =
    string_bytes l.text ≡ string_bytes l.fn.text ++ flat_map (λ change. granted_line l.names (change_view change)) (take l.change-index l.found)
