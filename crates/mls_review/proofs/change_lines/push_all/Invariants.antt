use Rattle.std.proofs.Common.{◌≡◌, ◌++◌, take, string_bytes}
use Rattle.std.specs.List.{flat_map}
use Rattle.mls_review.specs.PowerRows.{one_more_label}
use Rattle.mls_review.proofs.change_lines.push_all.Given as goal

-- what was looked at is written
abbrev pub invariant-loop-l : goal.invariant-loop-l
invariant-loop-l l = string_bytes l.text ≡ string_bytes l.fn.text ++ flat_map (one_more_label l.names) (take l.l-index l.labels)
