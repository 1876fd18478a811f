use Rattle.std.proofs.Common.{◌≡◌, ◌++◌, take, string_bytes}
use Rattle.std.specs.List.{flat_map}
use Rattle.mls_review.specs.Drawing.{holder_line}
use Rattle.mls_review.proofs.drawing.push_each.Given as goal

-- what was looked at is written
abbrev pub invariant-loop-holder : goal.invariant-loop-holder
invariant-loop-holder l = string_bytes l.text ≡ string_bytes l.fn.text ++ flat_map (holder_line l.names) (take l.holder-index l.all)
