use Rattle.std.proofs.Common.{◌≡◌, ◌++◌, take, string_bytes}
use Rattle.std.specs.List.{flat_map}
use Rattle.mls_review.specs.Drawing.{node_text}
use Rattle.mls_review.proofs.drawing.push_nodes.Given as goal

-- what was looked at is written
abbrev pub invariant-loop-label : goal.invariant-loop-label
invariant-loop-label l = string_bytes l.text ≡ string_bytes l.fn.text ++ flat_map (node_text l.names l.state) (take l.label-index l.labels)
