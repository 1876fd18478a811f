use Rattle.std.proofs.Common.{◌≡◌, ◌++◌, take, string_bytes}
use Rattle.std.specs.List.{flat_map}
use Rattle.mls_review.specs.Drawing.{edge_text}
use Rattle.mls_review.proofs.drawing.push_edges.Given as goal

-- what was looked at is written
abbrev pub invariant-loop-cover : goal.invariant-loop-cover
invariant-loop-cover l = string_bytes l.text ≡ string_bytes l.fn.text ++ flat_map (edge_text l.names l.labels) (take l.cover-index l.covers)
