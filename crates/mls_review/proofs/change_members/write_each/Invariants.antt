use Rattle.std.proofs.Common.{◌≡◌, ◌++◌, take}
use Rattle.std.specs.List.{flat_map}
use Rattle.mls_review.specs.PowerRows.{label_tokens}
use Rattle.mls_review.proofs.change_members.write_each.Given as goal

-- the labels so far are written, and nothing else
abbrev pub invariant-loop-l : goal.invariant-loop-l
invariant-loop-l l =
    (l.writer.tokens ≡ l.fn.writer.tokens ++ flat_map (label_tokens l.names) (take l.l-index l.labels))
    × (l.writer.before ≡ l.fn.writer.before)
