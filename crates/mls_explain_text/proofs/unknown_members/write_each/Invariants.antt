use Rattle.std.proofs.Common.{◌≡◌, ◌++◌, take}
use Rattle.std.specs.List.{flat_map}
use Rattle.mls_explain_text.specs.ExplainMembers.{unknown_object}
use Rattle.mls_explain_text.proofs.unknown_members.write_each.Given as goal

-- the objects of what isn't there so far are written, and nothing else
abbrev pub invariant-loop-one : goal.invariant-loop-one
invariant-loop-one l =
    (l.writer.tokens ≡ l.fn.writer.tokens ++ flat_map (unknown_object l.names) (take l.one-index l.unknown)) × (l.writer.before ≡ l.fn.writer.before)
