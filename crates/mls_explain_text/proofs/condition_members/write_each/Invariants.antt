use Rattle.std.proofs.Common.{◌≡◌, ◌++◌, take}
use Rattle.std.specs.List.{flat_map}
use Rattle.mls_explain_text.specs.ExplainMembers.{condition_object}
use Rattle.mls_explain_text.proofs.condition_members.write_each.Given as goal

-- the objects of the conditions so far are written, and nothing else
abbrev pub invariant-loop-condition : goal.invariant-loop-condition
invariant-loop-condition l =
    (l.writer.tokens ≡ l.fn.writer.tokens ++ flat_map (condition_object l.names l.state l.request) (take l.condition-index l.conditions))
    × (l.writer.before ≡ l.fn.writer.before)
