use Rattle.std.proofs.Common.{◌≡◌, ◌++◌, take}
use Rattle.std.specs.List.{flat_map}
use Rattle.mls_explain_text.specs.Holdings.{holding_object}
use Rattle.mls_explain_text.proofs.obstacle_members.write_holdings.Given as goal

-- the objects of the accesses so far are written, and nothing else
abbrev pub invariant-loop-access : goal.invariant-loop-access
invariant-loop-access l =
    (l.writer.tokens ≡ l.fn.writer.tokens ++ flat_map (holding_object l.names) (take l.access-index l.accesses)) × (l.writer.before ≡ l.fn.writer.before)
