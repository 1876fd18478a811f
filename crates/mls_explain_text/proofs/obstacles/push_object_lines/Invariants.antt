use Rattle.std.proofs.Common.{◌≡◌, ◌++◌, take, string_bytes}
use Rattle.mls_explain_text.specs.Obstacles.{object_lines}
use Rattle.mls_explain_text.proofs.obstacles.push_object_lines.Given as goal

-- the lines of the accesses so far are written
abbrev pub invariant-loop-access : goal.invariant-loop-access
invariant-loop-access l = string_bytes l.text ≡ string_bytes l.fn.text ++ object_lines l.names (take l.access-index l.accesses)
