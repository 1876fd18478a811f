use Rattle.std.proofs.Common.{◌≡◌, ◌+◌}
use Rattle.std.specs.Prelude.{vec_len}
use Rattle.mls_terminal.proofs.files.Input.read_on.Given as goal

-- what was read and the room that is left are the limit
abbrev pub invariant-loop-count : goal.invariant-loop-count
invariant-loop-count g l = vec_len l.bytes + l.room ≡ l.self.limit

abbrev pub decreases-loop-count : goal.decreases-loop-count
decreases-loop-count g l = l.room
