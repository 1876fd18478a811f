use Rattle.std.proofs.Common.{◌+◌, ◌*◌, vec_len}
use Rattle.mls_sessions.proofs.run.+attend_all+fn-attend_all-scope.Given as goal

abbrev pub decreases-attend_all : goal.decreases-attend_all
decreases-attend_all g l = 2 * vec_len l.sessions

abbrev pub decreases-scope : goal.decreases-scope
decreases-scope g l = 2 * vec_len l.sessions + 1
