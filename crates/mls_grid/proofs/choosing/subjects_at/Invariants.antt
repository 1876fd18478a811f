use Rattle.std.proofs.Common.{All, IsTrue}
use Rattle.mls_state.specs.State.{is_subject}
use Rattle.mls_grid.proofs.choosing.subjects_at.Given as goal

-- all that are found are known
abbrev pub invariant-loop-place : goal.invariant-loop-place
invariant-loop-place l = All (λ s. IsTrue (is_subject l.state s)) l.found.items
