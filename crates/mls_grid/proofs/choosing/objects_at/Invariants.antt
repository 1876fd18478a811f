use Rattle.std.proofs.Common.{All, IsTrue}
use Rattle.mls_state.specs.State.{is_active}
use Rattle.mls_grid.proofs.choosing.objects_at.Given as goal

-- all that are found are active
abbrev pub invariant-loop-place : goal.invariant-loop-place
invariant-loop-place l = All (λ o. IsTrue (is_active l.state o)) l.found.items
