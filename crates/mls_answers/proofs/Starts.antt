-- Start files of states.
use Rattle.std.proofs.Common.{◌≡◌, ℕ, ◌<◌, List, Result, length, string_bytes, subst}
use Rattle.std.specs.Prelude.{IfErr, IfOk}
use Rattle.mls_lines.specs.Names.{Names}
use Rattle.mls_replay.specs.declared.checking.TheConstants.{START_LIMIT}
use Rattle.mls_snapshots.specs.Starts.{IsStartBy}
use Rattle.mls_snapshots.specs.declared.state_start.StateStart.{StateStart}
use Rattle.mls_state.specs.State.{State}
use Rattle.mls_answers.specs.Starts.{HasLongStart, RefusesStart}
use Rattle.mls_answers.specs.declared.snapshot_fault.SnapshotFault.{SnapshotFault}

-- one that is too long
pub long_is : (names : Names) (v : State) (order text : List ℕ) → IsStartBy names v order text → START_LIMIT < length text
    → HasLongStart names v
long_is names v order text by long = record { order = order; text = text; is = by; long = long }

module _ (names lent : Names) (v seen : State) (result : Result StateStart SnapshotFault) (named : lent ≡ names) (is : seen ≡ v) where
  -- a start file by equal names of an equal state
  pub start_is : IfOk result (λ made. IsStartBy lent seen made.order.items (string_bytes made.text))
      → IfOk result (λ made. IsStartBy names v made.order.items (string_bytes made.text))
  start_is by =
      subst (λ (w : State). IfOk result (λ made. IsStartBy names w made.order.items (string_bytes made.text))) is
      (subst (λ (ns : Names). IfOk result (λ made. IsStartBy ns seen made.order.items (string_bytes made.text))) named by)

  -- why there is none, by equal names of an equal state
  pub refuses_is : IfErr result (λ fault. RefusesStart lent seen fault) → IfErr result (λ fault. RefusesStart names v fault)
  refuses_is why =
      subst (λ (w : State). IfErr result (λ fault. RefusesStart names w fault)) is
      (subst (λ (ns : Names). IfErr result (λ fault. RefusesStart ns seen fault)) named why)
