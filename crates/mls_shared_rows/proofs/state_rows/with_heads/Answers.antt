use Rattle.mls_shared_rows.specs.StateRows.{next_bytes, profile_bytes}
use Rattle.mls_shared_rows.proofs.States.{then_in}
use Rattle.mls_shared_rows.proofs.state_rows.with_heads.Goals as goal

pub returns-clause-bytes : goal.returns-clause-bytes
returns-clause-bytes c =
    then_in (profile_bytes c.args.state.now) (next_bytes c.args.state.now) _ _ _ _ _ c.in_ok-output.ensures.form c.in_ok-output.ensures.bytes
    c.in_ok-output-2.ensures.bytes
