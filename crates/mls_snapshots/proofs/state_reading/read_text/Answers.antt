use Rattle.std.proofs.Common.{rules, ◌≡◌, ap, ◌∙◌}
use Rattle.mls_snapshots.specs.declared.read_fault.ReadStateFault.TheVariants.{Memory}
use Rattle.mls_snapshots.specs.States.{state_text}
use Rattle.mls_snapshots.proofs.state_reading.read_text.Goals as goal

pub returns-in_err-state-clause-accepted : goal.returns-in_err-state-clause-accepted
returns-in_err-state-clause-accepted c = λ start v first of.
    let fault : c.in_err-state.field-0.0 ≡ Memory = c.in_err-state.ensures.accepted start v first of in
    search rules

pub returns-in-Err-clause-accepted : goal.returns-in-Err-clause-accepted
returns-in-Err-clause-accepted c = λ start v first of.
    let same : c.in_ok-state.state ≡ v = c.in_ok-state.ensures.state start v first of in
    c.in-Err.ensures.accepted (ap (state_text c.args.names.now) same ∙ of.written)
