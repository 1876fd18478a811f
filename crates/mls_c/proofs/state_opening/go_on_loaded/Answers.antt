use Rattle.mls_c.proofs.StateOpenings.{goes_on, over_from_state, never_number}
use Rattle.mls_c.proofs.state_opening.go_on_loaded.Goals as goal

pub returns-in-Ok-clause-ok : goal.returns-in-Ok-clause-ok
returns-in-Ok-clause-ok c =
    goes_on c.args.loaded c.args.text.now c.args.number c.in-Ok.begun _ _ c.into_parts-names.ensures.names c.into_parts-names.ensures.start c.in-Ok.ensures.text
    c.in-Ok.ensures.start c.in-Ok.ensures.secure (λ b. b.value) c.go_on.result c.go_on.ensures.ok c.go_on.ensures.state

pub returns-in-Err-clause-fault : goal.returns-in-Err-clause-fault
returns-in-Err-clause-fault c = over_from_state _ c.state_fault_of.ensures

pub returns-in-Err-clause-many : goal.returns-in-Err-clause-many
returns-in-Err-clause-many c = never_number _ _ c.state_fault_of.ensures
