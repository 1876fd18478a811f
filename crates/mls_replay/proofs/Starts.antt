-- What a start file says, and why it isn't loaded.
use Rattle.std.specs.Prelude.{IfOk, nat_lt}
use Rattle.std.specs.FinSet as set
use Rattle.std.proofs.Common.{◌≡◌, ◌≢◌, ℕ, List, Result, Ok, Err, ◌∙◌}
use Rattle.mls_state.specs.State.{State, is_subject}
use Rattle.mls_start_file.specs.Says.{RefusesStart}
use Rattle.mls_start_text.specs.declared.load_fault.LoadFault.{LoadFault}
use Rattle.mls_start_text.specs.declared.load_fault.LoadFault.TheVariants as refused
use Rattle.mls_replay.specs.Loads.{SaysState, RefusesLoad}
use Rattle.mls_replay.specs.Checked.{check_text, ChecksOver, Checks}
use Rattle.mls_replay.specs.Commands.{command_fault}

-- why a start file isn't loaded
pub load_refuses : (bytes : List ℕ) (cause : LoadFault) → (cause ≢ refused.Memory → RefusesStart bytes cause) → RefusesLoad bytes (command_fault cause)
load_refuses bytes refused.Json why = why (λ is. cc)
load_refuses bytes refused.Members why = why (λ is. cc)
load_refuses bytes (refused.Scheme cause) why = why (λ is. cc)
load_refuses bytes refused.Name why = why (λ is. cc)
load_refuses bytes refused.Label why = why (λ is. cc)
load_refuses bytes refused.Unknown why = why (λ is. cc)
load_refuses bytes (refused.Start cause) why = why (λ is. cc)
load_refuses bytes refused.Memory why = tt

-- what is told of a start
pub checks_over : {X E : Type 0} (start : State) (subjects objects cells accesses : ℕ) (told : X → List ℕ) (result : Result X E)
    → ((s : ℕ) → is_subject start s ≡ nat_lt s subjects) → objects ≡ start.next → cells ≡ set.len start.matrix → accesses ≡ set.len start.accesses
    → IfOk result (λ x. told x ≡ check_text subjects objects cells accesses) → IfOk result (λ x. ChecksOver start (told x))
checks_over start subjects objects cells accesses told (Ok x) known next many held text =
    record { subjects = subjects; known = known; text = text ∙ (λ i. check_text subjects (next i) (many i) (held i)) }
checks_over start subjects objects cells accesses told (Err fault) known next many held text = tt

-- what is told of the start that a file says is told of the file
pub checks : (bytes told : List ℕ) (start : State) → SaysState bytes start → ChecksOver start told → Checks bytes told
checks bytes told start says over = (start, says, over)
