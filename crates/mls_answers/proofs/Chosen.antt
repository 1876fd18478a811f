-- What is listed of the permissions that a filter asks for, and why it isn't.
use Rattle.std.proofs.Common.{◌≡◌, Bool, List, Option, Result, Ok, Err, inl}
use Rattle.std.specs.Prelude.{IfErr, IfOk}
use Rattle.mls_lines.specs.Names.{Names}
use Rattle.mls_marks.specs.declared.row.Row.{Row}
use Rattle.mls_replay.specs.Replays.{Replayed}
use Rattle.mls_replay.specs.declared.command.CommandFault.TheVariants.{Memory}
use Rattle.mls_replay.specs.declared.question_fault.QuestionFault.{QuestionFault}
use Rattle.mls_replay.specs.declared.question_fault.QuestionFault.TheVariants.{Files}
use Rattle.mls_rows.specs.declared.form.Form.{Form}
use Rattle.mls_rows.specs.declared.listing.Listing.{Listing}
use Rattle.mls_spans.specs.Asked.{Choice, Words, IsChosen}
use Rattle.mls_spans.specs.Listings.{RefusesNames}
use Rattle.mls_spans.specs.UsageChosen.{IsUsageOf, ListsChosen, chosen_seen}
use Rattle.mls_spans.specs.declared.states.States.{States}

pub lists_chosen : (form : Form) (r : Replayed) (rows : Option (List Row)) (states : States) (words : Words) (never : Bool) (c : Choice)
    (result : Result Listing QuestionFault) → IsChosen r.names words c
    → IfOk result (λ listing. IsUsageOf form r.names rows never (chosen_seen r c states) listing)
    → IfOk result (λ listing. ListsChosen form r rows states words never listing)
lists_chosen form r rows states words never c (Ok listing) chosen listed = (c, chosen, listed)
lists_chosen form r rows states words never c (Err fault) chosen listed = tt

pub refuses_memory : (names : Names) (words : Words) (result : Result Listing QuestionFault) → IfErr result (λ fault. fault ≡ Files Memory)
    → IfErr result (λ fault. RefusesNames names words fault)
refuses_memory names words (Ok listing) memory = tt
refuses_memory names words (Err fault) memory = inl memory
