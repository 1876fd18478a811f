-- What is listed of spans, and why it isn't.
use Rattle.std.proofs.Common.{◌≡◌, ◌≤◌, List, length, Option, Result, Ok, Err, inl, inr}
use Rattle.std.specs.Prelude.{IfOk, IfErr}
use Rattle.mls_lines.specs.Names.{Names}
use Rattle.mls_marks.specs.declared.row.Row.{Row}
use Rattle.mls_replay.specs.Replays.{Replayed}
use Rattle.mls_replay.specs.declared.command.CommandFault.TheVariants.{Memory}
use Rattle.mls_replay.specs.declared.question_fault.QuestionFault.{QuestionFault}
use Rattle.mls_replay.specs.declared.question_fault.QuestionFault.TheVariants.{Files}
use Rattle.mls_rows.specs.declared.form.Form.{Form}
use Rattle.mls_rows.specs.declared.listing.Listing.{Listing}
use Rattle.mls_spans.specs.Asked.{Choice, Words, IsChosen}
use Rattle.mls_spans.specs.Listings.{IsListing, ListsFrom, ListsOver, RefusesFrom, RefusesNames}

-- the spans of a replay are listed
pub lists_over : (form : Form) (r : Replayed) (rows : Option (List Row)) (words : Words) (c : Choice)
    (result : Result Listing QuestionFault) → IsChosen r.names words c
    → IfOk result (λ listing. IsListing form r.names rows r.start r.entries c listing)
    → IfOk result (λ listing. ListsOver form r rows words listing)
lists_over form r rows words c (Ok listing) chosen listed = (c, chosen, listed)
lists_over form r rows words c (Err fault) chosen listed = tt

-- why they aren't, where the filter's words have no fault
pub refuses_memory : (names : Names) (words : Words) (result : Result Listing QuestionFault) → IfErr result (λ fault. fault ≡ Files Memory)
    → IfErr result (λ fault. RefusesNames names words fault)
refuses_memory names words (Ok listing) memory = tt
refuses_memory names words (Err fault) memory = inl memory

-- the same where the replay has the first of the states
pub lists_from : (form : Form) (r : Replayed) (rows : Option (List Row)) (words : Words) (result : Result Listing QuestionFault)
    → words.states.first ≤ length r.entries → IfOk result (λ listing. ListsOver form r rows words listing)
    → IfOk result (λ listing. ListsFrom form r rows words listing)
lists_from form r rows words (Ok listing) within listed = (within, listed)
lists_from form r rows words (Err fault) within listed = tt

pub refuses_from : (r : Replayed) (words : Words) (result : Result Listing QuestionFault) → words.states.first ≤ length r.entries
    → IfErr result (λ fault. RefusesNames r.names words fault) → IfErr result (λ fault. RefusesFrom r words fault)
refuses_from r words (Ok listing) within why = tt
refuses_from r words (Err fault) within why = inr (within, why)
