-- What is told of a subject or of an object is told of the files of a history.
use Rattle.std.proofs.Common.{◌≡◌, ℕ, ◌≤◌, Bool, List, length, Option, Some, None, Result, Ok, Err, subst, sym, ap, ◌∙◌, arith}
use Rattle.std.specs.Prelude.{IfOk}
use Rattle.mls_about.specs.About.{TellsNamed}
use Rattle.mls_marks.specs.declared.row.Row.{Row}
use Rattle.mls_replay.specs.Replays.{Replayed, IsWithin}
use Rattle.mls_replay.specs.declared.question_fault.QuestionFault.{QuestionFault}
use Rattle.mls_requests.specs.declared.entry.Entry.{Entry}
use Rattle.mls_rows.specs.declared.form.Form.{Form}
use Rattle.mls_rows.specs.declared.listing.Listing.{Listing}
use Rattle.mls_seen.specs.Files.{place_of}
use Rattle.mls_seen.specs.Histories.{History, IsOfFiles, ReplaysThat}
use Rattle.mls_answers.specs.Describing.{number_told, TellsAbout}
use Rattle.mls_answers.proofs.Histories.{replayed_ok}

-- the place of a state is no greater than how many entries there are
pub place_within : (at : Option ℕ) (entries : List Entry) (number : ℕ) → number ≡ place_of at entries → IsWithin at entries
    → IsWithin (Some number) entries
place_within None entries number is within = omega (arith, is)
place_within (Some at) entries number is within = omega (arith, is, within)

-- an answer over the replay of a history, of the entries before its state
pub told_ok : (h : History) (is : IsOfFiles h) (lent : Replayed) (same : lent ≡ h.replayed) (form : Form) (journal : Bool) (number : Option ℕ)
    (rows : Option (List Row)) (word : List ℕ) (is_object : Bool) (result : Result Listing QuestionFault)
    → number ≡ number_told journal h.at h.replayed.entries
    → IfOk result (λ answer. TellsNamed form lent number rows word is_object answer.bytes.items answer.is_positive)
    → IfOk result (λ answer. ReplaysThat h.files h.at (λ r. TellsAbout form r h.at journal rows word is_object answer))
told_ok h is lent same form journal number rows word is_object result told so =
    replayed_ok h is lent same (λ r answer. TellsAbout form r h.at journal rows word is_object answer) result
    (subst (λ n. IfOk result (λ answer. TellsNamed form lent n rows word is_object answer.bytes.items answer.is_positive))
    (told ∙ ap (λ (r : Replayed). number_told journal h.at r.entries) (sym same)) so)
