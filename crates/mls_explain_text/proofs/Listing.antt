-- What is written of entries that are explained, and why it isn't.
use Rattle.std.proofs.Common.{◌≡◌, ℕ, Bool, List, ◌++◌, Option, None, Result, Ok, Err, OnOk, filter, inl, sym, ◌∙◌, subst}
use Rattle.std.proofs.KnownBytes.{Appends-trans}
use Rattle.std.specs.Io.KnownBytes.{Appends}
use Rattle.std.specs.List.{list_any}
use Rattle.std.specs.Prelude.{IfOk, IfErr}
use Rattle.mls_lines.specs.Names.{Names}
use Rattle.mls_marks.specs.declared.row.Row.{Row}
use Rattle.mls_replay.specs.Replays.{Replayed}
use Rattle.mls_replay.specs.declared.command.CommandFault.TheVariants.{Memory}
use Rattle.mls_replay.specs.declared.question_fault.QuestionFault.TheVariants.{Files}
use Rattle.mls_listings.specs.Choosing.{IsChosen, Words}
use Rattle.mls_listings.specs.Listings.{RefusesNames}
use Rattle.mls_listings.specs.Matching.{Choice, matches}
use Rattle.mls_listings.specs.declared.list_fault.ListFault.{ListFault}
use Rattle.mls_listings.specs.declared.list_fault.ListFault.TheVariants.{Question}
use Rattle.mls_requests.specs.declared.entry.Entry.{Entry}
use Rattle.mls_state.specs.State.{State}
use Rattle.mls_explain_text.specs.Entries.{TellsEach, IsExplained, ExplainsOver, RefusesWriting, Writes}
use Rattle.mls_explain_text.specs.declared.write_fault.WriteFault.{WriteFault}
use Rattle.mls_explain_text.specs.declared.write_fault.WriteFault.TheVariants as faults

-- a writer is handed what is also so of the text
writes_also : {P Q : List ℕ → Type 0} (held holds : Option (List ℕ)) → ((told : List ℕ) → P told → Q told) → Writes P held holds → Writes Q held holds
writes_also held holds also (told, so, appended) = (told, also told so, appended)

-- what is left of a text is written behind the front that was
pub rest_written : (P : List ℕ → Type 0) (result : Result (Unit {0}) WriteFault) (held between holds : Option (List ℕ)) (written text told : List ℕ)
    → Appends held between written → P (written ++ text) → told ≡ text → OnOk result (Writes (λ t. t ≡ told) between holds) → OnOk result (Writes P held holds)
rest_written P (Ok done) held between holds written text told before whole same (last, is, appended) = (
  written ++ last,
  subst (λ t. P (written ++ t)) (sym (is ∙ same)) whole,
  Appends-trans held between holds written last before appended,
)
rest_written P (Err fault) held between holds written text told before whole same after = tt

-- the entries that are chosen are written
pub chosen_written : (names : Names) (start v : State) (entries : List Entry) (marks : Option (List Row)) (c : Choice) (any : Bool) (held holds : Option (List ℕ))
    → v ≡ start → any ≡ list_any (matches c) entries → Writes (TellsEach names v entries marks (filter (matches c) entries)) held holds
    → Writes (λ told. IsExplained names start entries marks c told any) held holds
chosen_written names start v entries marks c any held holds same is written =
    writes_also held holds
    (λ told tells. record { text = subst (λ w. TellsEach names w entries marks (filter (matches c) entries) told) same tells; any = is }) written

-- those of a replay are
pub replay_written : (r : Replayed) (marks : Option (List Row)) (asked : Words) (c : Choice) (result : Result Bool WriteFault) (held holds : Option (List ℕ))
    → IsChosen r.names asked c → IfOk result (λ any. Writes (λ told. IsExplained r.names r.start r.entries marks c told any) held holds)
    → IfOk result (λ any. Writes (λ told. ExplainsOver r marks asked told any) held holds)
replay_written r marks asked c (Ok any) held holds chosen written = writes_also held holds (λ told is. (c, chosen, is)) written
replay_written r marks asked c (Err fault) held holds chosen written = tt

refuses_also : {P Q : ListFault → Type 0} (result : Result Bool WriteFault) → ((fault : ListFault) → P fault → Q fault)
    → IfErr result (λ fault. RefusesWriting P fault) → IfErr result (λ fault. RefusesWriting Q fault)
refuses_also (Ok any) also refused = tt
refuses_also (Err (faults.List fault)) also refused = also fault refused
refuses_also (Err faults.Write) also refused = tt

-- why they aren't, where the filter's words have no fault
pub refuses_memory : (names : Names) (asked : Words) (result : Result Bool WriteFault)
    → IfErr result (λ fault. RefusesWriting (λ cause. cause ≡ Question (Files Memory)) fault)
    → IfErr result (λ fault. RefusesWriting (λ cause. RefusesNames names asked cause) fault)
refuses_memory names asked result refused = refuses_also result (λ fault memory. inl memory) refused
