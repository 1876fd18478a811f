-- What is told over what is seen.
use Rattle.std.proofs.Common.{◌≡◌, ℕ, Bool, true, inr, List, Option, Result, Ok, Err, sym, subst}
use Rattle.std.specs.Prelude.{IfOk, IfErr}
use Rattle.mls_lines.specs.Names.{Names}
use Rattle.mls_state.specs.State.{State}
use Rattle.mls_replay.specs.declared.command.CommandFault.TheVariants as command
use Rattle.mls_replay.specs.declared.question_fault.QuestionFault.{QuestionFault}
use Rattle.mls_replay.specs.declared.question_fault.QuestionFault.TheVariants.{Files}
use Rattle.mls_rows.specs.declared.form.Form.{Form}
use Rattle.mls_rows.specs.declared.listing.Listing.{Listing}
use Rattle.mls_could.specs.declared.choice.Choice.{Choice}
use Rattle.mls_could.specs.Actors.{are_known, is_actor, RefusesActors}
use Rattle.mls_flow_text.specs.Asked.{RowsOfEnds, TellsEnds, TellsFlow, RefusesFlow}
use Rattle.mls_flow_text.specs.Naming.{ends_of}
use Rattle.mls_flow_text.specs.declared.ends.Ends.{Ends}

module _ (form : Form) (names : Names) (v : State) (choice : Choice) (words : List (List ℕ)) where
  pub tells : (acts : ℕ → Bool) (ends : Ends) (result : Result Listing QuestionFault) → are_known names v words ≡ true
      → ((s : ℕ) → acts s ≡ is_actor names v choice words s) → IfOk result (λ l. RowsOfEnds names v acts ends form l.bytes.items l.is_positive)
      → IfOk result (λ l. TellsEnds form names v choice words ends l.bytes.items l.is_positive)
  tells acts ends (Ok l) known same rows = record {
    known = known;
    rows = subst (λ a. RowsOfEnds names v a ends form l.bytes.items l.is_positive) (λ i s. same s i) rows;
  }
  tells acts ends (Err f) known same rows = tt

  pub tells_words : (from : List ℕ) (to : Option (List ℕ)) (is_object : Bool) (ends : Ends) (result : Result Listing QuestionFault)
      → ends_of names from to is_object ≡ Ok ends → IfOk result (λ l. TellsEnds form names v choice words ends l.bytes.items l.is_positive)
      → IfOk result (λ l. TellsFlow form names v choice words from to is_object l.bytes.items l.is_positive)
  tells_words from to is_object ends (Ok l) named so = record { ends = ends; named = named; tells = so }
  tells_words from to is_object ends (Err f) named so = tt

module _ (names : Names) (v : State) (words : List (List ℕ)) where
  pub refuses_memory : (result : Result Listing QuestionFault) → IfErr result (λ f. f ≡ Files command.Memory) → IfErr result (λ f. RefusesActors names v words f)
  refuses_memory (Ok l) is = tt
  refuses_memory (Err f) is = subst (RefusesActors names v words) (sym is) tt

  pub refuses_words : (from : List ℕ) (to : Option (List ℕ)) (is_object : Bool) (result : Result Listing QuestionFault)
      → IfErr result (λ f. RefusesActors names v words f) → IfErr result (λ f. RefusesFlow names v words from to is_object f)
  refuses_words from to is_object (Ok l) is = tt
  refuses_words from to is_object (Err f) is = inr is
