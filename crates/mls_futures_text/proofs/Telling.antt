-- What is told over what is seen.
use Rattle.std.proofs.Common.{◌≡◌, ℕ, Bool, true, List, Result, Ok, Err, sym, subst}
use Rattle.std.specs.Prelude.{IfOk, IfErr}
use Rattle.mls_tables.specs.Triples.{Triple}
use Rattle.mls_lines.specs.Names.{Names}
use Rattle.mls_state.specs.State.{State}
use Rattle.mls_replay.specs.declared.command.CommandFault.TheVariants as command
use Rattle.mls_replay.specs.declared.question_fault.QuestionFault.{QuestionFault}
use Rattle.mls_replay.specs.declared.question_fault.QuestionFault.TheVariants.{Files, AtMost, NoEntry, Line, Subject, Object}
use Rattle.mls_rows.specs.declared.form.Form.{Form}
use Rattle.mls_rows.specs.declared.listing.Listing.{Listing}
use Rattle.mls_could.specs.declared.choice.Choice.{Choice}
use Rattle.mls_could.specs.Actors.{are_known, is_actor, RefusesActors}
use Rattle.mls_futures_text.specs.Whether.{get_of, RowsWhether, TellsAccess, TellsWhether, RefusesWhether}

module _ (form : Form) (names : Names) (v : State) (choice : Choice) (words : List (List ℕ)) where
  pub tells : (acts : ℕ → Bool) (t : Triple) (result : Result Listing QuestionFault) → are_known names v words ≡ true
      → ((s : ℕ) → acts s ≡ is_actor names v choice words s) → IfOk result (λ l. RowsWhether names v acts t form l.bytes.items l.is_positive)
      → IfOk result (λ l. TellsAccess form names v choice words t l.bytes.items l.is_positive)
  tells acts t (Ok l) known same rows = record {
    known = known;
    rows = subst (λ a. RowsWhether names v a t form l.bytes.items l.is_positive) (λ i s. same s i) rows;
  }
  tells acts t (Err f) known same rows = tt

  pub tells_line : (line : List ℕ) (t : Triple) (result : Result Listing QuestionFault) → get_of names line ≡ Ok t
      → IfOk result (λ l. TellsAccess form names v choice words t l.bytes.items l.is_positive)
      → IfOk result (λ l. TellsWhether form names v choice words line l.bytes.items l.is_positive)
  tells_line line t (Ok l) asks so = record { access = t; asks = asks; tells = so }
  tells_line line t (Err f) asks so = tt

module _ (names : Names) (v : State) (words : List (List ℕ)) where
  pub refuses_memory : (result : Result Listing QuestionFault) → IfErr result (λ f. f ≡ Files command.Memory) → IfErr result (λ f. RefusesActors names v words f)
  refuses_memory (Ok l) is = tt
  refuses_memory (Err f) is = subst (RefusesActors names v words) (sym is) tt

  refuses_actors : (line : List ℕ) (f : QuestionFault) → RefusesActors names v words f → RefusesWhether names v words line f
  refuses_actors line (Files command.Memory) why = tt
  refuses_actors line (Files (command.Load cause)) why = absurd why
  refuses_actors line (Files (command.Entry number cause)) why = absurd why
  refuses_actors line (Files (command.Replay cause)) why = absurd why
  refuses_actors line (Files command.Thread) why = absurd why
  refuses_actors line (AtMost most) why = absurd why
  refuses_actors line (NoEntry number) why = absurd why
  refuses_actors line (Line cause) why = absurd why
  refuses_actors line Subject why = why
  refuses_actors line Object why = absurd why

  pub refuses_line : (line : List ℕ) (result : Result Listing QuestionFault) → IfErr result (λ f. RefusesActors names v words f) → IfErr result (λ f. RefusesWhether names v words line f)
  refuses_line line (Ok l) is = tt
  refuses_line line (Err f) is = refuses_actors line f is
