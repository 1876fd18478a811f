-- What is told over what is seen.
use Rattle.std.proofs.Common.{◌≡◌, ℕ, Bool, true, List, Option, Some, None, Result, Ok, Err, sym, subst}
use Rattle.std.specs.Prelude.{IfOk, IfErr}
use Rattle.mls_lines.specs.Names.{Names}
use Rattle.mls_tables.specs.declared.mode.Mode.{Mode}
use Rattle.mls_state.specs.State.{State}
use Rattle.mls_replay.specs.Naming.{object_word, or_fault}
use Rattle.mls_replay.specs.declared.command.CommandFault.TheVariants as command
use Rattle.mls_replay.specs.declared.question_fault.QuestionFault.{QuestionFault}
use Rattle.mls_replay.specs.declared.question_fault.QuestionFault.TheVariants.{Files, AtMost, NoEntry, Line, Subject, Object}
use Rattle.mls_rows.specs.declared.form.Form.{Form}
use Rattle.mls_rows.specs.declared.listing.Listing.{Listing}
use Rattle.mls_could.specs.declared.choice.Choice.{Choice}
use Rattle.mls_could.specs.Actors.{are_known, is_actor, RefusesActors}
use Rattle.mls_could.specs.Rows.{RowsOfCould, TellsCould, RefusesCould}

-- what a word names
pub named_is : (e : Option ℕ) (fault : QuestionFault) (o : ℕ) → or_fault e fault ≡ Ok o → e ≡ Some o
named_is None fault o is = cc
named_is (Some n) fault o is = cc

pub none_is : (e : Option ℕ) (fault other : QuestionFault) → or_fault e fault ≡ Err other → (e ≡ None) × (fault ≡ other)
none_is None fault other is = (cc, cc)
none_is (Some n) fault other is = cc

module _ (form : Form) (names : Names) (v : State) (choice : Choice) (words : List (List ℕ)) (word : List ℕ) (mode : Option Mode) where
  pub tells : (acts : ℕ → Bool) (o : ℕ) (result : Result Listing QuestionFault) → object_word names word ≡ Some o → are_known names v words ≡ true
      → ((s : ℕ) → acts s ≡ is_actor names v choice words s) → IfOk result (λ l. RowsOfCould names v acts o mode form l.bytes.items l.is_positive)
      → IfOk result (λ l. TellsCould form names v choice words word mode l.bytes.items l.is_positive)
  tells acts o (Ok l) named known same rows = record {
    object = o;
    named = named;
    known = known;
    rows = subst (λ a. RowsOfCould names v a o mode form l.bytes.items l.is_positive) (λ i s. same s i) rows;
  }
  tells acts o (Err f) named known same rows = tt

  pub refuses_memory : (result : Result Listing QuestionFault) → IfErr result (λ f. f ≡ Files command.Memory) → IfErr result (λ f. RefusesCould names v words word f)
  refuses_memory (Ok l) is = tt
  refuses_memory (Err f) is = subst (RefusesCould names v words word) (sym is) tt

  pub refuses_actors : (f : QuestionFault) → RefusesActors names v words f → RefusesCould names v words word f
  refuses_actors (Files command.Memory) why = tt
  refuses_actors (Files (command.Load cause)) why = absurd why
  refuses_actors (Files (command.Entry line cause)) why = absurd why
  refuses_actors (Files (command.Replay cause)) why = absurd why
  refuses_actors (Files command.Thread) why = absurd why
  refuses_actors (AtMost most) why = absurd why
  refuses_actors (NoEntry number) why = absurd why
  refuses_actors (Line cause) why = absurd why
  refuses_actors Subject why = why
  refuses_actors Object why = absurd why

  pub refuses_object : (f : QuestionFault) → or_fault (object_word names word) Object ≡ Err f → RefusesCould names v words word f
  refuses_object f is =
      let why = none_is (object_word names word) Object f is in
      subst (RefusesCould names v words word) why.1 why.0
