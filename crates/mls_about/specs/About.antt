-- What is told of a subject or of an object, over a start file and a journal that were replayed.
use Rattle.std.specs.Prelude.{◌≡◌, ◌⊎◌, ◌==◌, ℕ, Bool, not, List, length, take, Option, Some, None, Ok, Err}
use Rattle.mls_lines.specs.Names.{Names}
use Rattle.mls_marks.specs.declared.row.Row.{Row}
use Rattle.mls_replay.specs.Replays.{Replayed}
use Rattle.mls_replay.specs.declared.command.CommandFault.TheVariants.{Memory}
use Rattle.mls_replay.specs.declared.question_fault.QuestionFault.{QuestionFault}
use Rattle.mls_replay.specs.declared.question_fault.QuestionFault.TheVariants.{Files}
use Rattle.mls_requests.specs.declared.entry.Entry.{Entry}
use Rattle.mls_rows.specs.declared.form.Form.{Form}
use Rattle.mls_about.specs.Naming.{thing_named}
use Rattle.mls_about.specs.Objects.{TellsObject}
use Rattle.mls_about.specs.Subjects.{TellsSubject}
use Rattle.mls_about.specs.declared.thing.Thing.{Thing}
use Rattle.mls_about.specs.declared.thing.Thing.TheVariants.{Subject, Object}

-- The entries that are told of, where some are: the first so many. (own)
abbrev pub told_entries : Option ℕ → List Entry → Option (List Entry)
told_entries (Some number) entries = Some (take number entries)
told_entries None entries = None

-- Bytes tell of a subject or of an object in a form, in the state that is seen. (own)
abbrev pub TellsThing : Form → Replayed → Option (List Row) → Option (List Entry) → Thing → List ℕ → Type 0
TellsThing form r rows entries (Subject s) told = TellsSubject form r.names r.state s rows entries told
TellsThing form r rows entries (Object o) told = TellsObject form r.names r.start r.state o rows entries told

-- Bytes and whether they are a positive answer tell in a form of what a word names, in the state that is seen; the
-- answer is positive where there is a row. (own)
pub record TellsNamed (form : Form) (r : Replayed) (number : Option ℕ) (rows : Option (List Row)) (word : List ℕ)
    (is_object : Bool) (told : List ℕ) (positive : Bool) : Type 0 where
  pub thing : Thing
  pub named : thing_named r.names word is_object ≡ Ok thing
  pub tells : TellsThing form r rows (told_entries number r.entries) thing told
  pub any : positive ≡ not (length told == 0)

-- Why it isn't told of what a word names: it names nothing, or memory ran out. (own)
abbrev pub RefusesNamed : Names → List ℕ → Bool → QuestionFault → Type 0
RefusesNamed names word is_object fault = (fault ≡ Files Memory) ⊎ (thing_named names word is_object ≡ Err fault)
