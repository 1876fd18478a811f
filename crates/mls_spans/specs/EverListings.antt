-- What is listed of the states in which gets of an object would be granted.
use Rattle.std.specs.Prelude.{◌≡◌, ◌⊎◌, ℕ, Bool, List, [], filter, Option, Some, None}
use Rattle.std.specs.Prelude.{if◌then◌else◌}
use Rattle.std.specs.FinSet as set
use Rattle.std.specs.List.{flat_map, list_any}
use Rattle.mls_lines.specs.Names.{Names}
use Rattle.mls_marks.specs.declared.row.Row.{Row}
use Rattle.mls_replay.specs.Naming.{object_word}
use Rattle.mls_replay.specs.Replays.{Replayed}
use Rattle.mls_replay.specs.declared.command.CommandFault.TheVariants.{Memory}
use Rattle.mls_replay.specs.declared.question_fault.QuestionFault.{QuestionFault}
use Rattle.mls_replay.specs.declared.question_fault.QuestionFault.TheVariants.{Files, Object}
use Rattle.mls_rows.specs.declared.form.Form.{Form}
use Rattle.mls_rows.specs.declared.listing.Listing.{Listing}
use Rattle.mls_tables.specs.Mode.{ModeSet}
use Rattle.mls_tables.specs.Triples.{Triple}
use Rattle.mls_tables.specs.declared.mode.Mode.{Mode}
use Rattle.mls_tables.specs.declared.mode.Mode.TheVariants.{Execute, Read, Append, Write}
use Rattle.mls_spans.specs.Asked.{has_window, is_some_state}
use Rattle.mls_spans.specs.EverLines.{ever_row}
use Rattle.mls_spans.specs.Permissions.{permissions_to}
use Rattle.mls_spans.specs.UsageListings.{entries_between}
use Rattle.mls_spans.specs.Windows.{windows, is_any}
use Rattle.mls_spans.specs.declared.states.States.{States}
use Rattle.mls_spans.specs.declared.window.Window.{Window}

-- The modes that are asked for: one, or all. (own)
abbrev pub modes_asked : Option Mode → ModeSet
modes_asked (Some x) = set.insert set.empty x
modes_asked None = set.insert (set.insert (set.insert (set.insert set.empty Execute) Read) Append) Write

-- The permissions on an object that some of the states have which are asked about. (own)
abbrev pub permissions_seen : Replayed → States → ModeSet → ℕ → List Triple
permissions_seen r states asked o =
    if is_some_state states then permissions_to r.state (entries_between states r.entries) asked o else []

-- The spans in which the get of an access would be granted over a replay, that have one of the states. (own)
abbrev pub windows_seen : Replayed → States → Triple → List Window
windows_seen r states t = filter (has_window states) (windows r.start r.entries t)

-- The get of an access would be granted in one of the states. (own)
abbrev pub is_seen : Replayed → States → Triple → Bool
is_seen r states t = is_any (windows_seen r states t)

-- Just the permissions on an object in the modes that are asked for, by subject and mode, in a form, each with all
-- spans in which its get would be granted; it is positive where there is such a span. (own)
pub record IsEver (form : Form) (r : Replayed) (rows : Option (List Row)) (states : States) (asked : ModeSet) (o : ℕ)
    (listing : Listing) : Type 0 where
  pub bytes : listing.bytes.items
      ≡ flat_map (λ t. ever_row form r.names rows t (windows_seen r states t)) (permissions_seen r states asked o)
  pub positive : listing.is_positive ≡ list_any (is_seen r states) (permissions_seen r states asked o)

-- The same of the object that a word names. (own)
pub record ListsWord (form : Form) (r : Replayed) (rows : Option (List Row)) (states : States) (mode : Option Mode)
    (word : List ℕ) (listing : Listing) : Type 0 where
  pub object : ℕ
  pub names : object_word r.names word ≡ Some object
  pub ever : IsEver form r rows states (modes_asked mode) object listing

-- Why the object of a replay isn't looked at: the word names none, or memory ran out. (own)
abbrev pub RefusesWord : Names → List ℕ → QuestionFault → Type 0
RefusesWord names word fault =
    ((fault ≡ Object) × (object_word names word ≡ None)) ⊎ (fault ≡ Files Memory)
