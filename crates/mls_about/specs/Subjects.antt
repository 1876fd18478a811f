-- What is told of a subject.
use Rattle.std.specs.Prelude.{◌≡◌, ℕ, false, List, [], ◌++◌, codes, Option, Some, None}
use Rattle.std.specs.List.{flat_map}
use Rattle.mls_lines.specs.Names.{Names}
use Rattle.mls_marks.specs.declared.row.Row.{Row}
use Rattle.mls_requests.specs.declared.entry.Entry.{Entry}
use Rattle.mls_review.specs.Granted.{Granted}
use Rattle.mls_review.specs.PowerRows.{granted_line, granted_members}
use Rattle.mls_review.specs.Powers.{powers}
use Rattle.mls_review.specs.declared.authority.Asked.{Asked}
use Rattle.mls_rows.specs.declared.form.Form.{Form}
use Rattle.mls_shared_rows.specs.Kinds.{kind_bytes}
use Rattle.mls_shared_rows.specs.StateRows.{cells_bytes, subject_bytes}
use Rattle.mls_state.specs.State.{State}
use Rattle.mls_tables.specs.declared.limits.TheConstants.{MAX_OBJECTS}
use Rattle.mls_about.specs.Counting.{asked_bytes}
use Rattle.mls_about.specs.Entries.{given_bytes}
use Rattle.mls_about.specs.Permissions.{ArePermissions, permit_bytes}
use Rattle.mls_about.specs.declared.permission.Permission.{Permission}

-- All that one subject may change is asked for. (own)
abbrev pub all_of : ℕ → Asked
all_of s = record { subject = Some s; downgrades = false }

-- The row of what a subject may change, in a form. (own)
abbrev pub change_bytes : Form → Names → Granted → List ℕ
change_bytes form names g = kind_bytes form (codes "power") (granted_line names g) (granted_members names g)

-- The rows of what a subject may change, in a form. (own)
abbrev pub changes_bytes : Form → Names → List Granted → List ℕ
changes_bytes form names found = flat_map (change_bytes form names) found

-- What is told of the entries, where there is a journal: how many the subject asked, and those about its permissions.
-- (own)
abbrev pub subject_history : Form → Names → Option (List Row) → ℕ → Option (List Entry) → List ℕ
subject_history form names rows s None = []
subject_history form names rows s (Some entries) =
    asked_bytes form rows s entries ++ given_bytes form names rows s entries

-- Bytes tell in a form what there is of a subject in a state: itself, its permissions, what it holds, and what it may
-- change. (own)
pub record ShowsSubject (form : Form) (names : Names) (v : State) (s : ℕ) (told : List ℕ) : Type 0 where
  pub found : List Permission
  pub are : ArePermissions v s found
  pub bytes : told ≡ subject_bytes form names v s ++ (permit_bytes form names v found
      ++ (cells_bytes form (codes "access") names v.accesses s MAX_OBJECTS
      ++ changes_bytes form names (powers v (all_of s))))

-- Bytes tell of a subject in a form: what there is of it in a state, and where there is a journal what it asked, and
-- the entries about its permissions. (own)
pub record TellsSubject (form : Form) (names : Names) (v : State) (s : ℕ) (rows : Option (List Row))
    (entries : Option (List Entry)) (told : List ℕ) : Type 0 where
  pub standing : List ℕ
  pub shows : ShowsSubject form names v s standing
  pub bytes : told ≡ standing ++ subject_history form names rows s entries
