-- What is told of an object.
use Rattle.std.specs.Prelude.{◌≡◌, ℕ, ◌==◌, ◌&&◌, Bool, false, List, [], ◌∷◌, ◌++◌, codes, Option, Some, None}
use Rattle.std.specs.FinMap as map
use Rattle.std.specs.List.{flat_map, range_with_len}
use Rattle.json.specs.Token.{Token}
use Rattle.mls_explain.specs.declared.prospect.Prospect.{Prospect}
use Rattle.mls_lines.specs.Names.{Names}
use Rattle.mls_marks.specs.declared.row.Row.{Row}
use Rattle.mls_requests.specs.declared.entry.Entry.{Entry}
use Rattle.mls_rows.specs.Members.{object_member}
use Rattle.mls_rows.specs.declared.form.Form.{Form}
use Rattle.mls_shared_rows.specs.Kinds.{kind_bytes}
use Rattle.mls_shared_rows.specs.StateRows.{cell_bytes, object_bytes}
use Rattle.mls_state.specs.State.{State, is_active}
use Rattle.mls_tables.specs.Triples.{TripleSet}
use Rattle.mls_tables.specs.declared.limits.TheConstants.{MAX_SUBJECTS, MAX_OBJECTS}
use Rattle.mls_wording.specs.Where.{only_if}
use Rattle.mls_wording.specs.Wording.{object_text}
use Rattle.mls_about.specs.Entries.{changed_bytes}
use Rattle.mls_about.specs.Gets.{GetsOf, gets_bytes}

-- An object is the parent that there is. (own)
abbrev pub is_this : Option ℕ → ℕ → Bool
is_this None o = false
is_this (Some p) o = p == o

-- An active object is a child of another. (MTR-2997, hierarchy)
abbrev pub is_child : State → ℕ → ℕ → Bool
is_child v o child = is_active v child && is_this (map.get v.parent child) o

-- The line of a child. (own)
abbrev pub child_line : Names → ℕ → List ℕ
child_line names child = codes "child " ++ object_text names child ++ 10 ∷ []

-- The members of a child. (own)
abbrev pub child_members : Names → ℕ → List Token
child_members names child = object_member (codes "object") (codes "object_name") names child

-- The row of a child, in a form; none of what is no child. (own)
abbrev pub child_bytes : Form → Names → State → ℕ → ℕ → List ℕ
child_bytes form names v o child =
    only_if (is_child v o child) (kind_bytes form (codes "child") (child_line names child) (child_members names child))

-- The rows of the children of an object that have numbers below this one. (own)
unfoldable pub children_bytes : Form → Names → State → ℕ → ℕ → List ℕ
children_bytes form names v o n = flat_map (child_bytes form names v o) (range_with_len 0 n)

-- The rows of the accesses to an object of a subject, by mode. (own)
abbrev pub access_bytes : Form → Names → TripleSet → ℕ → ℕ → List ℕ
access_bytes form names accesses o s = cell_bytes form (codes "access") names accesses s o

-- The rows of the accesses to an object of the subjects below this number, by subject, then by mode. (own)
unfoldable pub column_bytes : Form → Names → TripleSet → ℕ → ℕ → List ℕ
column_bytes form names accesses o n = flat_map (access_bytes form names accesses o) (range_with_len 0 n)

-- What is told of the entries, where there is a journal: which changed the object. (own)
abbrev pub object_history : Form → Names → Option (List Row) → State → ℕ → Option (List Entry) → List ℕ
object_history form names rows start o None = []
object_history form names rows start o (Some entries) = changed_bytes form names rows start o entries

-- Bytes tell in a form what there is of an object in a state: itself, its children, who may get it, and who holds it.
-- (own)
pub record ShowsObject (form : Form) (names : Names) (v : State) (o : ℕ) (told : List ℕ) : Type 0 where
  pub found : List Prospect
  pub gets : GetsOf v o found
  pub bytes : told ≡ object_bytes form names v o ++ (children_bytes form names v o MAX_OBJECTS
      ++ (gets_bytes form names v found ++ column_bytes form names v.accesses o MAX_SUBJECTS))

-- Bytes tell of an object in a form: what there is of it in a state, and where there is a journal the entries that
-- changed it. (own)
pub record TellsObject (form : Form) (names : Names) (start v : State) (o : ℕ) (rows : Option (List Row))
    (entries : Option (List Entry)) (told : List ℕ) : Type 0 where
  pub standing : List ℕ
  pub shows : ShowsObject form names v o standing
  pub bytes : told ≡ standing ++ object_history form names rows start o entries
