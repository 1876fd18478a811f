-- Who may get an object.
use Rattle.std.specs.Prelude.{◌≡◌, ℕ, Bool, true, false, nat_lt, List, [], codes, None, All}
use Rattle.std.specs.List.{flat_map}
use Rattle.mls_explain.specs.Prospects.{permitted_pairs, pairs_of, IsProspect}
use Rattle.mls_explain.specs.declared.prospect.Prospect.{Prospect}
use Rattle.mls_explain_text.specs.Files.{modes_asked}
use Rattle.mls_explain_text.specs.Who.{prospect_line, releases_of}
use Rattle.mls_explain_text.specs.WhoMembers.{prospect_members}
use Rattle.mls_lines.specs.Names.{Names}
use Rattle.mls_rows.specs.declared.form.Form.{Form}
use Rattle.mls_shared_rows.specs.Kinds.{kind_bytes}
use Rattle.mls_state.specs.State.{State, is_subject, is_active}

-- These are just the gets of an active object that the matrix permits, in their order, each with the reply and
-- what it would take. (own)
pub record AreGets (v : State) (o : ℕ) (found : List Prospect) : Type 0 where
  pub subjects : ℕ
  pub known : (s : ℕ) → is_subject v s ≡ nat_lt s subjects
  pub pairs : pairs_of found ≡ permitted_pairs v o (modes_asked None) subjects
  pub each : All (IsProspect v o) found

-- The same of an object that is active or isn't; one that isn't has none. (own)
abbrev pub GetsWhether : Bool → State → ℕ → List Prospect → Type 0
GetsWhether true v o found = AreGets v o found
GetsWhether false v o found = found ≡ []

-- These are the gets of an object that the matrix permits. (own)
abbrev pub GetsOf : State → ℕ → List Prospect → Type 0
GetsOf v o found = GetsWhether (is_active v o) v o found

-- The row of what a subject may get in a state, in a form: the line that `who` has for it, or its object. (own)
abbrev pub get_bytes : Form → Names → State → Prospect → List ℕ
get_bytes form names v p =
    kind_bytes form (codes "who") (prospect_line names p (releases_of v p)) (prospect_members names p (releases_of v p))

-- The rows of what subjects may get in a state, in a form. (own)
abbrev pub gets_bytes : Form → Names → State → List Prospect → List ℕ
gets_bytes form names v found = flat_map (get_bytes form names v) found
