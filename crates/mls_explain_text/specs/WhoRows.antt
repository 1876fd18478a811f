-- Answers of who may get what of an object, in their forms.
use Rattle.std.specs.Prelude.{◌≡◌, ℕ, Bool, true, false, nat_lt, List, [], All}
use Rattle.std.specs.List.{flat_map}
use Rattle.mls_tables.specs.Mode.{ModeSet}
use Rattle.mls_lines.specs.Names.{Names}
use Rattle.mls_state.specs.State.{State, is_subject, is_active}
use Rattle.mls_rows.specs.Rows.{row_bytes}
use Rattle.mls_rows.specs.declared.form.Form.{Form}
use Rattle.mls_explain.specs.Prospects.{permitted_pairs, pairs_of, IsProspect}
use Rattle.mls_explain.specs.declared.prospect.Prospect.{Prospect}
use Rattle.mls_explain_text.specs.Who.{is_open, prospect_line, releases_of}
use Rattle.mls_explain_text.specs.WhoMembers.{prospect_members}

-- The row of what a subject may get in a mode in a state, in a form. (own)
abbrev pub prospect_row : Names → State → Form → Prospect → List ℕ
prospect_row names v form p =
    row_bytes form (prospect_line names p (releases_of v p)) (prospect_members names p (releases_of v p))

-- The rows of what subjects may get in a state, in a form. (own)
abbrev pub prospect_bytes : Names → State → Form → List Prospect → List ℕ
prospect_bytes names v form found = flat_map (prospect_row names v form) found

-- The bytes of an answer and whether it is positive tell who may get what of an active object: of exactly the pairs of
-- a subject and a mode, of those that are asked for, that the matrix permits, in their order, each the reply and what
-- it would take. (own)
pub record RowsOfActive (names : Names) (v : State) (o : ℕ) (asked : ModeSet) (form : Form) (told : List ℕ)
    (positive : Bool) : Type 0 where
  pub subjects : ℕ
  pub known : (s : ℕ) → is_subject v s ≡ nat_lt s subjects
  pub found : List Prospect
  pub pairs : pairs_of found ≡ permitted_pairs v o asked subjects
  pub each : All (IsProspect v o) found
  pub bytes : told ≡ prospect_bytes names v form found
  pub granted : positive ≡ is_open found

-- The same of an object that is active or isn't; one that isn't has no row. (own)
abbrev pub RowsWhether : Bool → Names → State → ℕ → ModeSet → Form → List ℕ → Bool → Type 0
RowsWhether true names v o asked form told positive = RowsOfActive names v o asked form told positive
RowsWhether false names v o asked form told positive = (told ≡ []) × (positive ≡ false)

-- The bytes of an answer and whether it is positive tell who may get what of an object. (own)
abbrev pub RowsOfWho : Names → State → ℕ → ModeSet → Form → List ℕ → Bool → Type 0
RowsOfWho names v o asked form told positive = RowsWhether (is_active v o) names v o asked form told positive
