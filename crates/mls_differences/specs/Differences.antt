-- What is printed of the differences between two starts, in a form.
use Rattle.std.specs.Prelude.{◌≡◌, ◌==◌, ℕ, List, length, ◌++◌}
use Rattle.std.specs.List.{flat_map}
use Rattle.mls_tables.specs.declared.limits.TheConstants.{MAX_SUBJECTS, MAX_OBJECTS}
use Rattle.mls_state.specs.State.{State}
use Rattle.mls_lines.specs.Names.{Names}
use Rattle.mls_rows.specs.declared.form.Form.{Form}
use Rattle.mls_rows.specs.declared.listing.Listing.{Listing}
use Rattle.mls_start_file.specs.Ties.{Loaded}
use Rattle.mls_differences.specs.ChangeForms.{change_bytes}
use Rattle.mls_differences.specs.Changes.{changes}
use Rattle.mls_differences.specs.Counterparts.{shared}
use Rattle.mls_differences.specs.Gets.{get_bytes, gets_rows}
use Rattle.mls_differences.specs.SingleForms.{single_bytes}
use Rattle.mls_differences.specs.Singles.{singles}
use Rattle.mls_differences.specs.declared.sections.Differences.{Differences}
use Rattle.mls_differences.specs.declared.shared.Shared.{Shared}

-- An answer has these bytes, and is a positive one where there are none. (own)
pub record IsListing (wanted : List ℕ) (listing : Listing) : Type 0 where
  pub bytes : listing.bytes.items ≡ wanted
  pub positive : listing.is_positive ≡ (length wanted == 0)

-- The rows of what two starts have otherwise of the subjects and objects that they share, of what one alone has, and
-- of what they answer otherwise. (own)
abbrev pub shared_bytes :
    Form → List ℕ → List ℕ → Names → Names → State → State → List Shared → List Shared → List ℕ
shared_bytes form file other a b v w subjects objects =
    flat_map (change_bytes form a b) (changes a b v w subjects objects)
    ++ flat_map (single_bytes form file other a b) (singles a b v w subjects objects)
    ++ flat_map (get_bytes form a) (gets_rows v w subjects objects)

-- What is printed of two starts with these names that files of these words say, and that open with these states: what
-- both have, but otherwise; what only one of them has; and the gets, of subjects and objects that both have, that the
-- two openings answer otherwise. (own)
abbrev pub openings_bytes : Form → List ℕ → List ℕ → Names → Names → State → State → List ℕ
openings_bytes form file other a b v w =
    shared_bytes form file other a b v w
    (shared a.subjects b.subjects MAX_SUBJECTS) (shared a.objects b.objects MAX_OBJECTS)

-- What is printed of two starts that files of these words say. (own)
abbrev pub starts_bytes : Form → List ℕ → List ℕ → Loaded → Loaded → List ℕ
starts_bytes form file other a b = openings_bytes form file other a.names b.names a.start b.start

-- Differences are all that two starts with these names and states have otherwise, of the subjects and objects that they
-- share. (own)
pub record AreDifferences (a b : Names) (v w : State) (subjects objects : List Shared) (d : Differences) : Type 0 where
  pub changes : d.changes.items ≡ changes a b v w subjects objects
  pub singles : d.singles.items ≡ singles a b v w subjects objects
  pub gets : d.gets.items ≡ gets_rows v w subjects objects

-- They are those of two starts with these names that open with these states. (own)
abbrev pub AreOpened : Names → Names → State → State → Differences → Type 0
AreOpened a b v w d =
    AreDifferences a b v w (shared a.subjects b.subjects MAX_SUBJECTS) (shared a.objects b.objects MAX_OBJECTS) d

-- Differences in a form, between starts with these names that files of these words say. (own)
abbrev pub rows_bytes : Form → List ℕ → List ℕ → Names → Names → Differences → List ℕ
rows_bytes form file other a b d =
    flat_map (change_bytes form a b) d.changes.items ++ flat_map (single_bytes form file other a b) d.singles.items
    ++ flat_map (get_bytes form a) d.gets.items
