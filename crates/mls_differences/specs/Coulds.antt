-- The accesses that untrusted subjects could get from one of two starts alone.
use Rattle.std.specs.Prelude.{ℕ, Bool, Option, Some, None, List, [], ◌∷◌, ◌++◌, codes}
use Rattle.std.specs.List.{flat_map}
use Rattle.json.specs.Token.{Token}
use Rattle.mls_tables.specs.Triples.{Triple}
use Rattle.mls_tables.specs.declared.limits.TheConstants.{MAX_SUBJECTS, MAX_OBJECTS}
use Rattle.mls_tables.specs.declared.mode.Mode.{Mode}
use Rattle.mls_tables.specs.declared.mode.Mode.TheVariants.{Execute, Read, Append, Write}
use Rattle.mls_state.specs.State.{State}
use Rattle.mls_lines.specs.Names.{Names}
use Rattle.mls_rows.specs.Members.{access_members}
use Rattle.mls_rows.specs.Rows.{row_bytes}
use Rattle.mls_rows.specs.declared.form.Form.{Form}
use Rattle.mls_rows.specs.declared.listing.Listing.{Listing}
use Rattle.mls_could.specs.Brought.{is_untrusted}
use Rattle.mls_could.specs.Outsets.{Decides}
use Rattle.mls_differences.specs.Counterparts.{shared}
use Rattle.mls_differences.specs.Differences.{IsListing}
use Rattle.mls_differences.specs.Sides.{alone, on_side}
use Rattle.mls_differences.specs.SingleForms.{get_text, side_member}
use Rattle.mls_differences.specs.Things.{difference_member}
use Rattle.mls_differences.specs.declared.could_row.CouldRow.{CouldRow}
use Rattle.mls_differences.specs.declared.shared.Shared.{Shared}
use Rattle.mls_differences.specs.declared.side.Side.{Side}

-- The row of an access, where one of two starts alone has it; the numbers are the first start's. (own)
abbrev pub lone_rows : ℕ → ℕ → Mode → Option Side → List CouldRow
lone_rows s o x None = []
lone_rows s o x (Some side) = record { subject = s; object = o; mode = x; side = side } ∷ []

-- The row of an access of a subject and an object that two starts share, by a test of each start. (own)
abbrev pub could_rows : (Triple → Bool) → (Triple → Bool) → Shared → Shared → Mode → List CouldRow
could_rows here there s o x =
    lone_rows s.first o.first x (alone (here (s.first, o.first, x)) (there (s.second, o.second, x)))

-- The rows of the accesses of a subject to an object, in the order of modes. (own)
abbrev pub cell_coulds : (Triple → Bool) → (Triple → Bool) → Shared → Shared → List CouldRow
cell_coulds here there s o =
    could_rows here there s o Execute ++ could_rows here there s o Read ++ could_rows here there s o Append
    ++ could_rows here there s o Write

-- The rows of the accesses of some subjects to some objects: by subject, object and mode. (own)
abbrev pub all_coulds : (Triple → Bool) → (Triple → Bool) → List Shared → List Shared → List CouldRow
all_coulds here there subjects objects = flat_map (λ s. flat_map (cell_coulds here there s) objects) subjects

-- The line of a row, by the words for both files and by the names of the first start. (own)
abbrev pub could_line : List ℕ → List ℕ → Names → CouldRow → List ℕ
could_line file other names row =
    codes "could " ++ get_text names row.subject row.object row.mode ++ codes ": only in "
    ++ on_side file other row.side ++ 10 ∷ []

-- The members of a row. (own)
abbrev pub could_members : Names → CouldRow → List Token
could_members names row =
    difference_member (codes "could") ++ access_members names (row.subject, row.object, row.mode)
    ++ side_member row.side

-- Rows in a form. (own)
abbrev pub could_bytes : Form → List ℕ → List ℕ → Names → List CouldRow → List ℕ
could_bytes form file other names rows =
    flat_map (λ row. row_bytes form (could_line file other names row) (could_members names row)) rows

-- The rows of the accesses of the subjects to the objects whose names two starts share. (own)
abbrev pub named_coulds : (Triple → Bool) → (Triple → Bool) → Names → Names → List CouldRow
named_coulds here there a b =
    all_coulds here there (shared a.subjects b.subjects MAX_SUBJECTS) (shared a.objects b.objects MAX_OBJECTS)

-- An answer tells which accesses untrusted subjects could get from one of two states alone, of subjects and objects
-- whose names two starts share, by the words for both files; it is positive where there is none. (own)
pub record TellsCoulds (form : Form) (file other : List ℕ) (a b : Names) (v w : State) (listing : Listing)
    : Type 0 where
  pub here : Triple → Bool
  pub of_first : Decides here v (is_untrusted v)
  pub there : Triple → Bool
  pub of_second : Decides there w (is_untrusted w)
  pub answered : IsListing (could_bytes form file other a (named_coulds here there a b)) listing
