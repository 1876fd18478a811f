-- Permissions that a start file has more than once.
use Rattle.std.specs.Prelude.{ℕ, suc, List, [], ◌∷◌, ◌++◌, codes, if◌then◌else◌}
use Rattle.std.specs.List.{flat_map, list_any}
use Rattle.std.specs.Str.{bytes_eq}
use Rattle.serde_json.specs.Data.{Data}
use Rattle.mls_rows.specs.declared.form.Form.{Form}
use Rattle.mls_start_text.specs.Texts.{SaidFile, SaidCell}
use Rattle.mls_start_faults.specs.Found.{by_file}
use Rattle.mls_start_faults.specs.PlaceRows.{located_row}
use Rattle.mls_start_faults.specs.Places.{Located, located, on_item}

-- The places that were found, and the texts of the permissions that were seen. (own)
abbrev pub Looked : Type 0
Looked = List Located × List (List ℕ)

-- What becomes of this by a step for each item of a list, in their order, by its number, which is counted from n. (own)
abbrev pub by_each : {A : Type 0} → (ℕ → A → Looked → Looked) → ℕ → List A → Looked → Looked
by_each step n [] looked = looked
by_each step n (a ∷ items) looked = by_each step (suc n) items (step n a looked)

-- The text of a permission: subject, mode and object. (own)
abbrev pub permission_text : SaidCell → List ℕ → List ℕ
permission_text c word = c.subject ++ (codes " " ++ (word ++ (codes " " ++ c.object)))

-- A permission of a text at a place: that place, where one of the text was seen. (own)
abbrev pub looked_at : ℕ → ℕ → List ℕ → Looked → Looked
looked_at row k text looked =
    if list_any (bytes_eq text) looked.1
    then (looked.0 ++ located (on_item (codes "matrix") row (codes "modes") k (codes "repeated permission")), looked.1)
    else (looked.0, looked.1 ++ text ∷ [])

-- A mode of a cell. (own)
abbrev pub mode_looked : ℕ → SaidCell → ℕ → List ℕ → Looked → Looked
mode_looked row c k word looked = looked_at row k (permission_text c word) looked

-- A cell. (own)
abbrev pub cell_looked : ℕ → SaidCell → Looked → Looked
cell_looked row c looked = by_each (mode_looked row c) 0 c.modes looked

-- The places of the permissions in the matrix of a file that stand there before. (own)
abbrev pub permissions_found : SaidFile → List Located
permissions_found file = (by_each cell_looked 0 file.cells ([], [])).0

-- What is printed of them in a form. (own)
abbrev pub permissions_bytes : Form → Data → List ℕ
permissions_bytes form d = flat_map (located_row form) (by_file permissions_found d)
