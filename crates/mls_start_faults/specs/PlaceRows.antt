-- What is printed of places.
use Rattle.std.specs.Prelude.{ℕ, List, ◌++◌, codes}
use Rattle.std.specs.List.{flat_map}
use Rattle.json.specs.Json.{Json}
use Rattle.json.specs.Token.{Token}
use Rattle.mls_rows.specs.Members.{text_member}
use Rattle.mls_rows.specs.Rows.{row_bytes}
use Rattle.mls_rows.specs.declared.form.Form.{Form}
use Rattle.mls_start_text.specs.declared.load_fault.LoadFault.{LoadFault}
use Rattle.serde_json.specs.Data.{Data}
use Rattle.mls_start_text.specs.Texts.{SaidFile}
use Rattle.mls_start_faults.specs.Found.{file_found, places_found}
use Rattle.mls_start_faults.specs.Places.{Located}
use Rattle.mls_start_faults.specs.Repeated.{repeated_found}

-- The line of a place: its pointer, and the words. (own)
abbrev pub located_line : Located → List ℕ
located_line place = place.0 ++ (codes ": " ++ (place.1 ++ codes "\n"))

-- The pointer to what is found. (own)
abbrev pub pointer_member : List ℕ → List Token
pointer_member text = text_member (codes "pointer") text

-- What is found. (own)
abbrev pub finding_member : List ℕ → List Token
finding_member words = text_member (codes "finding") words

-- The members of a place. (own)
abbrev pub located_members : Located → List Token
located_members place = pointer_member place.0 ++ finding_member place.1

-- A place in a form: its line, or its object in a line. (own)
abbrev pub located_row : Form → Located → List ℕ
located_row form place = row_bytes form (located_line place) (located_members place)

-- What is printed in a form of the places of a tree, for its fault. (own)
abbrev pub places_bytes : Form → LoadFault → Data → List ℕ
places_bytes form fault d = flat_map (located_row form) (places_found fault d)

-- What is printed in a form of the members that a start file has more than once in one object. (own)
abbrev pub repeated_bytes : Form → Json → List ℕ
repeated_bytes form j = flat_map (located_row form) (repeated_found j)

-- What is printed in a form of the places of a file that has the members of one, for its fault. (own)
abbrev pub file_bytes : Form → LoadFault → SaidFile → List ℕ
file_bytes form fault file = flat_map (located_row form) (file_found fault file)
