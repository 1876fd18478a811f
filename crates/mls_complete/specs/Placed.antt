-- Where the fault of a short start file applies.
use Rattle.std.specs.Prelude.{ℕ, List, [], option_map, unwrap_or}
use Rattle.serde_json.specs.Data.{Data}
use Rattle.mls_rows.specs.declared.form.Form.{Form}
use Rattle.mls_start_text.specs.declared.load_fault.LoadFault.{LoadFault}
use Rattle.mls_start_faults.specs.PlaceRows.{file_bytes}
use Rattle.mls_complete.specs.Short.{short_file}

-- What is printed in a form of the places of a short file's tree, for its fault: those of the file that it means, with
-- what is left out filled in; nothing where it hasn't a short file's members. (own)
abbrev pub short_bytes : Form → LoadFault → Data → List ℕ
short_bytes form fault d = unwrap_or (option_map (file_bytes form fault) (short_file d)) []
