-- The places where the fault of a start file applies.
use Rattle.std.specs.Prelude.{List, [], option_map, unwrap_or}
use Rattle.serde_json.specs.Data.{Data}
use Rattle.mls_start_text.specs.Texts.{SaidFile, file_of}
use Rattle.mls_start_text.specs.declared.load_fault.LoadFault.{LoadFault}
use Rattle.mls_start_text.specs.declared.load_fault.LoadFault.TheVariants.{Json, Members, Scheme, Name, Label, Unknown}
use Rattle.mls_start_text.specs.declared.load_fault.LoadFault.TheVariants.{Start, Memory}
use Rattle.mls_start_faults.specs.Labels.{labels_found}
use Rattle.mls_start_faults.specs.Members.{members_found}
use Rattle.mls_start_faults.specs.Naming.{names_found, schemes_found}
use Rattle.mls_start_faults.specs.Places.{Located}
use Rattle.mls_start_faults.specs.Starts.{start_found}
use Rattle.mls_start_faults.specs.Unknowns.{unknowns_found}

-- The places of a file that has the members of one, for its fault. (own)
abbrev pub file_found : LoadFault → SaidFile → List Located
file_found Json file = []
file_found Members file = []
file_found (Scheme cause) file = schemes_found cause file
file_found Name file = names_found file
file_found Label file = labels_found file
file_found Unknown file = unknowns_found file
file_found (Start cause) file = start_found cause file
file_found Memory file = []

-- What is found of a tree by its file: nothing where it hasn't the members of one. (own)
abbrev pub by_file : (SaidFile → List Located) → Data → List Located
by_file places d = unwrap_or (option_map places (file_of d)) []

-- The places of a tree, for its fault. (own)
abbrev pub places_found : LoadFault → Data → List Located
places_found Json d = by_file (file_found Json) d
places_found Members d = members_found d
places_found (Scheme cause) d = by_file (file_found (Scheme cause)) d
places_found Name d = by_file (file_found Name) d
places_found Label d = by_file (file_found Label) d
places_found Unknown d = by_file (file_found Unknown) d
places_found (Start cause) d = by_file (file_found (Start cause)) d
places_found Memory d = by_file (file_found Memory) d
