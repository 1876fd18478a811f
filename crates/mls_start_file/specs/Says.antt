-- What the bytes of a start file say, and why they are refused.
use Rattle.std.specs.Prelude.{◌≡◌, ℕ, List, Ok, Err}
use Rattle.serde_json.specs.Data.{Data}
use Rattle.mls_start_file.specs.Loading.{load_of}
use Rattle.mls_start_text.specs.Looking.{IsReadAs}
use Rattle.mls_start_file.specs.Ties.{Loaded}
use Rattle.mls_start_text.specs.declared.load_fault.LoadFault.{LoadFault}
use Rattle.mls_start_text.specs.declared.load_fault.LoadFault.TheVariants.{Json, Members, Scheme, Name, Label, Unknown}
use Rattle.mls_start_text.specs.declared.load_fault.LoadFault.TheVariants.{Start, Memory}

-- The bytes of a start file say these names and this start. (own)
abbrev pub SaysStart : List ℕ → Loaded → Type 0
SaysStart bytes loaded = (d : Data) × IsReadAs bytes d × (load_of d ≡ Ok loaded)

-- The bytes are refused as a start file for this fault: they are no JSON, or what they are read as has it. (own)
abbrev pub RefusesStart : List ℕ → LoadFault → Type 0
RefusesStart bytes Json = (d : Data) → ¬ IsReadAs bytes d
RefusesStart bytes Members = (d : Data) × IsReadAs bytes d × (load_of d ≡ Err Members)
RefusesStart bytes (Scheme cause) = (d : Data) × IsReadAs bytes d × (load_of d ≡ Err (Scheme cause))
RefusesStart bytes Name = (d : Data) × IsReadAs bytes d × (load_of d ≡ Err Name)
RefusesStart bytes Label = (d : Data) × IsReadAs bytes d × (load_of d ≡ Err Label)
RefusesStart bytes Unknown = (d : Data) × IsReadAs bytes d × (load_of d ≡ Err Unknown)
RefusesStart bytes (Start cause) = (d : Data) × IsReadAs bytes d × (load_of d ≡ Err (Start cause))
RefusesStart bytes Memory = ⊥
