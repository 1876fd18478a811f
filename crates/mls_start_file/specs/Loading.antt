-- What a start file says, and why one is refused.
use Rattle.std.specs.Prelude.{Option, Some, None, Result, Ok, Err, option_map}
use Rattle.serde_json.specs.Data.{Data}
use Rattle.mls_lines.specs.Names.{Names}
use Rattle.mls_start.specs.Rows.{Rows, opening}
use Rattle.mls_start.specs.StartFaults.{start_fault}
use Rattle.mls_state.specs.State.{State}
use Rattle.mls_start_text.specs.Labelling.{Labelled, labels_of}
use Rattle.mls_start_text.specs.Naming.{names_fault, names_of}
use Rattle.mls_start_file.specs.Placing.{rows_of}
use Rattle.mls_start_text.specs.Texts.{SaidFile, file_of}
use Rattle.mls_start_file.specs.Ties.{Loaded}
use Rattle.mls_start_text.specs.declared.load_fault.LoadFault.{LoadFault}
use Rattle.mls_start_text.specs.declared.load_fault.LoadFault.TheVariants.{Members, Label, Unknown, Start}

-- A phase that finds a fault or none: the fault, or what comes next. (own)
abbrev pub refused_by : {X : Type 0} → Option LoadFault → Result X LoadFault → Result X LoadFault
refused_by (Some fault) next = Err fault
refused_by None next = next

-- A phase that needs something, and has a fault without it: what comes next of it, or the fault. (own)
abbrev pub needing : {A X : Type 0} → Option A → LoadFault → (A → Result X LoadFault) → Result X LoadFault
needing None fault next = Err fault
needing (Some a) fault next = next a

-- What rows say: the state that opens with them, where the builder finds no fault in them. (own)
abbrev pub start_of : Rows → Result State LoadFault
start_of rows = refused_by (option_map (λ fault. Start fault) (start_fault rows)) (Ok (opening rows))

-- What a file of these names with its labels says: what its rows say, where each name in it is known. (own)
abbrev pub start_labelled : Names → SaidFile → Labelled → Result State LoadFault
start_labelled names file labelled = needing (rows_of names file labelled) Unknown start_of

-- What a file of these names says: what it says with its labels, where each text spells one. (own)
abbrev pub start_named : Names → SaidFile → Result State LoadFault
start_named names file = needing (labels_of names file) Label (start_labelled names file)

-- What a start says together with names. (own)
abbrev pub with_names : Names → Result State LoadFault → Result Loaded LoadFault
with_names names (Ok start) = Ok (record { names = names; start = start })
with_names names (Err fault) = Err fault

-- What a file says: its names, and what it says of these names, where nothing is wrong with them. (own)
abbrev pub load_of_file : SaidFile → Result Loaded LoadFault
load_of_file file = refused_by (names_fault file) (with_names (names_of file) (start_named (names_of file) file))

-- What a tree says: what its file says, where it has the members of one. (own)
abbrev pub load_of : Data → Result Loaded LoadFault
load_of d = needing (file_of d) Members load_of_file
