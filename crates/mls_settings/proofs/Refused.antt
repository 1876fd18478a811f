-- Why a start file is refused as settings have it: never that what it is read as isn't JSON.
use Rattle.std.proofs.Common.{◌≡◌, ◌≢◌, ℕ, List, refl, ◌∙◌, Option, Some, None, Result, Ok, Err, IfErr, option_map, Bool, true, false, cond}
use Rattle.std.specs.Option.{option_or}
use Rattle.std.proofs.lemmas.Option.{none-some, same_Some}
use Rattle.serde_json.specs.Data.{Data}
use Rattle.mls_labels.specs.declared.scheme_fault.SchemeFault.{SchemeFault}
use Rattle.mls_lines.specs.Names.{Names}
use Rattle.mls_start.specs.Rows.{Rows, opening}
use Rattle.mls_start.specs.StartFaults.{start_fault}
use Rattle.mls_state.specs.State.{State}
use Rattle.mls_state.specs.declared.start_fault.StartFault.{StartFault}
use Rattle.mls_start_text.specs.Labelling.{Labelled, labels_of}
use Rattle.mls_start_file.specs.Loading.{refused_by, needing, start_of, start_labelled, start_named, with_names, load_of_file}
use Rattle.mls_start_text.specs.Looking.{IsReadAs}
use Rattle.mls_start_text.specs.Naming.{schemes_fault, names_fit, names_fault, names_of}
use Rattle.mls_start_file.specs.Placing.{rows_of}
use Rattle.mls_start_text.specs.Texts.{SaidFile, file_of}
use Rattle.mls_start_file.specs.Ties.{Loaded}
use Rattle.mls_start_text.specs.declared.load_fault.LoadFault.{LoadFault}
use Rattle.mls_start_text.specs.declared.load_fault.LoadFault.TheVariants.{Json, Members, Scheme, Name, Label, Unknown, Start, Memory}
use Rattle.mls_settings.specs.Settings.{RefusesSet, load_set, set_all}
use Rattle.mls_settings.specs.declared.setting.Setting.{Setting}

-- a result that isn't the fault that there is no JSON
abbrev NotJson : {X : Type 0} → Result X LoadFault → Type 0
NotJson (Ok x) = Unit {0}
NotJson (Err fault) = fault ≢ Json

needing_not : {A X : Type 0} (o : Option A) (fault : LoadFault) (next : A → Result X LoadFault) → fault ≢ Json → ((a : A) → NotJson (next a)) → NotJson (needing o fault next)
needing_not None fault next here later = here
needing_not (Some a) fault next here later = later a

refused_not : {X : Type 0} (o : Option LoadFault) (next : Result X LoadFault) → ((fault : LoadFault) → o ≡ Some fault → fault ≢ Json) → NotJson next → NotJson (refused_by o next)
refused_not None next here later = later
refused_not (Some fault) next here later = here fault refl

start_not : (o : Option StartFault) (fault : LoadFault) → option_map (λ f. Start f) o ≡ Some fault → fault ≢ Json
start_not None fault is = absurd (none-some fault is)
start_not (Some f) fault is = λ json. let e : Start f ≡ Json = same_Some (Start f) fault is ∙ json in cc

names_not : (o : Option SchemeFault) (fit : Bool) (fault : LoadFault) → option_or (option_map (λ f. Scheme f) o) (cond fit None (Some Name)) ≡ Some fault → fault ≢ Json
names_not None true fault is = absurd (none-some fault is)
names_not None false fault is = λ json. let e : Name ≡ Json = same_Some Name fault is ∙ json in cc
names_not (Some f) fit fault is = λ json. let e : Scheme f ≡ Json = same_Some (Scheme f) fault is ∙ json in cc

rows_not : (rows : Rows) → NotJson (start_of rows)
rows_not rows = refused_not (option_map (λ f. Start f) (start_fault rows)) (Ok (opening rows)) (start_not (start_fault rows)) tt

with_not : (names : Names) (r : Result State LoadFault) → NotJson r → NotJson (with_names names r)
with_not names (Ok start) not = tt
with_not names (Err fault) not = not

named_not : (names : Names) (file : SaidFile) → NotJson (start_named names file)
named_not names file =
    needing_not (labels_of names file) Label (start_labelled names file) (λ e. cc) (λ (labelled : Labelled).
    needing_not (rows_of names file labelled) Unknown start_of (λ e. cc) rows_not)

file_not : (file : SaidFile) → NotJson (load_of_file file)
file_not file =
    refused_not (names_fault file) (with_names (names_of file) (start_named (names_of file) file)) (names_not (schemes_fault file) (names_fit file)) (with_not (names_of file) (start_named (names_of file) file) (named_not (names_of file) file))

set_not : (settings : List Setting) (d : Data) → NotJson (load_set settings d)
set_not settings d = needing_not (file_of d) Members (λ file. load_of_file (set_all file settings)) (λ e. cc) (λ file. file_not (set_all file settings))

at_err : (r : Result Loaded LoadFault) → NotJson r → r ≡ Err Json → ⊥
at_err (Ok loaded) not is = cc
at_err (Err fault) not is = let same : fault ≡ Json = cc in not same

-- bytes that are read as a tree that is refused are refused
tree_refuses : (bytes : List ℕ) (settings : List Setting) (d : Data) (fault : LoadFault) → IsReadAs bytes d
    → (fault ≢ Memory → load_set settings d ≡ Err fault) → fault ≢ Memory → RefusesSet bytes settings fault
tree_refuses bytes settings d Json read why other = absurd (at_err (load_set settings d) (set_not settings d) (why other))
tree_refuses bytes settings d Members read why other = (d, read, why other)
tree_refuses bytes settings d (Scheme cause) read why other = (d, read, why other)
tree_refuses bytes settings d Name read why other = (d, read, why other)
tree_refuses bytes settings d Label read why other = (d, read, why other)
tree_refuses bytes settings d Unknown read why other = (d, read, why other)
tree_refuses bytes settings d (Start cause) read why other = (d, read, why other)
tree_refuses bytes settings d Memory read why other = other refl

-- so is a load of them
pub set_refuses : (bytes : List ℕ) (settings : List Setting) (d : Data) (result : Result Loaded LoadFault) → IsReadAs bytes d
    → IfErr result (λ fault. fault ≢ Memory → load_set settings d ≡ Err fault) → IfErr result (λ fault. fault ≢ Memory → RefusesSet bytes settings fault)
set_refuses bytes settings d (Ok loaded) read why = tt
set_refuses bytes settings d (Err fault) read why = tree_refuses bytes settings d fault read why
