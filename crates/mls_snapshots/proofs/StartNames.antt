-- The names of a start file are NAMEs, and none stands twice.
use Rattle.std.proofs.Common.{◌≡◌, Bool, true, false, cond, List, ℕ, Option, Some, None, Result, Ok, Err, refl, sym, ap, subst}
use Rattle.std.specs.Prelude.{not, option_map}
use Rattle.std.specs.List.{list_all}
use Rattle.std.specs.Option.{option_or}
use Rattle.std.proofs.lemmas.Bool.{and_parts, not-true}
use Rattle.mls_labels.specs.Names.{is_name, has_twice}
use Rattle.mls_lines.specs.Names.{Names}
use Rattle.mls_state.specs.State.{State}
use Rattle.mls_start_file.specs.Loading.{refused_by, needing, with_names, start_named, load_of_file}
use Rattle.mls_start_file.specs.Says.{SaysStart}
use Rattle.mls_start_file.specs.Ties.{Loaded}
use Rattle.mls_start_text.specs.Naming.{are_names, names_fit, names_fault, names_of, schemes_fault}
use Rattle.mls_start_text.specs.Texts.{SaidFile, file_of, subject_names, object_names}
use Rattle.mls_start_text.specs.declared.load_fault.LoadFault.{LoadFault}
use Rattle.mls_start_text.specs.declared.load_fault.LoadFault.TheVariants.{Members, Name, Scheme}
use Rattle.mls_wording.specs.ReadBack.{AreNames, HasNames}

are : (names : List (List ℕ)) → are_names names ≡ true → AreNames names
are names h =
    let parts = and_parts (list_all is_name names) (not (has_twice names)) h in
    record { each = parts.0; once = not-true (has_twice names) parts.1 }

-- a phase that found no fault
passed : {X : Type 0} (fault : Option LoadFault) (next : Result X LoadFault) (x : X) → refused_by fault next ≡ Ok x → (fault ≡ None) × (next ≡ Ok x)
passed None next x h = (refl, h)
passed (Some f) next x h = cc

second_none : {X : Type 0} (a b : Option X) → option_or a b ≡ None → b ≡ None
second_none None b h = h
second_none (Some x) b h = cc

fit : (b : Bool) → cond b None (Some Name) ≡ None → b ≡ true
fit true h = refl
fit false h = cc

named : (names : Names) (r : Result State LoadFault) (loaded : Loaded) → with_names names r ≡ Ok loaded → loaded.names ≡ names
named names (Ok start) loaded h =
    let same : ◌≡◌ {A = Loaded} (record { names = names; start = start }) loaded = cc in
    sym (ap (λ (l : Loaded). l.names) same)
named names (Err f) loaded h = cc

of_file : (file : SaidFile) (loaded : Loaded) → load_of_file file ≡ Ok loaded → HasNames loaded.names
of_file file loaded h =
    let phase = passed (names_fault file) (with_names (names_of file) (start_named (names_of file) file)) loaded h in
    let all : names_fit file ≡ true = fit (names_fit file) (second_none (option_map (λ fault. Scheme fault) (schemes_fault file)) _ phase.0) in
    let parts = and_parts (are_names (subject_names file)) (are_names (object_names file)) all in
    let has : HasNames (names_of file) = record { subjects = are (subject_names file) parts.0; objects = are (object_names file) parts.1 } in
    subst HasNames (sym (named (names_of file) (start_named (names_of file) file) loaded phase.1)) has

of_some : (file : Option SaidFile) (loaded : Loaded) → needing file Members load_of_file ≡ Ok loaded → HasNames loaded.names
of_some None loaded h = cc
of_some (Some file) loaded h = of_file file loaded h

pub start_names : (bytes : List ℕ) (loaded : Loaded) → SaysStart bytes loaded → HasNames loaded.names
start_names bytes loaded says = of_some (file_of says.0) loaded says.2
