-- What is wrong with the names in a list.
use Rattle.std.specs.Prelude.{ℕ, not, List, [], ◌∷◌, ◌++◌, Option, Some, None, if◌then◌else◌}
use Rattle.std.specs.List.{list_any}
use Rattle.std.specs.Str.{bytes_eq}
use Rattle.mls_labels.specs.Names.{is_name}
use Rattle.mls_start_faults.specs.declared.name_fault.NameFault.{NameFault}
use Rattle.mls_start_faults.specs.declared.name_fault.NameFault.TheVariants.{Bad, Repeated}

-- What is wrong with a name that stands behind these, if anything: it is no NAME, or it is one of these. (own)
abbrev pub name_fault : List (List ℕ) → List ℕ → Option NameFault
name_fault before name =
    if not (is_name name) then Some Bad else if list_any (bytes_eq name) before then Some Repeated else None

-- What is wrong with each of the names that stand behind these. (own)
abbrev pub faults_after : List (List ℕ) → List (List ℕ) → List (Option NameFault)
faults_after before [] = []
faults_after before (name ∷ names) = name_fault before name ∷ faults_after (before ++ name ∷ []) names

-- What is wrong with each of the names. (own)
abbrev pub name_faults : List (List ℕ) → List (Option NameFault)
name_faults names = faults_after [] names
