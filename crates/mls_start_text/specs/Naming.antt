-- What a start file's names are to be: those of schemes, of subjects and of objects.
use Rattle.std.specs.Prelude.{ℕ, Bool, not, ◌&&◌, List, Option, None, Some, option_map, if◌then◌else◌}
use Rattle.std.specs.Option.{option_or}
use Rattle.std.specs.List.{list_all}
use Rattle.mls_labels.specs.Names.{is_name, has_twice}
use Rattle.mls_labels.specs.Scheme.{scheme_fault}
use Rattle.mls_labels.specs.declared.scheme_fault.SchemeFault.{SchemeFault}
use Rattle.mls_lines.specs.Names.{Names}
use Rattle.mls_start_text.specs.declared.load_fault.LoadFault.{LoadFault}
use Rattle.mls_start_text.specs.declared.load_fault.LoadFault.TheVariants.{Scheme, Name}
use Rattle.mls_start_text.specs.Texts.{SaidFile, subject_names, object_names}

-- Why a file's schemes are refused, where they are: the fault of the security scheme, or else that of the integrity
-- scheme. (own)
abbrev pub schemes_fault : SaidFile → Option SchemeFault
schemes_fault file = option_or (scheme_fault file.security) (scheme_fault file.integrity)

-- Each is a name, and none stands twice. (own)
abbrev pub are_names : List (List ℕ) → Bool
are_names names = list_all is_name names && not (has_twice names)

-- The subjects have names, and the objects have. A subject and an object may have one name. (own)
abbrev pub names_fit : SaidFile → Bool
names_fit file = are_names (subject_names file) && are_names (object_names file)

-- What is wrong with the names in a file, where something is: a scheme is refused, or else the names of subjects or
-- objects aren't as they are to be. (own)
abbrev pub names_fault : SaidFile → Option LoadFault
names_fault file =
    option_or (option_map (λ fault. Scheme fault) (schemes_fault file)) (if names_fit file then None else Some Name)

-- The names that a file's lines may use: its subjects' and objects', whose places are their numbers, and its schemes.
-- (own)
abbrev pub names_of : SaidFile → Names
names_of file = record {
  subjects = subject_names file;
  objects = object_names file;
  security = file.security;
  integrity = file.integrity;
}
