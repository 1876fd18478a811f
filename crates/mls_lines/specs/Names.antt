-- The names of a start: subjects, objects, levels and categories. The names of variables.
use Rattle.std.specs.Prelude.{ℕ, List, length, map, nat_lt, if◌then◌else◌, Option, Some, None, refl}
use Rattle.std.proofs.Common.{Bor}
use Rattle.std.specs.Map.{lookup}
use Rattle.std.specs.Str.{bytes_eq}
use Rattle.std.specs.Coded.{Coded, code_by, coded×, coded_ℕ, coded_list}
use Rattle.mls_labels.specs.Names.{has_twice}
use Rattle.mls_labels.specs.Scheme.{Scheme, scheme_code}
use Rattle.mls_tables.specs.declared.limits.TheConstants.{MAX_SUBJECTS, MAX_OBJECTS}
use Rattle.mls_lines.specs.declared.names_fault.NamesFault.{NamesFault}
use Rattle.mls_lines.specs.declared.names_fault.NamesFault.TheVariants.{TooManySubjects, TooManyObjects}
use Rattle.mls_lines.specs.declared.names_fault.NamesFault.TheVariants.{RepeatedSubject, RepeatedObject}

-- The names of a start's subjects and of its objects, each name a list of bytes, whose place is its number; and the
-- schemes of its security and its integrity labels. (own)
pub record Names : Type 0 where
  pub subjects : List (List ℕ)
  pub objects : List (List ℕ)
  pub security : Scheme
  pub integrity : Scheme

-- What borrowed texts say. (own)
abbrev pub texts : List (Bor (List ℕ)) → List (List ℕ)
texts names = map (λ name. name.now) names

-- The fault of how many names there are: too many subjects, or else too many objects. (own)
abbrev pub fault_of_counts : List (List ℕ) → List (List ℕ) → Option NamesFault
fault_of_counts subjects objects =
    if nat_lt MAX_SUBJECTS (length subjects) then Some TooManySubjects
    else if nat_lt MAX_OBJECTS (length objects) then Some TooManyObjects
    else None

-- The first fault of names in the order of the faults, where they have one. (own)
abbrev pub names_fault : List (List ℕ) → List (List ℕ) → Option NamesFault
names_fault subjects objects =
    if nat_lt MAX_SUBJECTS (length subjects) then Some TooManySubjects
    else if nat_lt MAX_OBJECTS (length objects) then Some TooManyObjects
    else if has_twice subjects then Some RepeatedSubject
    else if has_twice objects then Some RepeatedObject
    else None

-- Names are stored as pairs, of the lists and of the schemes. (own)
abbrev pub names_code : Coded Names
names_code =
    code_by ((List (List ℕ) × List (List ℕ)) × (Scheme × Scheme))
    (coded× (coded× (coded_list (coded_list coded_ℕ)) (coded_list (coded_list coded_ℕ)))
    (coded× scheme_code scheme_code))
    (λ n. ((n.subjects, n.objects), (n.security, n.integrity)))
    (λ p. record { subjects = p.0.0; objects = p.0.1; security = p.1.0; integrity = p.1.1 }) (λ _. refl)

-- What a variable is bound to, among pairs of a name and an object's number. (own)
abbrev pub bound_to : List ℕ → List (List ℕ × ℕ) → Option ℕ
bound_to name bindings = lookup (bytes_eq name) bindings
