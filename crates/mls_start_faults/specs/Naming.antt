-- Where a start file has a scheme that is refused, or names that are.
use Rattle.std.specs.Prelude.{ℕ, ◌==◌, nat_lt, List, [], ◌++◌, codes, length, Option, Some, None, if◌then◌else◌}
use Rattle.mls_labels.specs.Scheme.{Scheme}
use Rattle.mls_labels.specs.declared.limits.TheConstants.{MAX_LEVELS, MAX_CATEGORIES}
use Rattle.mls_labels.specs.declared.scheme_fault.SchemeFault.{SchemeFault}
use Rattle.mls_labels.specs.declared.scheme_fault.SchemeFault.TheVariants.{NoLevels, TooManyLevels, TooManyCategories}
use Rattle.mls_labels.specs.declared.scheme_fault.SchemeFault.TheVariants.{BadName, RepeatedName, Memory}
use Rattle.mls_start_text.specs.Texts.{SaidFile, subject_names, object_names}
use Rattle.mls_start_faults.specs.Each.{at_each}
use Rattle.mls_start_faults.specs.NameFaults.{name_faults}
use Rattle.mls_start_faults.specs.Places.{Located, located, on_member, on_names, on_name}
use Rattle.mls_start_faults.specs.declared.name_fault.NameFault.{NameFault}
use Rattle.mls_start_faults.specs.declared.name_fault.NameFault.TheVariants.{Bad, Repeated}

-- The words for what is wrong with a name. (own)
abbrev pub name_words : NameFault → List ℕ
name_words Bad = codes "bad name"
name_words Repeated = codes "repeated name"

-- The place of a subject or an object by what is wrong with its name, if anything. (own)
abbrev pub name_place : List ℕ → ℕ → Option NameFault → List Located
name_place list n None = []
name_place list n (Some fault) = located (on_member list n (codes "name") (name_words fault))

-- The places of the names that are refused in a list of subjects or of objects. (own)
abbrev pub name_places : List ℕ → List (List ℕ) → List Located
name_places list names = at_each (name_place list) 0 (name_faults names)

-- The places of a file's names: of subjects, then of objects. (own)
abbrev pub names_found : SaidFile → List Located
names_found file =
    name_places (codes "subjects") (subject_names file) ++ name_places (codes "objects") (object_names file)

-- The place of a name in a scheme that is no NAME. (own)
abbrev pub bad_place : List ℕ → List ℕ → ℕ → Option NameFault → List Located
bad_place scheme list k None = []
bad_place scheme list k (Some Bad) = located (on_name scheme list k (name_words Bad))
bad_place scheme list k (Some Repeated) = []

-- The place of a NAME in a scheme that stands before in its list. (own)
abbrev pub repeated_place : List ℕ → List ℕ → ℕ → Option NameFault → List Located
repeated_place scheme list k None = []
repeated_place scheme list k (Some Bad) = []
repeated_place scheme list k (Some Repeated) = located (on_name scheme list k (name_words Repeated))

-- The place of a list of a scheme that has these words to be said of it. (own)
abbrev pub count_place : List ℕ → List ℕ → List ℕ → List Located
count_place scheme list words = located (on_names scheme list words)

-- The places of the names of a scheme by what is wrong with each: of its levels, then of its categories. (own)
abbrev pub each_name : (List ℕ → ℕ → Option NameFault → List Located) → Scheme → List Located
each_name name_place s =
    at_each (name_place (codes "levels")) 0 (name_faults s.levels)
    ++ at_each (name_place (codes "categories")) 0 (name_faults s.categories)

-- The places of a scheme for a fault that schemes have. (own)
abbrev pub scheme_places : List ℕ → SchemeFault → Scheme → List Located
scheme_places name NoLevels s =
    if length s.levels == 0 then count_place name (codes "levels") (codes "no level") else []
scheme_places name TooManyLevels s =
    if nat_lt MAX_LEVELS (length s.levels) then count_place name (codes "levels") (codes "more than 16") else []
scheme_places name TooManyCategories s =
    if nat_lt MAX_CATEGORIES (length s.categories)
    then count_place name (codes "categories") (codes "more than 256") else []
scheme_places name BadName s = each_name (bad_place name) s
scheme_places name RepeatedName s = each_name (repeated_place name) s
scheme_places name Memory s = []

-- The places of a file for a fault that schemes have: of the security scheme, then of the integrity scheme. (own)
abbrev pub schemes_found : SchemeFault → SaidFile → List Located
schemes_found fault file =
    scheme_places (codes "security") fault file.security ++ scheme_places (codes "integrity") fault file.integrity
