-- What is wrong with the members of a start file.
use Rattle.std.specs.Prelude.{ℕ, Bool, true, false, ◌==◌, ◌||◌, List, [], ◌∷◌, ◌++◌, codes, Option, Some, None}
use Rattle.std.specs.Prelude.{if◌then◌else◌}
use Rattle.mls_facts.specs.Numbered.{holds_of}
use Rattle.serde_json.specs.Data.{Data, Items, Members, no_items, item}
use Rattle.serde_json.specs.Find.{get, as_number, as_u64, as_array, as_object}
use Rattle.mls_start_text.specs.Each.{having}
use Rattle.mls_start_text.specs.Looking.{list_of}
use Rattle.mls_start_faults.specs.Each.{at_each}
use Rattle.mls_start_faults.specs.Places.{Located, key, located, on_list}
use Rattle.mls_start_faults.specs.Rows.{part_places, scheme_places, rows_at, others_places}
use Rattle.mls_start_faults.specs.declared.rows.Row.{Row}
use Rattle.mls_start_faults.specs.declared.rows.Row.TheVariants.{Subject, Object, Cell}

-- The places of a required scheme. (own)
abbrev pub scheme_at : List ℕ → Option Data → List Located
scheme_at k None = located (on_list k (codes "missing"))
scheme_at k (Some d) = part_places (key k ∷ []) (scheme_places (key k ∷ []) d) (as_object d)

-- The places of what is to be a list of rows. (own)
abbrev pub listed_at : Row → List ℕ → Option Items → List Located
listed_at row k None = located (on_list k (codes "not a list"))
listed_at row k (Some items) = at_each (rows_at row k) 0 (list_of items)

-- The places of a required list of rows. (own)
abbrev pub list_at : Row → List ℕ → Option Data → List Located
list_at row k None = located (on_list k (codes "missing"))
list_at row k (Some d) = listed_at row k (as_array d)

-- A value is a list without items. (own)
abbrev pub has_none : Option Items → Bool
has_none None = false
has_none (Some no_items) = true
has_none (Some (item d items)) = false

-- The places of the objects, of which there is a root. (own)
abbrev pub objects_at : Option Data → List Located
objects_at None = located (on_list (codes "objects") (codes "missing"))
objects_at (Some d) =
    if has_none (as_array d) then located (on_list (codes "objects") (codes "empty"))
    else listed_at Object (codes "objects") (as_array d)

-- The places of the accesses, which may be left out. (own)
abbrev pub accesses_at : Option Data → List Located
accesses_at None = []
accesses_at (Some d) = listed_at Cell (codes "accesses") (as_array d)

-- A value is the number of a profile. (own)
abbrev pub is_profile : Data → Bool
is_profile d = holds_of (λ n. (n == 1) || (n == 2)) (having (as_number d) as_u64)

-- The place of the profile, which may be left out. (own)
abbrev pub profile_at : Option Data → List Located
profile_at None = []
profile_at (Some d) = if is_profile d then [] else located (on_list (codes "profile") (codes "not 1 or 2"))

-- The keys of a start file's members. (own)
abbrev pub file_keys : List (List ℕ)
file_keys =
    codes "security" ∷ codes "integrity" ∷ codes "subjects" ∷ codes "objects" ∷ codes "matrix" ∷ codes "accesses"
    ∷ codes "profile" ∷ []

-- The places of the schemes. (own)
abbrev pub schemes_at : Data → List Located
schemes_at d =
    scheme_at (codes "security") (get (codes "security") d) ++ scheme_at (codes "integrity") (get (codes "integrity") d)

-- The places of the subjects and the objects. (own)
abbrev pub known_at : Data → List Located
known_at d = list_at Subject (codes "subjects") (get (codes "subjects") d) ++ objects_at (get (codes "objects") d)

-- The places of the matrix and the accesses. (own)
abbrev pub cells_at : Data → List Located
cells_at d = list_at Cell (codes "matrix") (get (codes "matrix") d) ++ accesses_at (get (codes "accesses") d)

-- The places of the lists. (own)
abbrev pub lists_at : Data → List Located
lists_at d = known_at d ++ cells_at d

-- The places of the other members. (own)
abbrev pub rest_at : Data → Members → List Located
rest_at d members = profile_at (get (codes "profile") d) ++ others_places [] file_keys members

-- The places of a start file that is an object. (own)
abbrev pub file_at : Data → Members → List Located
file_at d members = schemes_at d ++ (lists_at d ++ rest_at d members)

-- The places of what is wrong with a start file's members, in the file's order. (own)
abbrev pub members_found : Data → List Located
members_found d = part_places [] (file_at d) (as_object d)
