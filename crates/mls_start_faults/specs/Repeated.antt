-- Members that a start file has more than once in one object.
use Rattle.std.specs.Prelude.{ℕ, suc, Bool, nat_lt, List, [], ◌∷◌, ◌++◌, codes, Option, Some, None, if◌then◌else◌}
use Rattle.std.specs.Str.{bytes_eq}
use Rattle.json.specs.Json.{Json, Items, no_items, item, Members, no_members, member}
use Rattle.json.specs.Find.{get, as_array, as_object}
use Rattle.mls_start_faults.specs.Each.{at_each}
use Rattle.mls_start_faults.specs.Places.{Located, Wrong, located, on_list, on_member, on_names}
use Rattle.mls_start_faults.specs.declared.repeats.Kept.{Kept}
use Rattle.mls_start_faults.specs.declared.repeats.Kept.TheVariants.{Subject, Object, Cell}

-- How many members have a key. (own)
abbrev pub count_of : List ℕ → Members → ℕ
count_of k no_members = 0
count_of k (member l j ms) = if bytes_eq l k then suc (count_of k ms) else count_of k ms

-- A key is that of more than one of these members. (own)
abbrev pub is_twice : List ℕ → Option Members → Bool
is_twice k None = nat_lt 1 0
is_twice k (Some ms) = nat_lt 1 (count_of k ms)

-- A value is an object that has more than one member of a key. (own)
abbrev pub is_repeated : List ℕ → Json → Bool
is_repeated k j = is_twice k (as_object j)

-- What is told of a member that is repeated. (own)
abbrev pub repeated : List ℕ
repeated = codes "repeated member"

-- A place, where a value has more than one member of a key. (own)
abbrev pub place_where : Bool → Wrong → List Located
place_where so w = if so then located w else []

-- The place of a member of the file. (own)
abbrev pub file_place : Json → List ℕ → List Located
file_place j k = place_where (is_repeated k j) (on_list k repeated)

-- The place of a member of a scheme. (own)
abbrev pub name_place : List ℕ → Json → List ℕ → List Located
name_place scheme j k = place_where (is_repeated k j) (on_names scheme k repeated)

-- The place of a member of an object in a list. (own)
abbrev pub member_place : List ℕ → ℕ → Json → List ℕ → List Located
member_place list n j k = place_where (is_repeated k j) (on_member list n k repeated)

-- The places within a scheme. (own)
abbrev pub scheme_places : List ℕ → Option Json → List Located
scheme_places scheme None = []
scheme_places scheme (Some j) = name_place scheme j (codes "levels") ++ name_place scheme j (codes "categories")

-- The places of an object in a list, by what it tells of. (own)
abbrev pub row_places : Kept → List ℕ → ℕ → Json → List Located
row_places Subject list n j =
    member_place list n j (codes "name") ++ (member_place list n j (codes "maximum")
    ++ (member_place list n j (codes "current") ++ (member_place list n j (codes "integrity")
    ++ member_place list n j (codes "trusted"))))
row_places Object list n j =
    member_place list n j (codes "name") ++ (member_place list n j (codes "parent")
    ++ (member_place list n j (codes "security") ++ member_place list n j (codes "integrity")))
row_places Cell list n j =
    member_place list n j (codes "subject") ++ (member_place list n j (codes "object")
    ++ member_place list n j (codes "modes"))

-- The values of a list. (own)
abbrev pub values_of : Items → List Json
values_of no_items = []
values_of (item j js) = j ∷ values_of js

-- The places within a list. (own)
abbrev pub items_places : Kept → List ℕ → Option Items → List Located
items_places kept list None = []
items_places kept list (Some js) = at_each (row_places kept list) 0 (values_of js)

-- The places within a member that is to be a list. (own)
abbrev pub list_places : Kept → List ℕ → Option Json → List Located
list_places kept list None = []
list_places kept list (Some j) = items_places kept list (as_array j)

-- The places of a scheme that is a member of the file, and of its members. (own)
abbrev pub scheme_part : Json → List ℕ → List Located
scheme_part j k = file_place j k ++ scheme_places k (get k j)

-- The places of a list that is a member of the file, and of the objects in it. (own)
abbrev pub list_part : Json → Kept → List ℕ → List Located
list_part j kept k = file_place j k ++ list_places kept k (get k j)

-- The places of the schemes of a start file. (own)
abbrev pub schemes_part : Json → List Located
schemes_part j = scheme_part j (codes "security") ++ scheme_part j (codes "integrity")

-- The places of the subjects and the objects of a start file. (own)
abbrev pub known_part : Json → List Located
known_part j = list_part j Subject (codes "subjects") ++ list_part j Object (codes "objects")

-- The places of the matrix and the accesses of a start file. (own)
abbrev pub cells_part : Json → List Located
cells_part j = list_part j Cell (codes "matrix") ++ list_part j Cell (codes "accesses")

-- The places of the lists of a start file. (own)
abbrev pub lists_part : Json → List Located
lists_part j = known_part j ++ cells_part j

-- The places of a start file: of each member that an object has more than once, in the file's order, within the values
-- that count. (own)
abbrev pub repeated_found : Json → List Located
repeated_found j = schemes_part j ++ (lists_part j ++ file_place j (codes "profile"))
