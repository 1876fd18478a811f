-- What is wrong with a value that is to have the members of a part of a start file.
use Rattle.std.specs.Prelude.{ℕ, ◌==◌, List, [], ◌∷◌, ◌++◌, codes, Option, Some, None, is_some, if◌then◌else◌}
use Rattle.std.specs.List.{flat_map, list_any}
use Rattle.std.specs.Str.{bytes_eq}
use Rattle.serde_json.specs.Data.{Data, Items, Members, no_members, member}
use Rattle.serde_json.specs.Find.{get, as_null, as_bool, as_str, as_array, as_object}
use Rattle.mls_start_text.specs.Looking.{list_of}
use Rattle.mls_start_faults.specs.Each.{at_each}
use Rattle.mls_start_faults.specs.Places.{Step, Located, key, number, located}
use Rattle.mls_start_faults.specs.declared.rows.Row.{Row}
use Rattle.mls_start_faults.specs.declared.rows.Row.TheVariants.{Subject, Object, Cell}

-- The words for a required member that is to be a text, where it isn't. (own)
abbrev pub text_words : Option Data → Option (List ℕ)
text_words None = Some (codes "missing")
text_words (Some d) = if is_some (as_str d) then None else Some (codes "not a string")

-- The words for the required member that is to be true or false. (own)
abbrev pub bool_words : Option Data → Option (List ℕ)
bool_words None = Some (codes "missing")
bool_words (Some d) = if is_some (as_bool d) then None else Some (codes "not true or false")

-- The words for the root's parent, which is null. (own)
abbrev pub null_words : Option Data → Option (List ℕ)
null_words None = Some (codes "missing")
null_words (Some d) = if is_some (as_null d) then None else Some (codes "not null")

-- The words for the parent of the object of a number: null of the root, a text of any other. (own)
abbrev pub parent_words : ℕ → Option Data → Option (List ℕ)
parent_words n found = if n == 0 then null_words found else text_words found

-- The place of a member of the part that these steps lead to, where there are words for it. (own)
abbrev pub member_places : List Step → List ℕ → Option (List ℕ) → List Located
member_places steps k None = []
member_places steps k (Some words) = located (steps ++ key k ∷ [], words)

-- The place of an item that is to be a text, of a member that is a list. (own)
abbrev pub item_places : List Step → List ℕ → ℕ → Data → List Located
item_places steps k n d =
    if is_some (as_str d) then [] else located (steps ++ key k ∷ number n ∷ [], codes "not a string")

-- The places of a member that is to be a list of texts. (own)
abbrev pub list_places : List Step → List ℕ → Option Items → List Located
list_places steps k None = member_places steps k (Some (codes "not a list"))
list_places steps k (Some items) = at_each (item_places steps k) 0 (list_of items)

-- The places of a required member that is to be a list of texts. (own)
abbrev pub texts_places : List Step → List ℕ → Option Data → List Located
texts_places steps k None = member_places steps k (Some (codes "missing"))
texts_places steps k (Some d) = list_places steps k (as_array d)

-- The place of a member whose key isn't one of these. (own)
abbrev pub unknown_places : List Step → List (List ℕ) → List ℕ → List Located
unknown_places steps known k =
    if list_any (bytes_eq k) known then [] else located (steps ++ key k ∷ [], codes "unknown member")

-- The keys of members. (own)
abbrev pub keys_of : Members → List (List ℕ)
keys_of no_members = []
keys_of (member k d members) = k ∷ keys_of members

-- The places of the members beside those of these keys. (own)
abbrev pub others_places : List Step → List (List ℕ) → Members → List Located
others_places steps known members = flat_map (unknown_places steps known) (keys_of members)

-- The place of a required member that is to be a text. (own)
abbrev pub text_places : List Step → List ℕ → Data → List Located
text_places steps k d = member_places steps k (text_words (get k d))

-- The places of a scheme that is an object. (own)
abbrev pub scheme_places : List Step → Data → Members → List Located
scheme_places steps d members =
    texts_places steps (codes "levels") (get (codes "levels") d)
    ++ (texts_places steps (codes "categories") (get (codes "categories") d)
    ++ others_places steps (codes "levels" ∷ codes "categories" ∷ []) members)

-- The places of a subject that is an object. (own)
abbrev pub subject_places : List Step → Data → Members → List Located
subject_places steps d members =
    text_places steps (codes "name") d
    ++ (text_places steps (codes "maximum") d
    ++ (text_places steps (codes "current") d
    ++ (text_places steps (codes "integrity") d
    ++ (member_places steps (codes "trusted") (bool_words (get (codes "trusted") d))
    ++ others_places steps
    (codes "name" ∷ codes "maximum" ∷ codes "current" ∷ codes "integrity" ∷ codes "trusted" ∷ []) members))))

-- The places of the object of a number, which is one of the tree's objects too. (own)
abbrev pub object_places : List Step → ℕ → Data → Members → List Located
object_places steps n d members =
    text_places steps (codes "name") d
    ++ (member_places steps (codes "parent") (parent_words n (get (codes "parent") d))
    ++ (text_places steps (codes "security") d
    ++ (text_places steps (codes "integrity") d
    ++ others_places steps (codes "name" ∷ codes "parent" ∷ codes "security" ∷ codes "integrity" ∷ []) members)))

-- The places of a cell that is an object. (own)
abbrev pub cell_places : List Step → Data → Members → List Located
cell_places steps d members =
    text_places steps (codes "subject") d
    ++ (text_places steps (codes "object") d
    ++ (texts_places steps (codes "modes") (get (codes "modes") d)
    ++ others_places steps (codes "subject" ∷ codes "object" ∷ codes "modes" ∷ []) members))

-- The places of a row of a number that is an object. (own)
abbrev pub row_places : Row → List Step → ℕ → Data → Members → List Located
row_places Subject steps n d members = subject_places steps d members
row_places Object steps n d members = object_places steps n d members
row_places Cell steps n d members = cell_places steps d members

-- The places of a value that is to be an object with the members of a part, by its members if it is one. (own)
abbrev pub part_places : List Step → (Members → List Located) → Option Members → List Located
part_places steps places None = located (steps, codes "not an object")
part_places steps places (Some members) = places members

-- The places of the row of a number in a list. (own)
abbrev pub rows_at : Row → List ℕ → ℕ → Data → List Located
rows_at row list n d =
    part_places (key list ∷ number n ∷ []) (row_places row (key list ∷ number n ∷ []) n d) (as_object d)
