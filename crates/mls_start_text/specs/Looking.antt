-- Looking into the tree that JSON is read as: what stands in an object's member.
use Rattle.std.specs.Prelude.{◌≡◌, ℕ, suc, Bool, List, [], ◌∷◌, Option, Some, is_some, option_map, unwrap_or}
use Rattle.std.specs.Str.{IsUtf8}
use Rattle.serde_json.specs.Data.{Data, Items, no_items, item, Members, no_members, member}
use Rattle.serde_json.specs.Find.{get, as_null, as_bool, as_number, as_str, as_array, as_object, as_u64}
use Rattle.serde_json.specs.Read.{read}
use Rattle.mls_start_text.specs.Each.{having, each_of}

-- The bytes are UTF-8 that `serde_json` reads as this tree. (own)
abbrev pub IsReadAs : List ℕ → Data → Type 0
IsReadAs bytes d = IsUtf8 bytes × (read bytes ≡ Some d)

-- How many members there are. (own)
abbrev pub count_of : Members → ℕ
count_of no_members = 0
count_of (member key d ms) = suc (count_of ms)

-- How many members an object has; a value of another type has none. (own)
abbrev pub member_count : Data → ℕ
member_count d = unwrap_or (option_map count_of (as_object d)) 0

-- The values of a list. (own)
abbrev pub list_of : Items → List Data
list_of no_items = []
list_of (item d ds) = d ∷ list_of ds

-- The text in a member. (own)
abbrev pub text_at : List ℕ → Data → Option (List ℕ)
text_at key d = having (get key d) as_str

-- The truth value in a member. (own)
abbrev pub bool_at : List ℕ → Data → Option Bool
bool_at key d = having (get key d) as_bool

-- Whether a member is there, and null. (own)
abbrev pub is_null_at : List ℕ → Data → Bool
is_null_at key d = is_some (having (get key d) as_null)

-- Whether a member is there, whatever it is. (own)
abbrev pub has_member : List ℕ → Data → Bool
has_member key d = is_some (get key d)

-- The whole number in a member, from 0 to 2^64 - 1; a number that is written with a point or an exponent is none. (own)
abbrev pub number_at : List ℕ → Data → Option ℕ
number_at key d = having (having (get key d) as_number) as_u64

-- The list in a member. (own)
abbrev pub list_at : List ℕ → Data → Option (List Data)
list_at key d = option_map list_of (having (get key d) as_array)

-- The texts in a member that is a list of texts. (own)
abbrev pub texts_at : List ℕ → Data → Option (List (List ℕ))
texts_at key d = having (list_at key d) (each_of as_str)
