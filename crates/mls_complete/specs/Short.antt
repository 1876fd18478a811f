-- What a short start file says: a start file in which members may be left out that have a usual value.
use Rattle.std.specs.Prelude.{ℕ, Bool, true, false, List, [], ◌∷◌, codes, ◌+◌, if◌then◌else◌, Option, Some, None}
use Rattle.serde_json.specs.Data.{Data}
use Rattle.serde_json.specs.Find.{get}
use Rattle.mls_labels.specs.Scheme.{Scheme}
use Rattle.mls_start_text.specs.Each.{having, each_of}
use Rattle.mls_start_text.specs.Looking.{has_member, text_at, bool_at, is_null_at, list_at, texts_at}
use Rattle.mls_start_text.specs.Texts.{SaidSubject, SaidObject, SaidChild, SaidCell, SaidFile}
use Rattle.mls_start_text.specs.Texts.{with_members, cell_of, profile_in, one_where}

-- The text in a member, another where the member isn't there. (own)
abbrev pub text_or : List ℕ → List ℕ → Data → Option (List ℕ)
text_or key other d = if has_member key d then text_at key d else Some other

-- The truth value in a member, another where the member isn't there. (own)
abbrev pub bool_or : List ℕ → Bool → Data → Option Bool
bool_or key other d = if has_member key d then bool_at key d else Some other

-- Whether an object tells no parent: the member isn't there, or null. (own)
abbrev pub is_bare : Data → Bool
is_bare d = if has_member (codes "parent") d then is_null_at (codes "parent") d else true

-- The texts in a member that is a list of texts, none where the member isn't there. (own)
abbrev pub texts_or_none : List ℕ → Data → Option (List (List ℕ))
texts_or_none key d = if has_member key d then texts_at key d else Some []

-- The names of a scheme: `levels`, the lowest first, and `categories`, which may be left out. (own)
abbrev pub short_scheme : Data → Option Scheme
short_scheme d =
    with_members (1 + one_where (codes "categories") d) d (
    having (texts_at (codes "levels") d) (λ levels.
    having (texts_or_none (codes "categories") d) (λ categories.
    Some (record { levels = levels; categories = categories }))))

-- The integrity scheme: one level, `any`, where the member isn't there. (own)
abbrev pub short_integrity : Data → Option Scheme
short_integrity d =
    if has_member (codes "integrity") d
    then having (get (codes "integrity") d) short_scheme
    else Some (record { levels = codes "any" ∷ []; categories = [] })

-- How many members of a subject are there that may be left out. (own)
abbrev pub subject_extras : Data → ℕ
subject_extras d =
    one_where (codes "current") d + one_where (codes "integrity") d + one_where (codes "trusted") d

-- A subject: `name` and `maximum`, and where they are left out `current` is the maximum, `integrity` the least label,
-- and `trusted` false. (own)
abbrev pub short_subject : List ℕ → Data → Option SaidSubject
short_subject least d =
    with_members (2 + subject_extras d) d (
    having (text_at (codes "name") d) (λ name.
    having (text_at (codes "maximum") d) (λ maximum.
    having (text_or (codes "current") maximum d) (λ current.
    having (text_or (codes "integrity") least d) (λ integrity.
    having (bool_or (codes "trusted") false d) (λ trusted.
    Some (record { name = name; maximum = maximum; current = current; integrity = integrity; trusted = trusted })))))))

-- How many members of an object are there that may be left out. (own)
abbrev pub object_extras : Data → ℕ
object_extras d = one_where (codes "parent") d + one_where (codes "integrity") d

-- An object, whatever its parent: `name` and `security`, and `integrity`, the least label where it is left out. (own)
abbrev pub short_object : List ℕ → Data → Option SaidObject
short_object least d =
    with_members (2 + object_extras d) d (
    having (text_at (codes "name") d) (λ name.
    having (text_at (codes "security") d) (λ security.
    having (text_or (codes "integrity") least d) (λ integrity.
    Some (record { name = name; security = security; integrity = integrity })))))

-- The root: an object whose `parent` is left out or null. (own)
abbrev pub short_root : List ℕ → Data → Option SaidObject
short_root least d = if is_bare d then short_object least d else None

-- An object below the root, whose `parent` is the root where it is left out. (own)
abbrev pub short_child : List ℕ → List ℕ → Data → Option SaidChild
short_child least root d =
    having (text_or (codes "parent") root d) (λ parent.
    having (short_object least d) (λ object.
    Some (record { parent = parent; object = object })))

-- The objects: the root, and those below it; there is a root. (own)
abbrev pub short_objects : List ℕ → List Data → Option (SaidObject × List SaidChild)
short_objects least [] = None
short_objects least (first ∷ others) =
    having (short_root least first) (λ root.
    having (each_of (short_child least root.name) others) (λ children.
    Some (root, children)))

-- The cells in a member that is a list, none where the member isn't there. (own)
abbrev pub short_cells : List ℕ → Data → Option (List SaidCell)
short_cells key d =
    if has_member key d then having (list_at key d) (each_of cell_of) else Some []

-- The first of some levels, an empty text where there is none. (own)
abbrev pub lowest : List (List ℕ) → List ℕ
lowest [] = []
lowest (level ∷ levels) = level

-- How many members of a file are there that may be left out. (own)
abbrev pub file_extras : Data → ℕ
file_extras d =
    one_where (codes "integrity") d + one_where (codes "matrix") d + one_where (codes "profile") d
    + one_where (codes "accesses") d

-- A short start file: `security`, `subjects` and `objects`, and `integrity`, `matrix`, `profile` and `accesses`, which
-- may be left out; the least label is the lowest level of integrity. (own)
abbrev pub short_file : Data → Option SaidFile
short_file d =
    with_members (3 + file_extras d) d (
    having (profile_in d) (λ profile.
    having (having (get (codes "security") d) short_scheme) (λ security.
    having (short_integrity d) (λ integrity.
    having (having (list_at (codes "subjects") d) (each_of (short_subject (lowest integrity.levels)))) (λ subjects.
    having (having (list_at (codes "objects") d) (short_objects (lowest integrity.levels))) (λ objects.
    having (short_cells (codes "matrix") d) (λ cells.
    having (short_cells (codes "accesses") d) (λ accesses.
    Some (record {
      profile = profile;
      security = security;
      integrity = integrity;
      subjects = subjects;
      root = objects.0;
      children = objects.1;
      cells = cells;
      accesses = accesses;
    })))))))))
