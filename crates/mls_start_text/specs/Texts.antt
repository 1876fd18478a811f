-- What a start file has in its members, all of it as text: the form of the file, before it is asked what the texts
-- name.
use Rattle.std.specs.Prelude.{ℕ, Bool, List, [], ◌∷◌, codes, map, ◌==◌, ◌+◌, if◌then◌else◌, Option, Some, None}
use Rattle.serde_json.specs.Data.{Data}
use Rattle.serde_json.specs.Find.{get}
use Rattle.mls_labels.specs.Scheme.{Scheme}
use Rattle.mls_tree.specs.declared.profile.Profile.{Profile}
use Rattle.mls_tree.specs.declared.profile.Profile.TheVariants.{One, Two}
use Rattle.mls_start_text.specs.Each.{having, each_of}
use Rattle.mls_start_text.specs.Looking.{member_count, has_member, text_at, bool_at, number_at, is_null_at}
use Rattle.mls_start_text.specs.Looking.{list_at, texts_at}

-- A subject: its name, its labels, and whether it is trusted. (own)
pub record SaidSubject : Type 0 where
  pub name : List ℕ
  pub maximum : List ℕ
  pub current : List ℕ
  pub integrity : List ℕ
  pub trusted : Bool

-- An object, but for its parent: its name and its labels. (own)
pub record SaidObject : Type 0 where
  pub name : List ℕ
  pub security : List ℕ
  pub integrity : List ℕ

-- An object below the root, and its parent's name. (own)
pub record SaidChild : Type 0 where
  pub parent : List ℕ
  pub object : SaidObject

-- A cell of the matrix or of the accesses: the names of a subject and an object, and words for modes. (own)
pub record SaidCell : Type 0 where
  pub subject : List ℕ
  pub object : List ℕ
  pub modes : List (List ℕ)

-- A start file: the profile, the schemes, the subjects, the root, the objects below it, the cells of the matrix, and
-- the current accesses in the form of cells, each list in the file's order. (own)
pub record SaidFile : Type 0 where
  pub profile : Profile
  pub security : Scheme
  pub integrity : Scheme
  pub subjects : List SaidSubject
  pub root : SaidObject
  pub children : List SaidChild
  pub cells : List SaidCell
  pub accesses : List SaidCell

-- What is found in an object, where it has as many members as are to be there: each key stands in it once, so that with
-- those that are found it has no others. (own)
abbrev pub with_members : {X : Type 0} → ℕ → Data → Option X → Option X
with_members n d found = if member_count d == n then found else None

-- The names of a scheme: `levels`, the lowest first, and `categories`, lists of texts. (own)
abbrev pub scheme_of : Data → Option Scheme
scheme_of d =
    with_members 2 d (
    having (texts_at (codes "levels") d) (λ levels.
    having (texts_at (codes "categories") d) (λ categories.
    Some (record { levels = levels; categories = categories }))))

-- A subject: `name`, `maximum`, `current` and `integrity`, texts, and `trusted`, true or false. (own)
abbrev pub subject_of : Data → Option SaidSubject
subject_of d =
    with_members 5 d (
    having (text_at (codes "name") d) (λ name.
    having (text_at (codes "maximum") d) (λ maximum.
    having (text_at (codes "current") d) (λ current.
    having (text_at (codes "integrity") d) (λ integrity.
    having (bool_at (codes "trusted") d) (λ trusted.
    Some (record { name = name; maximum = maximum; current = current; integrity = integrity; trusted = trusted })))))))

-- An object, whatever its parent: `name`, `security` and `integrity`, texts, and one member more. (own)
abbrev pub object_of : Data → Option SaidObject
object_of d =
    with_members 4 d (
    having (text_at (codes "name") d) (λ name.
    having (text_at (codes "security") d) (λ security.
    having (text_at (codes "integrity") d) (λ integrity.
    Some (record { name = name; security = security; integrity = integrity })))))

-- The root: an object whose `parent` is null. (own)
abbrev pub root_of : Data → Option SaidObject
root_of d = if is_null_at (codes "parent") d then object_of d else None

-- An object below the root: its `parent` is a text. (own)
abbrev pub child_of : Data → Option SaidChild
child_of d =
    having (text_at (codes "parent") d) (λ parent.
    having (object_of d) (λ object.
    Some (record { parent = parent; object = object })))

-- A cell: `subject` and `object`, texts, and `modes`, a list of texts. (own)
abbrev pub cell_of : Data → Option SaidCell
cell_of d =
    with_members 3 d (
    having (text_at (codes "subject") d) (λ subject.
    having (text_at (codes "object") d) (λ object.
    having (texts_at (codes "modes") d) (λ modes.
    Some (record { subject = subject; object = object; modes = modes })))))

-- The objects: the root, and those below it; there is a root. (own)
abbrev pub objects_of : List Data → Option (SaidObject × List SaidChild)
objects_of [] = None
objects_of (first ∷ others) =
    having (root_of first) (λ root.
    having (each_of child_of others) (λ children.
    Some (root, children)))

-- The scheme in a member of a start file. (own)
abbrev pub scheme_in : List ℕ → Data → Option Scheme
scheme_in key d = having (get key d) scheme_of

-- The subjects: `subjects`, a list. (own)
abbrev pub subjects_in : Data → Option (List SaidSubject)
subjects_in d = having (list_at (codes "subjects") d) (each_of subject_of)

-- The root, and the objects below it: `objects`, a list. (own)
abbrev pub objects_in : Data → Option (SaidObject × List SaidChild)
objects_in d = having (list_at (codes "objects") d) objects_of

-- The cells in a member that is a list. (own)
abbrev pub cells_in : List ℕ → Data → Option (List SaidCell)
cells_in key d = having (list_at key d) (each_of cell_of)

-- The current accesses: `accesses`, a list of cells; none where the member isn't there. (own)
abbrev pub accesses_in : Data → Option (List SaidCell)
accesses_in d = if has_member (codes "accesses") d then cells_in (codes "accesses") d else Some []

-- The profile of a number, 1 or 2. (own)
abbrev pub numbered_profile : ℕ → Option Profile
numbered_profile n = if n == 1 then Some One else if n == 2 then Some Two else None

-- The profile: `profile`, the whole number 1 or 2; profile 1 where the member isn't there. (own)
abbrev pub profile_in : Data → Option Profile
profile_in d =
    if has_member (codes "profile") d then having (number_at (codes "profile") d) numbered_profile else Some One

-- One for a member that is there. (own)
abbrev pub one_where : List ℕ → Data → ℕ
one_where key d = if has_member key d then 1 else 0

-- How many of the members are there that may be left out. (own)
abbrev pub extra_count : Data → ℕ
extra_count d = one_where (codes "profile") d + one_where (codes "accesses") d

-- A start file: `security` and `integrity`, `subjects`, `objects` and `matrix`, and `profile` and `accesses`, which may
-- be left out. (own)
abbrev pub file_of : Data → Option SaidFile
file_of d =
    with_members (5 + extra_count d) d (
    having (profile_in d) (λ profile.
    having (scheme_in (codes "security") d) (λ security.
    having (scheme_in (codes "integrity") d) (λ integrity.
    having (subjects_in d) (λ subjects.
    having (objects_in d) (λ objects.
    having (cells_in (codes "matrix") d) (λ cells.
    having (accesses_in d) (λ accesses.
    Some (record {
      profile = profile;
      security = security;
      integrity = integrity;
      subjects = subjects;
      root = objects.0;
      children = objects.1;
      cells = cells;
      accesses = accesses;
    })))))))))

-- The names of the subjects, in the order of their numbers. (own)
abbrev pub subject_names : SaidFile → List (List ℕ)
subject_names file = map (λ s. s.name) file.subjects

-- The names of the objects, in the order of their numbers: the root is the first. (own)
abbrev pub object_names : SaidFile → List (List ℕ)
object_names file = file.root.name ∷ map (λ c. c.object.name) file.children
