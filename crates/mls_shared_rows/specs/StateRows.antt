-- The rows of what there is in a state.
use Rattle.std.specs.Prelude.{ℕ, Bool, List, [], ◌∷◌, ◌++◌, codes, Option, Some, None}
use Rattle.std.specs.Fmt.{decimal}
use Rattle.std.specs.FinMap as map
use Rattle.std.specs.FinSet as set
use Rattle.std.specs.List.{flat_map, range_with_len}
use Rattle.json.specs.Token.{Token, boolean, key}
use Rattle.mls_labels.specs.Label.{Label}
use Rattle.mls_lines.specs.Names.{Names}
use Rattle.mls_rows.specs.Members.{access_members, null_member, number_member, object_member, subject_member}
use Rattle.mls_rows.specs.Members.{text_member}
use Rattle.mls_rows.specs.declared.form.Form.{Form}
use Rattle.mls_snapshots.specs.States.{object_parts, profile_number, subject_parts, triple_line}
use Rattle.mls_state.specs.State.{State}
use Rattle.mls_tables.specs.Once.{accesses_at}
use Rattle.mls_tables.specs.Triples.{Triple, TripleSet}
use Rattle.mls_tables.specs.declared.limits.TheConstants.{MAX_SUBJECTS, MAX_OBJECTS}
use Rattle.mls_wording.specs.Wording.{security_text}
use Rattle.mls_shared_rows.specs.Kinds.{kind_bytes}
use Rattle.mls_shared_rows.specs.Requests.{of_integrity, of_parent, of_security}
use Rattle.mls_shared_rows.specs.declared.head_row.HeadRow.{HeadRow}
use Rattle.mls_shared_rows.specs.declared.head_row.HeadRow.TheVariants.{Profile, Next}

-- A member that is true or false. (own)
abbrev pub truth_member : List ℕ → Bool → List Token
truth_member at so = key at ∷ boolean so ∷ []

-- A line with a word and a number. (own)
abbrev pub word_line : List ℕ → ℕ → List ℕ
word_line word n = word ++ decimal n ++ 10 ∷ []

-- The line of what is said of a state as a whole. (own)
abbrev pub head_line : HeadRow → List ℕ
head_line (Profile profile) = word_line (codes "profile ") (profile_number profile)
head_line (Next n) = word_line (codes "next ") n

-- The members of what is said of a state as a whole. (own)
abbrev pub head_members : HeadRow → List Token
head_members (Profile profile) = number_member (codes "profile") (profile_number profile)
head_members (Next n) = number_member (codes "next") n

-- The row of a state's profile, in a form. (own)
abbrev pub profile_bytes : State → Form → List ℕ
profile_bytes v form =
    kind_bytes form (codes "profile") (head_line (Profile v.profile)) (head_members (Profile v.profile))

-- The row of the number that the next object will have, in a form. (own)
abbrev pub next_bytes : State → Form → List ℕ
next_bytes v form = kind_bytes form (codes "next") (head_line (Next v.next)) (head_members (Next v.next))

-- The rows of a state's profile and of the number that the next object will have, in a form. (own)
abbrev pub heads_bytes : Form → State → List ℕ
heads_bytes form v = profile_bytes v form ++ next_bytes v form

-- The maximum label of a subject. (own)
abbrev pub maximum_member : Names → Label → List Token
maximum_member names l = text_member (codes "maximum") (security_text names l)

-- The current label of a subject. (own)
abbrev pub current_member : Names → Label → List Token
current_member names l = text_member (codes "current") (security_text names l)

-- The three labels of a subject. (own)
abbrev pub label_members : Names → Label → Label → Label → List Token
label_members names maximum current integrity =
    maximum_member names maximum ++ current_member names current ++ of_integrity names integrity

-- The members of a subject: its labels, and whether it is trusted. (own)
abbrev pub subject_members : Names → ℕ → Label → Label → Label → Bool → List Token
subject_members names s maximum current integrity trusted =
    subject_member (codes "subject") (codes "subject_name") names s ++ label_members names maximum current integrity
    ++ truth_member (codes "trusted") trusted

-- The row of a subject that has these labels, in a form; none where it hasn't all three. (own)
abbrev pub subject_row : Form → Names → ℕ → Option Label → Option Label → Option Label → Bool → List ℕ
subject_row form names s (Some maximum) (Some current) (Some integrity) trusted =
    kind_bytes form (codes "subject") (subject_parts names s (Some maximum) (Some current) (Some integrity) trusted)
    (subject_members names s maximum current integrity trusted)
subject_row form names s (Some maximum) (Some current) None trusted = []
subject_row form names s (Some maximum) None integrity trusted = []
subject_row form names s None current integrity trusted = []

-- The row of a subject, in a form; none where it isn't known. (own)
abbrev pub subject_bytes : Form → Names → State → ℕ → List ℕ
subject_bytes form names v s =
    subject_row form names s (map.get v.maximum s) (map.get v.current s) (map.get v.subject_integrity s)
    (set.contains v.trusted s)

-- The parent of an object; null of the root, which has none. (own)
abbrev pub parent_member : Names → Option ℕ → List Token
parent_member names None = null_member (codes "parent")
parent_member names (Some p) = of_parent names p

-- The members of an object: its labels and its parent. (own)
abbrev pub object_members : Names → ℕ → Label → Label → Option ℕ → List Token
object_members names o security integrity parent =
    object_member (codes "object") (codes "object_name") names o ++ of_security names security
    ++ of_integrity names integrity ++ parent_member names parent

-- The row of an object that has these labels and this parent, in a form; none where it hasn't both labels. (own)
abbrev pub object_row : Form → Names → ℕ → Option Label → Option Label → Option ℕ → List ℕ
object_row form names o (Some security) (Some integrity) parent =
    kind_bytes form (codes "object") (object_parts names o (Some security) (Some integrity) parent)
    (object_members names o security integrity parent)
object_row form names o (Some security) None parent = []
object_row form names o None integrity parent = []

-- The row of an object, in a form; none where it isn't active. (own)
abbrev pub object_bytes : Form → Names → State → ℕ → List ℕ
object_bytes form names v o =
    object_row form names o (map.get v.object_label o) (map.get v.object_integrity o) (map.get v.parent o)

-- The row of a triple of the table of this word, in a form. (own)
abbrev pub triple_bytes : Form → List ℕ → Names → Triple → List ℕ
triple_bytes form word names t = kind_bytes form word (triple_line word names t) (access_members names t)

-- The rows of a subject's and an object's triples, in the order of modes. (own)
abbrev pub cell_bytes : Form → List ℕ → Names → TripleSet → ℕ → ℕ → List ℕ
cell_bytes form word names b s o = flat_map (triple_bytes form word names) (accesses_at b s o)

-- The rows of the subjects below a number. (own)
unfoldable pub subjects_bytes : Form → Names → State → ℕ → List ℕ
subjects_bytes form names v n = flat_map (subject_bytes form names v) (range_with_len 0 n)

-- The rows of the objects below a number. (own)
unfoldable pub objects_bytes : Form → Names → State → ℕ → List ℕ
objects_bytes form names v n = flat_map (object_bytes form names v) (range_with_len 0 n)

-- The rows of a subject's triples with the objects below a number. (own)
unfoldable pub cells_bytes : Form → List ℕ → Names → TripleSet → ℕ → ℕ → List ℕ
cells_bytes form word names b s n = flat_map (cell_bytes form word names b s) (range_with_len 0 n)

-- The rows of the triples of the subjects below a number, by subject, then by object, then by mode. (own)
unfoldable pub table_bytes : Form → List ℕ → Names → TripleSet → ℕ → List ℕ
table_bytes form word names b n = flat_map (λ s. cells_bytes form word names b s MAX_OBJECTS) (range_with_len 0 n)

-- The rows of what there is in a state: the profile and the next number, the subjects and the active objects by number,
-- what the matrix permits, and what is accessed. (own)
abbrev pub things_bytes : Form → Names → State → List ℕ
things_bytes form names v =
    heads_bytes form v ++ subjects_bytes form names v MAX_SUBJECTS ++ objects_bytes form names v MAX_OBJECTS
    ++ table_bytes form (codes "permit") names v.matrix MAX_SUBJECTS
    ++ table_bytes form (codes "access") names v.accesses MAX_SUBJECTS
