-- The lines and the members of what one of two starts alone has.
use Rattle.std.specs.Prelude.{ℕ, Option, Some, None, List, [], ◌∷◌, ◌++◌, codes}
use Rattle.json.specs.Token.{Token}
use Rattle.mls_labels.specs.LabelText.{name_at}
use Rattle.mls_tables.specs.declared.mode.Mode.{Mode}
use Rattle.mls_requests.specs.ModeWords.{mode_word}
use Rattle.mls_state.specs.declared.table.Table.{Table}
use Rattle.mls_state.specs.declared.table.Table.TheVariants.{Matrix, Accesses}
use Rattle.mls_lines.specs.Names.{Names}
use Rattle.mls_rows.specs.Members.{access_members, text_member}
use Rattle.mls_rows.specs.Rows.{row_bytes}
use Rattle.mls_rows.specs.declared.form.Form.{Form}
use Rattle.mls_wording.specs.Wording.{subject_text, object_text}
use Rattle.mls_differences.specs.Sides.{area_word, on_side, side_word}
use Rattle.mls_differences.specs.Singles.{names_in}
use Rattle.mls_differences.specs.Things.{difference_member}
use Rattle.mls_differences.specs.declared.side.Area.{Area}
use Rattle.mls_differences.specs.declared.side.Side.{Side}
use Rattle.mls_differences.specs.declared.single.Kind.{Kind}
use Rattle.mls_differences.specs.declared.single.Kind.TheVariants.{Level, Category, Subject, Object}
use Rattle.mls_differences.specs.declared.single.Single.{Single}
use Rattle.mls_differences.specs.declared.single.Single.TheVariants.{Triple, Name}

-- What is written of a subject, a mode and an object. (own)
abbrev pub get_text : Names → ℕ → ℕ → Mode → List ℕ
get_text names s o x = subject_text names s ++ 32 ∷ mode_word x ++ 32 ∷ object_text names o

-- The word for a table. (own)
abbrev pub table_word : Table → List ℕ
table_word Matrix = codes "permit"
table_word Accesses = codes "access"

-- The line of a triple of a table that a file alone has. (own)
abbrev pub triple_line : Table → Names → ℕ → ℕ → Mode → List ℕ → List ℕ
triple_line table names s o x file =
    table_word table ++ 32 ∷ get_text names s o x ++ codes ": only in " ++ file ++ 10 ∷ []

-- The word for a kind of name. (own)
abbrev pub kind_word : Kind → List ℕ
kind_word (Level of) = codes "level"
kind_word (Category of) = codes "category"
kind_word Subject = codes "subject"
kind_word Object = codes "object"

-- The scheme that a name is one of, where it is one of a scheme. (own)
abbrev pub area_of : Kind → Option Area
area_of (Level of) = Some of
area_of (Category of) = Some of
area_of Subject = None
area_of Object = None

-- The word of a scheme, and a space; nothing where there is none. (own)
abbrev pub area_text : Option Area → List ℕ
area_text None = []
area_text (Some of) = area_word of ++ 32 ∷ []

-- The line of a name of a kind that a file alone has. (own)
abbrev pub only_line : List ℕ → Kind → List ℕ → List ℕ
only_line file kind name =
    codes "only in " ++ file ++ codes ": " ++ area_text (area_of kind) ++ kind_word kind ++ 32 ∷ name ++ 10 ∷ []

-- The line of a row, by the words for both files and by the names of both starts. (own)
abbrev pub single_line : List ℕ → List ℕ → Names → Names → Single → List ℕ
single_line file other a b (Triple table side s o x) = triple_line table a s o x (on_side file other side)
single_line file other a b (Name side kind n) =
    only_line (on_side file other side) kind (name_at (names_in (on_side a b side) kind) n)

-- The word for what one start alone has. (own)
abbrev pub single_word : Single → List ℕ
single_word (Triple table side s o x) = table_word table
single_word (Name side kind n) = codes "name"

-- Which start has it. (own)
abbrev pub side_member : Side → List Token
side_member side = text_member (codes "only_in") (side_word side)

-- The scheme that a name is one of, where it is one of a scheme. (own)
abbrev pub area_members : Option Area → List Token
area_members None = []
area_members (Some of) = text_member (codes "scheme") (area_word of)

-- A name and its kind. (own)
abbrev pub name_members : Kind → List ℕ → List Token
name_members kind name =
    area_members (area_of kind) ++ text_member (codes "kind") (kind_word kind) ++ text_member (codes "name") name

-- The members of a row behind the word of what differs. (own)
abbrev pub alone_members : Names → Names → Single → List Token
alone_members a b (Triple table side s o x) = access_members a (s, o, x) ++ side_member side
alone_members a b (Name side kind n) =
    side_member side ++ name_members kind (name_at (names_in (on_side a b side) kind) n)

-- The members of a row, by the names of both starts. (own)
abbrev pub single_members : Names → Names → Single → List Token
single_members a b row = difference_member (single_word row) ++ alone_members a b row

-- A row in a form: its line, or its object in a line. (own)
abbrev pub single_bytes : Form → List ℕ → List ℕ → Names → Names → Single → List ℕ
single_bytes form file other a b row =
    row_bytes form (single_line file other a b row) (single_members a b row)
