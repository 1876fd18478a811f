-- What one of two starts alone has: permissions and accesses of what both have, and names.
use Rattle.std.specs.Prelude.{ℕ, Option, Some, None, List, [], ◌∷◌, ◌++◌, slice_get}
use Rattle.std.specs.FinSet as set
use Rattle.std.specs.List.{flat_map, range_with_len}
use Rattle.mls_labels.specs.declared.limits.TheConstants.{MAX_CATEGORIES, MAX_LEVELS}
use Rattle.mls_tables.specs.declared.limits.TheConstants.{MAX_OBJECTS, MAX_SUBJECTS}
use Rattle.mls_tables.specs.declared.mode.Mode.{Mode}
use Rattle.mls_tables.specs.declared.mode.Mode.TheVariants.{Execute, Read, Append, Write}
use Rattle.mls_state.specs.State.{State}
use Rattle.mls_state.specs.Tables.{triples_of}
use Rattle.mls_state.specs.declared.table.Table.{Table}
use Rattle.mls_state.specs.declared.table.Table.TheVariants.{Matrix, Accesses}
use Rattle.mls_lines.specs.Names.{Names}
use Rattle.mls_differences.specs.Counterparts.{is_among}
use Rattle.mls_differences.specs.Sides.{alone, categories_of, levels_of, row_unless}
use Rattle.mls_differences.specs.declared.shared.Shared.{Shared}
use Rattle.mls_differences.specs.declared.side.Area.TheVariants.{Security, Integrity}
use Rattle.mls_differences.specs.declared.side.Side.{Side}
use Rattle.mls_differences.specs.declared.side.Side.TheVariants.{First, Second}
use Rattle.mls_differences.specs.declared.single.Kind.{Kind}
use Rattle.mls_differences.specs.declared.single.Kind.TheVariants.{Level, Category, Subject, Object}
use Rattle.mls_differences.specs.declared.single.Single.{Single}
use Rattle.mls_differences.specs.declared.single.Single.TheVariants.{Triple, Name}

-- The row of a triple of a table that a start alone has, where one has it alone; the numbers are the first start's.
-- (own)
abbrev pub triple_rows : Table → ℕ → ℕ → Mode → Option Side → List Single
triple_rows table s o x None = []
triple_rows table s o x (Some side) = Triple table side s o x ∷ []

-- The row of a mode of a subject and an object that two starts share, where the table of one state alone has it. (own)
abbrev pub mode_rows : Table → State → State → Shared → Shared → Mode → List Single
mode_rows table v w s o x =
    triple_rows table s.first o.first x
    (alone (set.contains (triples_of table v) (s.first, o.first, x))
    (set.contains (triples_of table w) (s.second, o.second, x)))

-- The rows of the modes of a subject and an object, in their order. (own)
abbrev pub modes_rows : Table → State → State → Shared → Shared → List Single
modes_rows table v w s o =
    mode_rows table v w s o Execute ++ mode_rows table v w s o Read ++ mode_rows table v w s o Append
    ++ mode_rows table v w s o Write

-- The rows of a table: by subject, object and mode. (own)
abbrev pub table_rows : Table → State → State → List Shared → List Shared → List Single
table_rows table v w subjects objects = flat_map (λ s. flat_map (modes_rows table v w s) objects) subjects

-- The rows of the permissions, then of the accesses, that one of two starts alone has. (own)
abbrev pub tables_rows : State → State → List Shared → List Shared → List Single
tables_rows v w subjects objects = table_rows Matrix v w subjects objects ++ table_rows Accesses v w subjects objects

-- The names of a kind. (own)
abbrev pub names_in : Names → Kind → List (List ℕ)
names_in names (Level of) = levels_of names of
names_in names (Category of) = categories_of names of
names_in names Subject = names.subjects
names_in names Object = names.objects

-- No start has more names of a kind. (own)
abbrev pub count_of : Kind → ℕ
count_of (Level of) = MAX_LEVELS
count_of (Category of) = MAX_CATEGORIES
count_of Subject = MAX_SUBJECTS
count_of Object = MAX_OBJECTS

-- The row of a number, where it has a name that is none of the other start's. (own)
abbrev pub name_rows : Side → Kind → List (List ℕ) → ℕ → Option (List ℕ) → List Single
name_rows side kind others n None = []
name_rows side kind others n (Some name) = row_unless (is_among others name) (Name side kind n)

-- The rows of the numbers below a count whose names are none of the other start's. (own)
unfoldable pub names_rows : Side → Kind → List (List ℕ) → List (List ℕ) → ℕ → List Single
names_rows side kind names others count =
    flat_map (λ n. name_rows side kind others n (slice_get names n)) (range_with_len 0 count)

-- The rows of the names of a kind that one of two starts alone has, the first start's first. (own)
abbrev pub kind_rows : Names → Names → Kind → List Single
kind_rows a b kind =
    names_rows First kind (names_in a kind) (names_in b kind) (count_of kind)
    ++ names_rows Second kind (names_in b kind) (names_in a kind) (count_of kind)

-- The rows of the names that one of two starts alone has: levels and categories, subjects, objects. (own)
abbrev pub only_rows : Names → Names → List Single
only_rows a b =
    kind_rows a b (Level Security) ++ kind_rows a b (Category Security) ++ kind_rows a b (Level Integrity)
    ++ kind_rows a b (Category Integrity) ++ kind_rows a b Subject ++ kind_rows a b Object

-- The rows of all that one of two starts alone has: permissions, accesses, names. (own)
abbrev pub singles : Names → Names → State → State → List Shared → List Shared → List Single
singles a b v w subjects objects = tables_rows v w subjects objects ++ only_rows a b
