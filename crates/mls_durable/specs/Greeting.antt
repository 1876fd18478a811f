-- What a service tells before it attends to a client.
use Rattle.std.specs.Prelude.{ℕ, Bool, true, false, if◌then◌else◌, List, [], ◌∷◌, ◌++◌, codes, length, slice_get}
use Rattle.std.specs.Prelude.{Option, Some, None}
use Rattle.std.specs.FinSet as set
use Rattle.std.specs.Fmt.{decimal}
use Rattle.std.specs.List.{flat_map, range_with_len}
use Rattle.mls_tables.specs.Triples.{Triple, TripleSet}
use Rattle.mls_tables.specs.declared.limits.TheConstants.{MAX_SUBJECTS, MAX_OBJECTS}
use Rattle.mls_tables.specs.declared.mode.Mode.TheVariants.{Execute, Read, Append, Write}
use Rattle.mls_requests.specs.ModeWords.{mode_word}
use Rattle.mls_requests.specs.declared.entry.Entry.{Entry}
use Rattle.mls_state.specs.State.{State}
use Rattle.mls_monitor.specs.Journal.{fold}
use Rattle.mls_lines.specs.Names.{Names}

-- The line of a number's name, where it has one: a word, the number and the name. (own)
abbrev pub named_line : List ℕ → ℕ → Option (List ℕ) → List ℕ
named_line word n None = []
named_line word n (Some name) = word ++ decimal n ++ 32 ∷ name ++ 10 ∷ []

-- The line of a subject, where the start has one of this number. (own)
abbrev pub subject_line : Names → ℕ → List ℕ
subject_line names s = named_line (codes "subject ") s (slice_get names.subjects s)

-- The line of an object, where the start has one of this number. (own)
abbrev pub object_line : Names → ℕ → List ℕ
object_line names o = named_line (codes "object ") o (slice_get names.objects o)

-- The lines of the subjects below a number. (own)
unfoldable pub subjects_text : Names → ℕ → List ℕ
subjects_text names n = flat_map (subject_line names) (range_with_len 0 n)

-- The lines of the objects below a number. (own)
unfoldable pub objects_text : Names → ℕ → List ℕ
objects_text names n = flat_map (object_line names) (range_with_len 0 n)

-- What stands behind an access that the start opens with. (own)
abbrev pub opening_word : Bool → List ℕ
opening_word true = codes " start"
opening_word false = []

-- The line of an access that is held, by whether the start opens with it; nothing of one that isn't held. (own)
abbrev pub access_line : Bool → Bool → Triple → List ℕ
access_line held opens t =
    if held
    then codes "access " ++ decimal t.0 ++ 32 ∷ mode_word t.2 ++ 32 ∷ decimal t.1 ++ opening_word opens ++ 10 ∷ []
    else []

-- The same of one of the accesses that are held and of those that the start opens with. (own)
abbrev pub held_line : TripleSet → TripleSet → Triple → List ℕ
held_line held first t = access_line (set.contains held t) (set.contains first t) t

-- The lines of a subject's accesses to an object, in the order of modes. (own)
abbrev pub cell_text : TripleSet → TripleSet → ℕ → ℕ → List ℕ
cell_text held first s o =
    held_line held first (s, o, Execute) ++ held_line held first (s, o, Read) ++ held_line held first (s, o, Append)
    ++ held_line held first (s, o, Write)

-- The lines of a subject's accesses to the objects below a number. (own)
unfoldable pub row_text : TripleSet → TripleSet → ℕ → ℕ → List ℕ
row_text held first s n = flat_map (cell_text held first s) (range_with_len 0 n)

-- The lines of the accesses of the subjects below a number, by subject, then by object, then by mode. (own)
unfoldable pub accesses_text : TripleSet → TripleSet → ℕ → List ℕ
accesses_text held first n = flat_map (λ s. row_text held first s MAX_OBJECTS) (range_with_len 0 n)

-- The names of the start's subjects and objects, by number, and the accesses that are held. (own)
abbrev pub names_text : Names → TripleSet → TripleSet → List ℕ
names_text names held first =
    subjects_text names MAX_SUBJECTS ++ objects_text names MAX_OBJECTS ++ accesses_text held first MAX_SUBJECTS

-- The line that tells the number of the next entry. (own)
abbrev pub ready_line : ℕ → List ℕ
ready_line next = codes "ready " ++ decimal next ++ 10 ∷ []

-- What a service tells before it attends to a client: the names and the accesses, where they are wanted, and the number
-- of the next entry. (own)
unfoldable pub greeting : Names → Bool → State → List Entry → List ℕ
greeting names wanted start entries =
    (if wanted then names_text names (fold start entries).accesses start.accesses else [])
    ++ ready_line (length entries)
