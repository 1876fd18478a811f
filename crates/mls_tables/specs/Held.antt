-- Who accesses what, in whatever mode, and how two tables of lists tell it.
use Rattle.std.specs.Prelude.{◌≡◌, ℕ, ◌<◌, ◌≤◌, ◌&&◌, ◌||◌, Bool, not, IsTrue, List, length}
use Rattle.std.specs.FinSet as set
use Rattle.mls_tables.specs.declared.limits.TheConstants.{MAX_SUBJECTS, MAX_OBJECTS}
use Rattle.mls_tables.specs.declared.mode.Mode.TheVariants.{Execute, Read, Append, Write}
use Rattle.mls_tables.specs.Triples.{Triple, TripleSet}
use Rattle.mls_tables.specs.Table.{Table}
use Rattle.mls_tables.specs.Rows.{listed, IsRows}

-- Whether a subject accesses an object, in whatever mode. (own)
abbrev pub is_held : TripleSet → ℕ → ℕ → Bool
is_held b s o = set.contains b (s, o, Execute)
    || (set.contains b (s, o, Read) || (set.contains b (s, o, Append) || set.contains b (s, o, Write)))

-- The objects that a subject accesses: ascending, each once. (own)
unfoldable pub objects_of : TripleSet → ℕ → List ℕ
objects_of b s = listed (is_held b s) MAX_OBJECTS

-- The subjects that access an object: ascending, each once. (own)
unfoldable pub subjects_of : TripleSet → ℕ → List ℕ
subjects_of b o = listed (λ s. is_held b s o) MAX_SUBJECTS

-- Whether each access of a subject to an object passes a test, mode by mode. (own)
abbrev pub each_mode : TripleSet → ℕ → ℕ → (Triple → Bool) → Bool
each_mode b s o passes =
    (not (set.contains b (s, o, Execute)) || passes (s, o, Execute))
    && ((not (set.contains b (s, o, Read)) || passes (s, o, Read))
    && ((not (set.contains b (s, o, Append)) || passes (s, o, Append))
    && (not (set.contains b (s, o, Write)) || passes (s, o, Write))))

-- Lists of objects and lists of subjects tell which subjects are related to which objects; none is beyond the bounds.
-- (own)
pub record Indexes (p : ℕ → ℕ → Bool) (objects subjects : List (List ℕ)) : Type 0 where
  pub within : (s o : ℕ) → IsTrue (p s o) → (s < MAX_SUBJECTS) × (o < MAX_OBJECTS)
  pub rows : IsRows p MAX_OBJECTS objects
  pub columns : IsRows (λ o s. p s o) MAX_SUBJECTS subjects

-- Pairs are taken out of both: whatever relation they told, they tell it less those. (own)
pub record Unlisted (gone : ℕ → ℕ → Bool) (objects subjects objects' subjects' : List (List ℕ)) : Type 0 where
  pub told : (p : ℕ → ℕ → Bool) → Indexes p objects subjects
      → Indexes (λ a b. p a b && not (gone a b)) objects' subjects'

-- There is a list for each row and each column of a table, and the lists tell who accesses what. There may be more
-- lists of subjects, which are empty. (own)
pub record IsIndexed (t : Table) (objects subjects : List (List ℕ)) : Type 0 where
  pub rows : length objects ≡ t.subjects
  pub columns : t.columns ≤ length subjects
  pub few_rows : t.subjects ≤ MAX_SUBJECTS
  pub few_columns : t.columns ≤ MAX_OBJECTS
  pub held : Indexes (is_held t.triples) objects subjects
