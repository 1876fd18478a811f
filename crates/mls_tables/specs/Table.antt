-- Tables of triples: the value of the access matrix and of the current accesses.
use Rattle.std.specs.Prelude.{ℕ, ◌<◌, ◌==◌, not, IsTrue, List, refl}
use Rattle.std.specs.List.{list_any}
use Rattle.std.specs.FinSet as set
use Rattle.std.specs.Coded.{Coded, code_by, coded×, coded_ℕ}
use Rattle.mls_tables.specs.Triples.{Triple, TripleSet, triple_set_code}

-- A table: how many subjects it has rows for, how many object numbers it has columns for, and the set of triples in its
-- cells. (MTR-2997 has the access matrix and the set of current accesses as such sets; the two counts are own)
pub record Table : Type 0 where
  pub subjects : ℕ
  pub columns : ℕ
  pub triples : TripleSet

-- Each triple of the set names a subject below one number and an object below another. (own)
abbrev pub IsWithin : ℕ → ℕ → TripleSet → Type 0
IsWithin subjects columns triples = (t : Triple) → IsTrue (set.contains triples t) → (t.0 < subjects) × (t.1 < columns)

-- The triples that are not of an object. (own)
abbrev pub without_object : TripleSet → ℕ → TripleSet
without_object triples o = set.retain triples (λ t. not (t.1 == o))

-- The triples that are of no object of a group. (own)
abbrev pub without_objects : TripleSet → List ℕ → TripleSet
without_objects triples group = set.retain triples (λ t. not (list_any (λ o. o == t.1) group))

-- A table just made: it has rows for some subjects, no column and no triple. (own)
abbrev pub empty_table : ℕ → Table
empty_table subjects = record { subjects = subjects; columns = 0; triples = set.empty }

-- A table is stored as the tuple of its parts. (own)
abbrev pub table_code : Coded Table
table_code =
    code_by (ℕ × (ℕ × TripleSet)) (coded× coded_ℕ (coded× coded_ℕ triple_set_code))
    (λ t. (t.subjects, (t.columns, t.triples))) (λ p. record { subjects = p.0; columns = p.1.0; triples = p.1.1 })
    (λ _. refl)
