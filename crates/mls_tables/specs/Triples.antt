-- Sets of triples of a subject, an object and a mode.
use Rattle.std.specs.Prelude.{ℕ, Bool, ◌&&◌, ◌==◌, refl}
use Rattle.std.specs.Ordering.{nat_cmp, ordering_then}
use Rattle.std.specs.declared.cmp.Ordering.{Ordering}
use Rattle.std.specs.FinSet.{FinSet}
use Rattle.std.specs.FinSet as set
use Rattle.std.specs.Coded.{Coded, code_by, coded×, coded_ℕ}
use Rattle.mls_tables.specs.declared.mode.Mode.{Mode}
use Rattle.mls_tables.specs.contracts.mode.Mode as mode
use Rattle.mls_tables.specs.Mode.{mode_number}

-- A triple: a subject, an object and a mode. (MTR-2997, the elements of b)
abbrev pub Triple : Type 0
Triple = ℕ × ℕ × Mode

-- Triples in order, by subject, then by object, then by mode. (own)
abbrev pub triple_cmp : Triple → Triple → Ordering
triple_cmp a b =
    ordering_then (nat_cmp a.0 b.0) (ordering_then (nat_cmp a.1 b.1) (nat_cmp (mode_number a.2) (mode_number b.2)))

-- A finite set of triples. (MTR-2997, b)
abbrev pub TripleSet : Type 0
TripleSet = FinSet triple_cmp

-- A set of triples is stored as the list of its triples. (own)
abbrev pub triple_set_code : Coded TripleSet
triple_set_code =
    set.code (code_by (ℕ × (ℕ × Mode)) (coded× coded_ℕ (coded× coded_ℕ mode.the_row.coded)) (λ t. (t.0, (t.1, t.2)))
    (λ p. (p.0, p.1.0, p.1.1)) (λ _. refl))

-- Whether two triples are one. (own)
abbrev pub is_triple : Triple → Triple → Bool
is_triple t u = t.0 == u.0 && (t.1 == u.1 && mode_number t.2 == mode_number u.2)
