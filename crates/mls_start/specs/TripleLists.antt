-- The triples of a table, one after the other.
use Rattle.std.specs.Prelude.{ℕ, List}
use Rattle.std.specs.List.{flat_map, range_with_len}
use Rattle.mls_tables.specs.Once.{accesses_at}
use Rattle.mls_tables.specs.Triples.{Triple, TripleSet}

-- The triples of a subject with the objects below a number. (own)
unfoldable pub row_below : TripleSet → ℕ → ℕ → List Triple
row_below b s n = flat_map (λ o. accesses_at b s o) (range_with_len 0 n)

-- The triples of the subjects below a number, with the objects below another. (own)
unfoldable pub rows_below : TripleSet → ℕ → ℕ → List Triple
rows_below b n m = flat_map (λ s. row_below b s m) (range_with_len 0 n)
