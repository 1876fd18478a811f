-- How the cells of a matrix, column by column and two a byte, stand for a set of triples.
use Rattle.std.specs.Prelude.{ℕ, zero, suc, ◌+◌, ◌*◌, ◌/◌, ◌%◌, ◌==◌, Bool, cond, List}
use Rattle.std.proofs.Common.{get_or}
use Rattle.std.specs.FinSet as set
use Rattle.mls_tables.specs.declared.mode.Mode.TheVariants.{Execute, Read, Append, Write}
use Rattle.mls_tables.specs.declared.pair.Pair.{Pair}
use Rattle.mls_tables.specs.Mode.{ModeSet}
use Rattle.mls_tables.specs.ModeBits.{modes_of}
use Rattle.mls_tables.specs.Triples.{Triple, TripleSet}

-- Two empty cells. (own)
abbrev pub no_pair : Pair
no_pair = record { bits = 0 }

-- The cell of the odd subject of a pair, the four high bits, or that of the even one, the four low bits. (own)
unfoldable pub half : Pair → Bool → ModeSet
half pair odd = modes_of (cond odd (pair.bits / 16) (pair.bits % 16))

-- Whether a number is odd. (own)
abbrev pub is_odd : ℕ → Bool
is_odd n = n % 2 == 1

-- How many pairs hold a cell for each of n subjects. (own)
abbrev pub width : ℕ → ℕ
width n = (n + 1) / 2

-- The cell of a subject and an object, where each column has the pairs of n subjects. (own)
abbrev pub cell : List Pair → ℕ → ℕ → ℕ → ModeSet
cell cells n s o = half (get_or cells (o * width n + s / 2) no_pair) (is_odd s)

-- The triple, where a test passes, and the triples of a set. (own)
abbrev pub add_if : Bool → Triple → TripleSet → TripleSet
add_if b t ts = cond b (set.insert ts t) ts

-- The triples of one cell, and those of a set. (own)
unfoldable pub with_cell : ModeSet → ℕ → ℕ → TripleSet → TripleSet
with_cell modes s o ts =
    add_if (set.contains modes Write) (s, o, Write)
    (add_if (set.contains modes Append) (s, o, Append)
    (add_if (set.contains modes Read) (s, o, Read) (add_if (set.contains modes Execute) (s, o, Execute) ts)))

-- The triples of the cells of one object for the subjects below a number, and those of a set. (own)
unfoldable pub with_column : (ℕ → ModeSet) → ℕ → ℕ → TripleSet → TripleSet
with_column column o zero ts = ts
with_column column o (suc s) ts = with_cell (column s) s o (with_column column o s ts)

-- The triples of the cells of all objects below a number. (own)
unfoldable pub with_columns : (ℕ → ℕ → ModeSet) → ℕ → ℕ → TripleSet
with_columns at n zero = set.empty
with_columns at n (suc o) = with_column (λ s. at s o) o n (with_columns at n o)

-- The triples of m columns of n cells each. (MTR-2997, the matrix M, as the set of triples whose mode is in the cell)
unfoldable pub triples_of : List Pair → ℕ → ℕ → TripleSet
triples_of cells n m = with_columns (cell cells n) n m
