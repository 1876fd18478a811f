-- What is written of trees one after the other.
use Rattle.std.specs.Prelude.{◌≡◌, List, [], ◌∷◌, ◌++◌, refl}
use Rattle.std.specs.List.{flat_map}
use Rattle.std.proofs.Common.{sym}
use Rattle.std.proofs.lemmas.List.{append-nil}
use Rattle.mls_markup.specs.Trees.{Forest, written_of, joined, all_of}

-- of two, one behind the other
pub written_joined : (f : Forest) (rest : List Forest) → written_of (joined (f ∷ rest)) ≡ written_of f ++ written_of (joined rest)
written_joined f [] = sym (append-nil (written_of f))
written_joined f (g ∷ rest) = refl

-- of rows, row by row
pub written_all : {Row : Type 0} (shown : Row → Forest) (rows : List Row) → written_of (all_of shown rows) ≡ flat_map (λ row. written_of (shown row)) rows
written_all shown [] = refl
written_all shown (row ∷ rows) = rw (written_all shown rows) refl
