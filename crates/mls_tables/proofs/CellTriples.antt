-- Which triples the cells of a matrix stand for.
use Rattle.std.specs.Prelude.{◌≡◌, ℕ, zero, suc, Bool, true, false, ◌&&◌, ◌||◌, nat_eq, nat_lt, List, refl}
use Rattle.std.proofs.Common.{arith, sym, ap, ◌∙◌, ◌⊎◌, inl, inr}
use Rattle.std.proofs.Math.Bool.{and-true, and-false, or-false}
use Rattle.std.proofs.lemmas.Bool.{cases_eq, eq-eqb, ne_eqb, lt-ltb, le-ltb}
use Rattle.std.proofs.lemmas.Bool.Decides.{nat_tests}
use Rattle.std.specs.FinSet as set
use Rattle.mls_tables.specs.declared.mode.Mode.{Mode}
use Rattle.mls_tables.specs.declared.mode.Mode.TheVariants.{Execute, Read, Append, Write}
use Rattle.mls_tables.specs.Mode.{mode_number, ModeSet}
use Rattle.mls_tables.specs.Triples.{Triple, TripleSet, triple_cmp, is_triple}
use Rattle.mls_tables.specs.declared.pair.Pair.{Pair}
use Rattle.mls_tables.specs.Cells.{cell, add_if, with_cell, with_column, with_columns, triples_of}
use Rattle.mls_tables.proofs.Laws.{contains-insert-triple}

and_swap : (a b c : Bool) → (a && (b && c)) ≡ (b && (a && c))
and_swap true b c = refl
and_swap false true c = refl
and_swap false false c = refl

in_add_if : (b : Bool) (t : Triple) (ts : TripleSet) (u : Triple) → set.contains (add_if b t ts) u ≡ ((is_triple u t && b) || set.contains ts u)
in_add_if true t ts u = contains-insert-triple ts t u ∙ ap (λ e. e || set.contains ts u) (sym (and-true (is_triple u t)))
in_add_if false t ts u = ap (λ e. e || set.contains ts u) (sym (and-false (is_triple u t)))

-- of four tests the one for the mode counts
one_of_four : (a b : Bool) (p : Mode → Bool) (rest : Bool) (x : Mode) → (((a && (b && nat_eq (mode_number x) 3)) && p Write) || (((a && (b && nat_eq (mode_number x) 2)) && p Append) || (((a && (b && nat_eq (mode_number x) 1)) && p Read) || (((a && (b && nat_eq (mode_number x) 0)) && p Execute) || rest)))) ≡ ((a && (b && p x)) || rest)
one_of_four true true p rest Execute = refl
one_of_four true true p rest Read = refl
one_of_four true true p rest Append = refl
one_of_four true true p rest Write = refl
one_of_four true false p rest x = refl
one_of_four false b p rest x = refl

contains-with_cell : (modes : ModeSet) (s o : ℕ) (ts : TripleSet) (u : Triple) → set.contains (with_cell modes s o ts) u ≡ ((nat_eq u.0 s && (nat_eq u.1 o && set.contains modes u.2)) || set.contains ts u)
unfolding with_cell
contains-with_cell modes s o ts u =
    in_add_if (set.contains modes Write) (s, o, Write) _ u
    ∙ ap (λ e. (is_triple u (s, o, Write) && set.contains modes Write) || e) (in_add_if (set.contains modes Append) (s, o, Append) _ u
    ∙ ap (λ e. (is_triple u (s, o, Append) && set.contains modes Append) || e) (in_add_if (set.contains modes Read) (s, o, Read) _ u
    ∙ ap (λ e. (is_triple u (s, o, Read) && set.contains modes Read) || e) (in_add_if (set.contains modes Execute) (s, o, Execute) ts u)))
    ∙ one_of_four (nat_eq u.0 s) (nat_eq u.1 o) (set.contains modes) (set.contains ts u) u.2

-- one number more is tested
below_more : (p : ℕ → Bool) (n q : ℕ) (rest : Bool) → (q ≡ n) ⊎ (q ≡ n → ⊥) → ((nat_eq q n && p n) || ((nat_lt q n && p q) || rest)) ≡ ((nat_lt q (suc n) && p q) || rest)
below_more p n q rest (inl same) =
    rw (same, eq-eqb n n refl, le-ltb n n (omega arith), lt-ltb n (suc n) (omega arith)) refl
below_more p n q rest (inr other) =
    let alike : nat_lt q n ≡ nat_lt q (suc n) = grind (arith, nat_tests, other) in
    rw (ne_eqb q n other, alike) refl

none_below : (p : Bool) (q : ℕ) → (nat_lt q 0 && p) ≡ false
none_below p q = ap (λ e. e && p) (le-ltb q 0 (omega arith))

contains-with_column : (column : ℕ → ModeSet) (o n : ℕ) (ts : TripleSet) (u : Triple) → set.contains (with_column column o n ts) u ≡ ((nat_lt u.0 n && (nat_eq u.1 o && set.contains (column u.0) u.2)) || set.contains ts u)
unfolding with_column
contains-with_column column o zero ts u = sym (ap (λ e. e || set.contains ts u) (none_below (nat_eq u.1 o && set.contains (column u.0) u.2) u.0))
contains-with_column column o (suc n) ts u =
    contains-with_cell (column n) n o _ u
    ∙ ap (λ e. (nat_eq u.0 n && (nat_eq u.1 o && set.contains (column n) u.2)) || e) (contains-with_column column o n ts u)
    ∙ below_more (λ s. nat_eq u.1 o && set.contains (column s) u.2) n u.0 (set.contains ts u) (cases_eq u.0 n)

contains-with_columns : (at : ℕ → ℕ → ModeSet) (n m : ℕ) (u : Triple) → set.contains (with_columns at n m) u ≡ (nat_lt u.1 m && (nat_lt u.0 n && set.contains (at u.0 u.1) u.2))
unfolding with_columns
contains-with_columns at n zero u = set.contains-empty triple_cmp u ∙ sym (none_below (nat_lt u.0 n && set.contains (at u.0 u.1) u.2) u.1)
contains-with_columns at n (suc o) u =
    contains-with_column (λ s. at s o) o n _ u
    ∙ (λ i. and_swap (nat_lt u.0 n) (nat_eq u.1 o) (set.contains (at u.0 o) u.2) i || (contains-with_columns at n o u ∙ sym (or-false _)) i)
    ∙ below_more (λ q. nat_lt u.0 n && set.contains (at u.0 q) u.2) o u.1 false (cases_eq u.1 o)
    ∙ or-false _

-- a triple is in the set where its mode is in its cell
pub contains-triples_of : (cells : List Pair) (n m : ℕ) (u : Triple) → set.contains (triples_of cells n m) u ≡ (nat_lt u.1 m && (nat_lt u.0 n && set.contains (cell cells n u.0 u.1) u.2))
unfolding triples_of
contains-triples_of cells n m u = contains-with_columns (cell cells n) n m u
