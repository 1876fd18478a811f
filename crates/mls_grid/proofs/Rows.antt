-- Cells, row by row.
use Rattle.std.proofs.Common.{◌≡◌, ℕ, ◌+◌, ◌<◌, Bool, List, [], ◌∷◌, ◌++◌, length, take, get_or, Result, Ok, Err, refl, sym, ap, subst, ◌∙◌}
use Rattle.std.specs.Prelude.{IfOk}
use Rattle.std.proofs.lemmas.List.{append_assoc, map-append, take_more}
use Rattle.mls_facts.proofs.Gathered.{flat_map_more}
use Rattle.mls_state.specs.State.{State}
use Rattle.mls_grid.specs.Grids.{IsGrid, place_of, places_of, row_of, rows_of}
use Rattle.mls_grid.specs.declared.cell.Cell.{Cell}
use Rattle.mls_grid.specs.declared.grid.Grid.{Grid}

-- one place more
place_pushed : (cells : List Cell) (c : Cell) → places_of (cells ++ c ∷ []) ≡ places_of cells ++ place_of c ∷ []
place_pushed [] c = refl
place_pushed (a ∷ cells) c = ap (λ t. place_of a ∷ t) (place_pushed cells c)

-- one subject more of a row
row_more : (subjects : List ℕ) (n s o : ℕ) → n < length subjects → s ≡ get_or subjects n s
    → row_of (take (n + 1) subjects) o ≡ row_of (take n subjects) o ++ (s, o) ∷ []
row_more subjects n s o within is =
    ap (λ t. row_of t o) (take_more subjects n s within ∙ ap (λ k. take n subjects ++ k ∷ []) (sym is))
    ∙ map-append (λ (k : ℕ). (k, o)) (take n subjects) (s ∷ [])

-- the cell of one subject more is added
pub cell_more : (subjects : List ℕ) (n s o : ℕ) (old so_far new : List Cell) (c : Cell) → n < length subjects → s ≡ get_or subjects n s → new ≡ so_far ++ c ∷ []
    → place_of c ≡ (s, o) → places_of so_far ≡ places_of old ++ row_of (take n subjects) o → places_of new ≡ places_of old ++ row_of (take (n + 1) subjects) o
cell_more subjects n s o old so_far new c within is pushed place told =
    ap places_of pushed ∙ place_pushed so_far c ∙ ap (λ p. places_of so_far ++ p ∷ []) place ∙ ap (λ t. t ++ (s, o) ∷ []) told
    ∙ append_assoc (places_of old) (row_of (take n subjects) o) ((s, o) ∷ [])
    ∙ ap (λ t. places_of old ++ t) (sym (row_more subjects n s o within is))

-- the row of one object more is added
pub rows_more : (objects subjects : List ℕ) (n o : ℕ) (so_far new : List Cell) → n < length objects → o ≡ get_or objects n o
    → places_of new ≡ places_of so_far ++ row_of subjects o → places_of so_far ≡ rows_of (take n objects) subjects → places_of new ≡ rows_of (take (n + 1) objects) subjects
rows_more objects subjects n o so_far new within is pushed told =
    pushed ∙ ap (λ t. t ++ row_of subjects o) told
    ∙ ap (λ k. rows_of (take n objects) subjects ++ row_of subjects k) is
    ∙ sym (flat_map_more (row_of subjects) objects n o within)

-- the same subjects act
pub same_acting : {E : Type 0} (v : State) (acts other : ℕ → Bool) (result : Result Grid E) → ((s : ℕ) → acts s ≡ other s)
    → IfOk result (λ grid. IsGrid v acts grid) → IfOk result (λ grid. IsGrid v other grid)
same_acting v acts other (Ok grid) same is = subst (λ a. IsGrid v a grid) (λ i s. same s i) is
same_acting v acts other (Err fault) same is = tt
