-- Cells and triples by the places of their names.
use Rattle.std.proofs.Common.{◌≡◌, ℕ, List, [], ◌∷◌, ◌++◌, map, refl, ap, sym, ◌∙◌, Option, Some, None, option_map}
use Rattle.std.specs.List.{flat_map}
use Rattle.std.proofs.lemmas.List.{map_push, append-nil, append_assoc}
use Rattle.std.proofs.lemmas.List.Concat.{flat_map-append}
use Rattle.mls_tables.specs.Triples.{Triple}
use Rattle.mls_tables.specs.declared.mode.Mode.{Mode}
use Rattle.mls_start_text.specs.Each.{having}
use Rattle.mls_start_text.specs.PlaceViews.{triple_view}
use Rattle.mls_start_text.specs.declared.places.PlacedTriple.{PlacedTriple}

-- a cell of which a word is no mode's
pub cell_lacks : {X Y : Type 0} (p q : Option ℕ) (g : ℕ → ℕ → X → Y) (modes : Option X) → modes ≡ None → having p (λ s. having q (λ o. option_map (g s o) modes)) ≡ None
cell_lacks None q g modes none = refl
cell_lacks (Some s) None g modes none = refl
cell_lacks (Some s) (Some o) g modes none = ap (option_map (g s o)) none

-- the triples of one cell, with one mode more
pub modes_joined : (front : List Triple) (s o : ℕ) (xs : List Mode) (x : Mode) → front ++ map (λ y. (s, o, y)) (xs ++ x ∷ []) ≡ (front ++ map (λ y. (s, o, y)) xs) ++ (s, o, x) ∷ []
modes_joined front s o xs x = ap (λ ts. front ++ ts) (map_push (λ y. (s, o, y)) xs x) ∙ sym (append_assoc front (map (λ y. (s, o, y)) xs) ((s, o, x) ∷ []))

-- the triples of all cells, with those of one more
pub cells_joined : (groups : List (List Triple)) (ts : List Triple) → flat_map (λ us. us) (groups ++ ts ∷ []) ≡ flat_map (λ us. us) groups ++ ts
cells_joined groups ts = flat_map-append (λ us. us) groups (ts ∷ []) ∙ ap (λ us. flat_map (λ vs. vs) groups ++ us) (append-nil ts)

-- one triple more was pushed
pub mode_more : (old new : List PlacedTriple) (s o : ℕ) (found : Option Mode) (x : Mode) → found ≡ Some x → new ≡ old ++ record { subject = s; object = o; mode = x } ∷ [] → option_map (λ y. map triple_view old ++ (s, o, y) ∷ []) found ≡ Some (map triple_view new)
mode_more old new s o found x is push =
    ap (option_map (λ y. map triple_view old ++ (s, o, y) ∷ [])) is
    ∙ ap (λ ts. Some ts) (sym (map_push triple_view old (record { subject = s; object = o; mode = x })) ∙ ap (map triple_view) (sym push))
