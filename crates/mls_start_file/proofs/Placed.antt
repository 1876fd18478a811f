-- Parents and triples by the places of their names, as rows.
use Rattle.std.proofs.Common.{◌≡◌, ℕ, ◌+◌, ◌<◌, List, [], ◌∷◌, ◌++◌, map, length, take, get_or, refl, ap, sym, ◌∙◌, Some, None, option_map, is_some}
use Rattle.std.specs.FinSet as set
use Rattle.std.proofs.lemmas.List.{map_more, append_assoc}
use Rattle.mls_start.specs.Rows.{Rows}
use Rattle.mls_start.specs.declared.object_row.ObjectRow.{ObjectRow}
use Rattle.mls_tables.proofs.Laws.{triples_total, same_triple}
use Rattle.mls_tables.specs.Triples.{triple_cmp}
use Rattle.mls_start_text.specs.Each.{having}
use Rattle.mls_start_text.specs.PlaceViews.{triple_view}
use Rattle.mls_start_file.specs.Placing.{placed_child}
use Rattle.mls_start_text.specs.declared.labels.LabelledChild.{LabelledChild}
use Rattle.mls_start_text.specs.declared.places.PlacedTriple.{PlacedTriple}

-- an object whose parent is unknown, and one whose parent is known
pub unplaced : (c : LabelledChild) → c.parent ≡ None → placed_child c ≡ None
unplaced c none = ap (λ o. having o (λ parent. Some (record { parent = parent; labels = c.labels }))) none

pub placed : (c : LabelledChild) (p : ℕ) → c.parent ≡ Some p → placed_child c ≡ Some (record { parent = p; labels = c.labels })
placed c p is = ap (λ o. having o (λ parent. Some (record { parent = parent; labels = c.labels }))) is

pub is_placed : (c : LabelledChild) → is_some (placed_child c) ≡ is_some c.parent
is_placed c = elim c.parent as (λ o. is_some {T = ObjectRow} (having o (λ parent. Some (record { parent = parent; labels = c.labels }))) ≡ is_some o) [ None ↦ refl | Some p ↦ refl ]

-- rows with the row of one object more
pub placed_more : (c : LabelledChild) (p q : ℕ) (made more : List ObjectRow) → c.parent ≡ Some p → q ≡ p → more ≡ made ++ record { parent = q; labels = c.labels } ∷ [] → option_map (λ row. made ++ row ∷ []) (placed_child c) ≡ Some more
placed_more c p q made more is number push =
    ap (option_map (λ row. made ++ row ∷ [])) (placed c p is)
    ∙ ap (λ n. Some (made ++ record { parent = n; labels = c.labels } ∷ [])) (sym number)
    ∙ ap (λ rows. Some rows) (sym push)

pub rows_joined : (front ys : List ObjectRow) (y : ObjectRow) → front ++ (ys ++ y ∷ []) ≡ (front ++ ys) ++ y ∷ []
rows_joined front ys y = sym (append_assoc front ys (y ∷ []))

-- a builder with other objects, in two steps
pub same_but_objects : (first before after : Rows) (objects : List ObjectRow) → before ≡ record first { objects = before.objects } → after ≡ record before { objects = objects } → after ≡ record first { objects = after.objects }
same_but_objects first before after objects was now =
    now ∙ ap (λ (rows : Rows). record rows { objects = objects }) was ∙ ap {A = List ObjectRow} {B = Rows} (λ rows. record first { objects = rows }) (sym (ap (λ rows. rows.objects) now))

-- the set of triples with one more
pub set_more : (ts : List PlacedTriple) (i : ℕ) (d : PlacedTriple) → i < length ts → set.from_list {R = triple_cmp} (map triple_view (take (i + 1) ts)) ≡ set.insert (set.from_list {R = triple_cmp} (map triple_view (take i ts))) (triple_view (get_or ts i d))
set_more ts i d within =
    ap (λ us. set.from_list {R = triple_cmp} us) (map_more triple_view ts i d within)
    ∙ set.from_list_push triples_total same_triple (map triple_view (take i ts)) (triple_view (get_or ts i d))

-- a builder with one triple more
pub cells_more : (ts : List PlacedTriple) (i : ℕ) (d : PlacedTriple) (first before after : Rows) (s o : ℕ) → i < length ts → s ≡ (get_or ts i d).subject → o ≡ (get_or ts i d).object
    → before ≡ record first { cells = set.from_list {R = triple_cmp} (map triple_view (take i ts)) }
    → after ≡ record before { cells = set.insert before.cells (s, o, (get_or ts i d).mode) }
    → after ≡ record first { cells = set.from_list {R = triple_cmp} (map triple_view (take (i + 1) ts)) }
cells_more ts i d first before after s o within subject object was now =
    now
    ∙ ap (λ (rows : Rows). record rows { cells = set.insert rows.cells (s, o, (get_or ts i d).mode) }) was
    ∙ ap {A = ℕ} {B = Rows} (λ n. record first { cells = set.insert (set.from_list {R = triple_cmp} (map triple_view (take i ts))) (n, o, (get_or ts i d).mode) }) subject
    ∙ ap {A = ℕ} {B = Rows} (λ n. record first { cells = set.insert (set.from_list {R = triple_cmp} (map triple_view (take i ts))) ((get_or ts i d).subject, n, (get_or ts i d).mode) }) object
    ∙ ap {B = Rows} (λ cells. record first { cells = cells }) (sym (set_more ts i d within))

-- a builder with one access more
pub accesses_more : (ts : List PlacedTriple) (i : ℕ) (d : PlacedTriple) (first before after : Rows) (s o : ℕ) → i < length ts → s ≡ (get_or ts i d).subject → o ≡ (get_or ts i d).object
    → before ≡ record first { accesses = set.from_list {R = triple_cmp} (map triple_view (take i ts)) }
    → after ≡ record before { accesses = set.insert before.accesses (s, o, (get_or ts i d).mode) }
    → after ≡ record first { accesses = set.from_list {R = triple_cmp} (map triple_view (take (i + 1) ts)) }
accesses_more ts i d first before after s o within subject object was now =
    now
    ∙ ap (λ (rows : Rows). record rows { accesses = set.insert rows.accesses (s, o, (get_or ts i d).mode) }) was
    ∙ ap {A = ℕ} {B = Rows} (λ n. record first { accesses = set.insert (set.from_list {R = triple_cmp} (map triple_view (take i ts))) (n, o, (get_or ts i d).mode) }) subject
    ∙ ap {A = ℕ} {B = Rows} (λ n. record first { accesses = set.insert (set.from_list {R = triple_cmp} (map triple_view (take i ts))) ((get_or ts i d).subject, n, (get_or ts i d).mode) }) object
    ∙ ap {B = Rows} (λ accesses. record first { accesses = accesses }) (sym (set_more ts i d within))
