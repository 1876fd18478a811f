-- What a change of the cells does to the set of triples.
use Rattle.std.proofs.Common.{◌≡◌, ℕ, ◌+◌, ◌-◌, ◌*◌, ◌/◌, ◌<◌, ◌≤◌, Bool, true, false, cond, nat_eq, nat_lt, List, ◌++◌, length, take, drop, get_or, set as put, refl, sym, ap, ◌∙◌, ◌⊎◌, inl, inr, arith}
use Rattle.std.specs.Prelude.{not, replicate, ◌&&◌, ◌||◌}
use Rattle.std.proofs.Math.Nat.{mul_comm}
use Rattle.std.proofs.lemmas.Nat.{mul-add-lt, same_from_place, row_fits}
use Rattle.std.proofs.lemmas.List.{get_or-set_same, get_or-set_other, get_or_default, get_or_append_left, get_or-append_right, get_or-take, get_or-drop, get_or-replicate, length-replicate, length-take, length-drop, length-append}
use Rattle.std.proofs.Math.Bool.{and-true, and-false}
use Rattle.std.proofs.lemmas.Bool.{cases_eq, cases_lt, eq-eqb, ne_eqb, lt-ltb, le-ltb}
use Rattle.std.specs.FinSet as set
use Rattle.mls_tables.specs.declared.mode.Mode.{Mode}
use Rattle.mls_tables.specs.declared.pair.Pair.{Pair}
use Rattle.mls_tables.specs.Mode.{mode_cmp, ModeSet}
use Rattle.mls_tables.specs.Triples.{Triple}
use Rattle.mls_tables.specs.Table.{IsWithin, without_object}
use Rattle.mls_tables.specs.Cells.{cell, half, no_pair, width, is_odd, with_columns, triples_of}
use Rattle.mls_tables.proofs.Laws.{same_triples, contains-insert-triple, contains-remove-triple, contains-without_object}
use Rattle.mls_tables.proofs.ModeBits.{is_mode, contains-insert-mode, contains-remove-mode}
use Rattle.mls_tables.proofs.Pairs.{half_lt, half-no_pair, other_side}
use Rattle.mls_tables.proofs.CellTriples.{contains-triples_of}

-- no column, no triple
pub triples_of-none : (cells : List Pair) (n : ℕ) → triples_of cells n 0 ≡ set.empty
unfolding triples_of with_columns
triples_of-none cells n = refl

-- where the pair of a cell of a column that is there stands
pub place_lt : (n m s o : ℕ) → s < n → o < m → o * width n + s / 2 < m * width n
place_lt n m s o subject object = let fits : o * width n + s / 2 < width n * m = mul-add-lt o (width n) (s / 2) m object (half_lt s n subject) in rw (mul_comm (width n) m) at fits

-- a triple within the bounds is in the set where its mode is in the cell
pub contains-cell : (cells : List Pair) (n m s o : ℕ) (x : Mode) → s < n → o < m → set.contains (triples_of cells n m) (s, o, x) ≡ set.contains (cell cells n s o) x
contains-cell cells n m s o x subject object = contains-triples_of cells n m (s, o, x) ∙ rw (lt-ltb o m object, lt-ltb s n subject) refl

-- a half of what is read at a place of the list is the cell
pub read_cell : (cells : List Pair) (n m s o at_place : ℕ) (read : Pair) → s < n → o < m → length cells ≡ m * width n → at_place ≡ o * width n + s / 2 → read ≡ get_or cells at_place read → (odd : Bool) → half read odd ≡ half (get_or cells (o * width n + s / 2) no_pair) odd
read_cell cells n m s o at_place read subject object whole place is odd = let stands : o * width n + s / 2 < length cells = rw whole (place_lt n m s o subject object) in ap (λ p. half p odd) (is ∙ ap (λ k. get_or cells k read) place ∙ get_or_default cells (o * width n + s / 2) read no_pair stands)

in_bounds : (n m : ℕ) (t : Triple) (c : Bool) → (t.0 < n) ⊎ (n ≤ t.0) → (t.1 < m) ⊎ (m ≤ t.1) → (nat_lt t.1 m && (nat_lt t.0 n && c)) ≡ true → (t.0 < n) × (t.1 < m)
in_bounds n m t c (inl subject) (inl object) h = (subject, object)
in_bounds n m t c (inl subject) (inr past) h = let no : nat_lt t.1 m ≡ false = le-ltb t.1 m past in let wrong : false ≡ true = rw no at h in absurd (cc)
in_bounds n m t c (inr past) (inl object) h =
    let one : nat_lt t.1 m ≡ true = lt-ltb t.1 m object in
    let no : nat_lt t.0 n ≡ false = le-ltb t.0 n past in
    let wrong : false ≡ true = rw (one, no) at h in
    absurd (cc)
in_bounds n m t c (inr _) (inr past) h = let no : nat_lt t.1 m ≡ false = le-ltb t.1 m past in let wrong : false ≡ true = rw no at h in absurd (cc)

-- the triples of the cells are within the bounds
pub IsWithin-triples_of : (cells : List Pair) (n m : ℕ) → IsWithin n m (triples_of cells n m)
IsWithin-triples_of cells n m t there = in_bounds n m t (set.contains (cell cells n t.0 t.1) t.2) (cases_lt t.0 n) (cases_lt t.1 m) (sym (contains-triples_of cells n m t) ∙ there)

module _ (cells : List Pair) (n m s o : ℕ) (c : ModeSet) (p : Pair) (own : half p (is_odd s) ≡ c) (other_half : half p (not (is_odd s)) ≡ half (get_or cells (o * width n + s / 2) no_pair) (not (is_odd s))) (subject : s < n) (object : o < m) (whole : length cells ≡ m * width n) where
  abbrev after : List Pair
  after = put cells (o * width n + s / 2) p

  stands : o * width n + s / 2 < length cells
  stands = rw whole (place_lt n m s o subject object)

  cell_put : cell after n s o ≡ c
  cell_put = ap (λ q. half q (is_odd s)) (get_or-set_same cells (o * width n + s / 2) p no_pair stands) ∙ own

  cell_kept : (a b : ℕ) → a < n → ((a ≡ s) × (b ≡ o) → ⊥) → cell after n a b ≡ cell cells n a b
  cell_kept a b within other = from (cases_eq (b * width n + a / 2) (o * width n + s / 2)) where
    from : (b * width n + a / 2 ≡ o * width n + s / 2) ⊎ (b * width n + a / 2 ≡ o * width n + s / 2 → ⊥) → cell after n a b ≡ cell cells n a b
    from (inl same) =
        let parts = same_from_place b (a / 2) o (s / 2) (width n) (half_lt a n within) (half_lt s n subject) same in
        let side : is_odd a ≡ not (is_odd s) = other_side a s parts.1 (λ one. other (one, parts.0)) in
        ap (λ k. half (get_or after k no_pair) (is_odd a)) same
        ∙ ap (λ q. half q (is_odd a)) (get_or-set_same cells (o * width n + s / 2) p no_pair stands)
        ∙ ap (half p) side
        ∙ other_half
        ∙ ap (half (get_or cells (o * width n + s / 2) no_pair)) (sym side)
        ∙ ap (λ k. half (get_or cells k no_pair) (is_odd a)) (sym same)
    from (inr apart) = ap (λ q. half q (is_odd a)) (get_or-set_other cells (o * width n + s / 2) (b * width n + a / 2) p no_pair apart)

  kept : (a b : ℕ) (y : Mode) → ((a ≡ s) × (b ≡ o) → ⊥) → (a < n) ⊎ (n ≤ a) → set.contains (triples_of after n m) (a, b, y) ≡ set.contains (triples_of cells n m) (a, b, y)
  kept a b y other (inl within) = contains-triples_of after n m (a, b, y) ∙ rw (cell_kept a b within other) (sym (contains-triples_of cells n m (a, b, y)))
  kept a b y other (inr past) = rw (contains-triples_of after n m (a, b, y), contains-triples_of cells n m (a, b, y), le-ltb a n past) refl

  -- only the cell's own triples change
  in_put : (a b : ℕ) (y : Mode) → (a ≡ s) ⊎ (a ≡ s → ⊥) → (b ≡ o) ⊎ (b ≡ o → ⊥) → set.contains (triples_of after n m) (a, b, y) ≡ cond (nat_eq a s && nat_eq b o) (set.contains c y) (set.contains (triples_of cells n m) (a, b, y))
  in_put a b y (inl row) (inl column) = rw (row, column, eq-eqb s s refl, eq-eqb o o refl) (contains-cell after n m s o y subject object ∙ ap (λ v. set.contains v y) cell_put)
  in_put a b y (inl row) (inr other) = rw (ne_eqb b o other, and-false (nat_eq a s)) (kept a b y (λ same. other same.1) (cases_lt a n))
  in_put a b y (inr other) _ = rw (ne_eqb a s other) (kept a b y (λ same. other same.0) (cases_lt a n))

module _ (cells : List Pair) (n m s o : ℕ) (x : Mode) (p : Pair) (other_half : half p (not (is_odd s)) ≡ half (get_or cells (o * width n + s / 2) no_pair) (not (is_odd s))) (subject : s < n) (object : o < m) (whole : length cells ≡ m * width n) where
  the_cell : (a b : ℕ) (y : Mode) → (a ≡ s) ⊎ (a ≡ s → ⊥) → (b ≡ o) ⊎ (b ≡ o → ⊥) → (nat_eq a s && nat_eq b o) ≡ true → set.contains (triples_of cells n m) (a, b, y) ≡ set.contains (cell cells n s o) y
  the_cell a b y (inl row) (inl column) h = rw (row, column) (contains-cell cells n m s o y subject object)
  the_cell a b y (inl row) (inr other) h = let wrong : false ≡ true = rw (ne_eqb b o other, and-false (nat_eq a s)) at h in absurd (cc)
  the_cell a b y (inr other) _ h = let wrong : false ≡ true = rw (ne_eqb a s other) at h in absurd (cc)

  inserted : (r k e c t : Bool) → ((r && k) ≡ true → t ≡ c) → cond (r && k) (e || c) t ≡ ((r && (k && e)) || t)
  inserted true true e c t h = ap (λ d. e || d) (sym (h refl))
  inserted true false e c t h = refl
  inserted false k e c t h = refl

  removed : (r k e c t : Bool) → ((r && k) ≡ true → t ≡ c) → cond (r && k) (not e && c) t ≡ (not (r && (k && e)) && t)
  removed true true e c t h = ap (λ d. not e && d) (sym (h refl))
  removed true false e c t h = refl
  removed false k e c t h = refl

  -- to insert a mode into a cell is to insert its triple
  pub triples_of-insert : half p (is_odd s) ≡ set.insert (cell cells n s o) x → triples_of (put cells (o * width n + s / 2) p) n m ≡ set.insert (triples_of cells n m) (s, o, x)
  triples_of-insert own = same_triples _ _ (λ t.
      in_put cells n m s o (set.insert (cell cells n s o) x) p own other_half subject object whole t.0 t.1 t.2 (cases_eq t.0 s) (cases_eq t.1 o)
      ∙ ap (λ e. cond (nat_eq t.0 s && nat_eq t.1 o) e (set.contains (triples_of cells n m) t)) (contains-insert-mode (cell cells n s o) x t.2)
      ∙ inserted (nat_eq t.0 s) (nat_eq t.1 o) (is_mode t.2 x) (set.contains (cell cells n s o) t.2) (set.contains (triples_of cells n m) t) (the_cell t.0 t.1 t.2 (cases_eq t.0 s) (cases_eq t.1 o))
      ∙ sym (contains-insert-triple (triples_of cells n m) (s, o, x) t))

  -- to remove a mode from a cell is to remove its triple
  pub triples_of-remove : half p (is_odd s) ≡ set.remove (cell cells n s o) x → triples_of (put cells (o * width n + s / 2) p) n m ≡ set.remove (triples_of cells n m) (s, o, x)
  triples_of-remove own = same_triples _ _ (λ t.
      in_put cells n m s o (set.remove (cell cells n s o) x) p own other_half subject object whole t.0 t.1 t.2 (cases_eq t.0 s) (cases_eq t.1 o)
      ∙ ap (λ e. cond (nat_eq t.0 s && nat_eq t.1 o) e (set.contains (triples_of cells n m) t)) (contains-remove-mode (cell cells n s o) x t.2)
      ∙ removed (nat_eq t.0 s) (nat_eq t.1 o) (is_mode t.2 x) (set.contains (cell cells n s o) t.2) (set.contains (triples_of cells n m) t) (the_cell t.0 t.1 t.2 (cases_eq t.0 s) (cases_eq t.1 o))
      ∙ sym (contains-remove-triple (triples_of cells n m) (s, o, x) t))

module _ (old new : List Pair) (n m : ℕ) (whole : length old ≡ m * width n) (before : (k : ℕ) (d : Pair) → k < length old → get_or new k d ≡ get_or old k d) (added : (k : ℕ) (d : Pair) → length old ≤ k → k < length old + width n → get_or new k d ≡ no_pair) where
  in_more : (a b : ℕ) (y : Mode) → (a < n) ⊎ (n ≤ a) → (b < m) ⊎ (m ≤ b) → (b ≡ m) ⊎ (b ≡ m → ⊥) → (nat_lt b (m + 1) && (nat_lt a n && set.contains (cell new n a b) y)) ≡ (nat_lt b m && (nat_lt a n && set.contains (cell old n a b) y))
  in_more a b y (inr past) _ _ = rw (le-ltb a n past, and-false (nat_lt b (m + 1)), and-false (nat_lt b m)) refl
  in_more a b y (inl row) (inl column) _ =
      let stands : b * width n + a / 2 < length old = rw whole (place_lt n m a b row column) in
      rw (before (b * width n + a / 2) no_pair stands, lt-ltb b (m + 1) (omega arith), lt-ltb b m column) refl
  in_more a b y (inl row) (inr past) (inl last) =
      let from : length old ≤ b * width n + a / 2 = rw (whole, last) (omega arith) in
      let fits : a / 2 < width n = half_lt a n row in
      let below : b * width n + a / 2 < length old + width n = rw (whole, last) (omega arith) in
      rw (added (b * width n + a / 2) no_pair from below, half-no_pair (is_odd a), lt-ltb a n row, le-ltb b m past, set.contains-empty mode_cmp y) (and-false (nat_lt b (m + 1)))
  in_more a b y (inl row) (inr past) (inr other) = let beyond : m + 1 ≤ b = omega arith in rw (le-ltb b (m + 1) beyond, le-ltb b m past) refl

  -- an empty column more changes nothing
  pub triples_of-more : triples_of new n (m + 1) ≡ triples_of old n m
  triples_of-more = same_triples _ _ (λ t. contains-triples_of new n (m + 1) t ∙ in_more t.0 t.1 t.2 (cases_lt t.0 n) (cases_lt t.1 m) (cases_eq t.1 m) ∙ sym (contains-triples_of old n m t))

-- a list with a part emptied that begins somewhere and is n long
abbrev emptied : List Pair → ℕ → ℕ → List Pair
emptied cells from n = take from cells ++ (replicate n no_pair ++ drop n (drop from cells))

module _ (cells : List Pair) (from n : ℕ) (fits : from + n ≤ length cells) where
  front : length (take from cells) ≡ from
  front = omega (arith, length-take from cells)

  length-empties : length (replicate n no_pair) ≡ n
  length-empties = length-replicate n no_pair

  emptied_before : (k : ℕ) (d : Pair) → k < from → get_or (emptied cells from n) k d ≡ get_or cells k d
  emptied_before k d before =
      get_or_append_left (take from cells) (replicate n no_pair ++ drop n (drop from cells)) d k (rw front before) ∙ get_or-take from cells k d before

  emptied_within : (k : ℕ) (d : Pair) → k < n → get_or (emptied cells from n) (from + k) d ≡ no_pair
  emptied_within k d within =
      let at_front : from + k - from ≡ k = omega arith in
      let past : from ≤ from + k = omega arith in
      rw (get_or-append_right (take from cells) (replicate n no_pair ++ drop n (drop from cells)) from (from + k) d front past, at_front, get_or_append_left (replicate n no_pair) (drop n (drop from cells)) d k (rw length-empties within)) (get_or-replicate n k no_pair d within)

  emptied_after : (k : ℕ) (d : Pair) → get_or (emptied cells from n) (from + n + k) d ≡ get_or cells (from + n + k) d
  emptied_after k d =
      let past_front : from + n + k - from ≡ n + k = omega arith in
      let past_both : n + k - n ≡ k = omega arith in
      let past : from ≤ from + n + k = omega arith in
      let beyond : n ≤ n + k = omega arith in
      let same : from + (n + k) ≡ from + n + k = omega arith in
      rw (get_or-append_right (take from cells) (replicate n no_pair ++ drop n (drop from cells)) from (from + n + k) d front past, past_front, get_or-append_right (replicate n no_pair) (drop n (drop from cells)) n (n + k) d length-empties beyond, past_both, get_or-drop n (drop from cells) k d, get_or-drop from cells (n + k) d, same) refl

module _ (cells : List Pair) (n m o : ℕ) (object : o < m) (whole : length cells ≡ m * width n) where
  column_fits : o * width n + width n ≤ length cells
  column_fits = rw whole (row_fits o (width n) m (width n) object (omega arith))

  abbrev cleared : List Pair
  cleared = emptied cells (o * width n) (width n)

  kept_before : (a b : ℕ) → a < n → b < o → cell cleared n a b ≡ cell cells n a b
  kept_before a b row before = ap (λ p. half p (is_odd a)) (emptied_before cells (o * width n) (width n) column_fits (b * width n + a / 2) no_pair (place_lt n o a b row before))

  kept_after : (a b : ℕ) → a < n → o < b → cell cleared n a b ≡ cell cells n a b
  kept_after a b row after =
      let from : o * width n + width n ≤ b * width n = row_fits o (width n) b (width n) after (omega arith) in
      let split : o * width n + width n + (b * width n + a / 2 - (o * width n + width n)) ≡ b * width n + a / 2 = omega arith in
      ap (λ p. half p (is_odd a)) (rw split at (emptied_after cells (o * width n) (width n) column_fits (b * width n + a / 2 - (o * width n + width n)) no_pair))

  in_cleared : (a b : ℕ) (y : Mode) → (a < n) ⊎ (n ≤ a) → (b < o) ⊎ (o ≤ b) → (b ≡ o) ⊎ (b ≡ o → ⊥) → (nat_lt b m && (nat_lt a n && set.contains (cell cleared n a b) y)) ≡ ((nat_lt b m && (nat_lt a n && set.contains (cell cells n a b) y)) && not (nat_eq b o))
  in_cleared a b y (inr past) _ _ = rw (le-ltb a n past, and-false (nat_lt b m)) refl
  in_cleared a b y (inl row) (inl before) _ = let other : b ≡ o → ⊥ = λ same. omega arith in rw (kept_before a b row before, ne_eqb b o other) (sym (and-true _))
  in_cleared a b y (inl row) (inr from) (inl same) =
      rw (same, emptied_within cells (o * width n) (width n) column_fits (a / 2) no_pair (half_lt a n row), half-no_pair (is_odd a), set.contains-empty mode_cmp y, eq-eqb o o refl, and-false (nat_lt a n), and-false (nat_lt o m)) (sym (and-false _))
  in_cleared a b y (inl row) (inr from) (inr other) = let after : o < b = omega arith in rw (kept_after a b row after, ne_eqb b o other) (sym (and-true _))

  -- to empty the cells of a column is to remove the triples of its object
  pub triples_of-without_object : triples_of cleared n m ≡ without_object (triples_of cells n m) o
  triples_of-without_object = same_triples _ _ (λ t.
      contains-triples_of cleared n m t
      ∙ in_cleared t.0 t.1 t.2 (cases_lt t.0 n) (cases_lt t.1 o) (cases_eq t.1 o)
      ∙ ap (λ e. e && not (nat_eq t.1 o)) (sym (contains-triples_of cells n m t))
      ∙ sym (contains-without_object (triples_of cells n m) o t))

  -- as the code has it
  pub triples_of-written : (now part : List Pair) (from k : ℕ) → now ≡ cells → from ≡ o * width n → k ≡ width n → part ≡ replicate (length (take k (drop from now))) no_pair → triples_of (take from now ++ (part ++ drop k (drop from now))) n m ≡ without_object (triples_of cells n m) o
  triples_of-written now part from k is_cells is_from is_n is_part =
      let fits : o * width n + width n ≤ length cells = column_fits in
      let long : length (take (width n) (drop (o * width n) cells)) ≡ width n = omega (arith, length-take (width n) (drop (o * width n) cells), length-drop (o * width n) cells) in
      rw (is_part, is_cells, is_from, is_n, long) triples_of-without_object

  pub length-written : (now part : List Pair) (from k : ℕ) → now ≡ cells → from ≡ o * width n → k ≡ width n → part ≡ replicate (length (take k (drop from now))) no_pair → length (take from now ++ (part ++ drop k (drop from now))) ≡ length cells
  length-written now part from k is_cells is_from is_n is_part =
      let fits : o * width n + width n ≤ length cells = column_fits in
      let long : length (take (width n) (drop (o * width n) cells)) ≡ width n = omega (arith, length-take (width n) (drop (o * width n) cells), length-drop (o * width n) cells) in
      rw (is_part, is_cells, is_from, is_n, long, length-append, length-append, length-replicate, length-take, length-drop, length-drop) (omega arith)
