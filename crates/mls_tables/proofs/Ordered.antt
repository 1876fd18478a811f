-- A number entered into a strictly increasing list, or taken out of it, at the place that a search found.
use Rattle.std.specs.Prelude.{◌≡◌, ℕ, zero, suc, ◌+◌, ◌-◌, ◌<◌, ◌≤◌, Bool, true, false, cond, not, ◌&&◌, ◌||◌, List, [], ◌∷◌, length, take, drop, filter, Result, Ok, Err, refl}
use Rattle.std.specs.List.{list_any, insert, remove}
use Rattle.std.specs.List.Sorted.{IsStrictlyIncreasing, IsStrictlySortedBy, IsBinarySearchResult}
use Rattle.std.specs.Ordering.{nat_cmp}
use Rattle.std.proofs.Common.{◌⊎◌, inl, inr, arith, sym, ap, ◌∙◌, eqb, ltb, get_or, take-append-drop}
use Rattle.std.proofs.lemmas.Bool.{cases_eq, cases_order, eqb-true, eq-eqb, ne_eqb, lt-ltb, or_parts, and_parts, cases_lt, false_from_ne_true}
use Rattle.std.specs.Cmp.{nat_eq_equiv}
use Rattle.std.proofs.lemmas.List.{get_or_default}
use Rattle.std.proofs.lemmas.Map.Keys.{sorted_tail, below_from_sorted, sorted_from_strictly_increasing}
use Rattle.std.proofs.lemmas.List.Edits.{length-insert, get_or-insert_below, get_or-insert_at, get_or-insert_above}
use Rattle.std.proofs.lemmas.List.Folds.{list_any-append, list_any_at, Any-from_list_any}
use Rattle.std.proofs.lemmas.List.Kept.{AllPairs-from_increasing}
use Rattle.std.proofs.lemmas.List.Sorted.{searched}
use Rattle.mls_facts.proofs.Increasing.{same_increasing, IsStrictlyIncreasing-filter_range}
use Rattle.mls_facts.proofs.Ranges.{list_any-filter_range}
use Rattle.mls_facts.proofs.Filters.{filter-twice}
use Rattle.mls_tables.specs.Rows.{FoundAt, entered, left, listed}

rises : (xs : List ℕ) → IsStrictlyIncreasing xs → (i j : ℕ) → i ≤ j → j < length xs → get_or xs i 0 ≤ get_or xs j 0
rises xs up i j before within = from (cases_order i j) where
  from : (i ≡ j) ⊎ ((i < j) ⊎ (j < i)) → get_or xs i 0 ≤ get_or xs j 0
  from (inl same) = let e : get_or xs i 0 ≡ get_or xs j 0 = ap (λ k. get_or xs k 0) same in omega arith
  from (inr (inl less)) = let h : get_or xs i 0 < get_or xs j 0 = AllPairs-from_increasing xs up i j 0 less within in omega arith
  from (inr (inr more)) = absurd (omega arith)

-- what a search says where the numbers rise strictly
pub found : (xs : List ℕ) (x : ℕ) (r : Result ℕ ℕ) → IsBinarySearchResult (λ y. nat_cmp y x) xs r → IsStrictlyIncreasing xs → FoundAt xs x r
found xs x (Ok k) is up = searched xs x (Ok k) is (rises xs up)
found xs x (Err k) is up = searched xs x (Err k) is (rises xs up)

-- a number greater than the last of a list that rises would stand behind all
pub behind_last : (xs : List ℕ) (x : ℕ) → IsStrictlyIncreasing xs → 0 < length xs → get_or xs (length xs - 1) 0 < x → FoundAt xs x (Err (length xs))
behind_last xs x up some last =
    let below : (j : ℕ) → j < length xs → get_or xs j 0 < x = λ j within. let low = rises xs up j (length xs - 1) (omega arith) (omega arith) in omega arith in
    (omega arith, below, λ j behind within. absurd (omega arith))

module _ (xs : List ℕ) (x k : ℕ) (up : IsStrictlyIncreasing xs) (place : FoundAt xs x (Err k)) where
  -- a number entered between those that are less and those that are greater
  IsStrictlyIncreasing-insert : IsStrictlyIncreasing (insert xs k x)
  IsStrictlyIncreasing-insert j within = from (cases_order j k) (cases_eq (j + 1) k) where
    long : length (insert xs k x) ≡ length xs + 1
    long = length-insert xs k x place.0

    from : (j ≡ k) ⊎ ((j < k) ⊎ (k < j)) → (j + 1 ≡ k) ⊎ (j + 1 ≡ k → ⊥) → get_or (insert xs k x) j 0 < get_or (insert xs k x) (j + 1) 0
    from (inl same) other =
        let one : get_or (insert xs k x) j 0 ≡ x = ap (λ n. get_or (insert xs k x) n 0) same ∙ get_or-insert_at xs k x 0 place.0 in
        let two : get_or (insert xs k x) (j + 1) 0 ≡ get_or xs j 0 = get_or-insert_above xs k x 0 j (omega arith) place.0 in
        let more : x < get_or xs j 0 = place.2 j (omega arith) (omega (arith, long)) in
        omega arith
    from (inr (inl less)) (inl next) =
        let one : get_or (insert xs k x) j 0 ≡ get_or xs j 0 = get_or-insert_below xs k x 0 j less place.0 in
        let two : get_or (insert xs k x) (j + 1) 0 ≡ x = ap (λ n. get_or (insert xs k x) n 0) next ∙ get_or-insert_at xs k x 0 place.0 in
        let low : get_or xs j 0 < x = place.1 j less in
        omega arith
    from (inr (inl less)) (inr other) =
        let one : get_or (insert xs k x) j 0 ≡ get_or xs j 0 = get_or-insert_below xs k x 0 j less place.0 in
        let two : get_or (insert xs k x) (j + 1) 0 ≡ get_or xs (j + 1) 0 = get_or-insert_below xs k x 0 (j + 1) (omega arith) place.0 in
        let step : get_or xs j 0 < get_or xs (j + 1) 0 = up j (let h : k ≤ length xs = place.0 in omega arith) in
        omega arith
    from (inr (inr more)) other = behind j more within where
      past : (n : ℕ) → k ≤ n → get_or (insert xs k x) (suc n) 0 ≡ get_or xs n 0
      past n from = let e : n + 1 ≡ suc n = omega arith in rw e at (get_or-insert_above xs k x 0 n from place.0)

      behind : (n : ℕ) → k < n → n + 1 < length (insert xs k x) → get_or (insert xs k x) n 0 < get_or (insert xs k x) (n + 1) 0
      behind zero beyond inside = absurd (omega arith)
      behind (suc n) beyond inside =
          let e : suc n + 1 ≡ suc (suc n) = omega arith in
          let f : n + 1 ≡ suc n = omega arith in
          let step : get_or xs n 0 < get_or xs (n + 1) 0 = up n (omega (arith, long)) in
          rw (e, past n (omega arith), past (suc n) (omega arith), ← f) step

-- what is listed once a number is entered
any-insert : (q : ℕ) (xs : List ℕ) (k x : ℕ) → list_any (eqb q) (insert xs k x) ≡ (eqb q x || list_any (eqb q) xs)
any-insert q xs k x =
    list_any-append (eqb q) (take k xs) (x ∷ drop k xs)
    ∙ or_swap (list_any (eqb q) (take k xs)) (eqb q x) (list_any (eqb q) (drop k xs))
    ∙ ap (λ b. eqb q x || b) (sym (list_any-append (eqb q) (take k xs) (drop k xs)) ∙ ap (list_any (eqb q)) (take-append-drop k xs)) where
      or_swap : (a b c : Bool) → (a || (b || c)) ≡ (b || (a || c))
      or_swap true true c = refl
      or_swap true false c = refl
      or_swap false b c = refl

-- a number that is found at a place is listed
any_found : (xs : List ℕ) (x k : ℕ) → FoundAt xs x (Ok k) → list_any (eqb x) xs ≡ true
any_found xs x k place = list_any_at (eqb x) xs k 0 place.0 (eq-eqb x (get_or xs k 0) (sym place.1))

-- one that is missed isn't
any_missed : (xs : List ℕ) (x k : ℕ) → FoundAt xs x (Err k) → list_any (eqb x) xs ≡ false
any_missed xs x k place = false_from_ne_true _ (λ there. let at = Any-from_list_any (eqb x) xs there in wrong at.0 at.1 (at.3 ∙ sym (eqb-true x at.1 at.4)) at.2 (cases_lt at.0 k)) where
  wrong : (j y : ℕ) → get_or xs j y ≡ x → j < length xs → (j < k) ⊎ (k ≤ j) → ⊥
  wrong j y same within (inl before) =
      let low : get_or xs j 0 < x = place.1 j before in
      let is : get_or xs j 0 ≡ x = get_or_default xs j 0 y within ∙ same in
      omega arith
  wrong j y same within (inr after) =
      let high : x < get_or xs j 0 = place.2 j after within in
      let is : get_or xs j 0 ≡ x = get_or_default xs j 0 y within ∙ same in
      omega arith

-- to enter a number in its place is to list it too
pub listed-entered : (p : ℕ → Bool) (n x : ℕ) (r : Result ℕ ℕ) → x < n → FoundAt (listed p n) x r → entered (listed p n) r x ≡ listed (λ y. eqb y x || p y) n
unfolding listed
listed-entered p n x (Ok k) below place =
    ap (λ q. listed q n) (λ i y. known y (cases_eq y x) i) where
      there : p x ≡ true
      there = (and_parts (p x) (ltb x n) (sym (list_any-filter_range p x n) ∙ any_found (listed p n) x k place)).0

      known : (y : ℕ) → (y ≡ x) ⊎ (y ≡ x → ⊥) → p y ≡ (eqb y x || p y)
      known y (inl same) = ap p same ∙ there ∙ sym (ap (λ b. b || p y) (eq-eqb y x same))
      known y (inr other) = sym (ap (λ b. b || p y) (ne_eqb y x other))
listed-entered p n x (Err k) below place =
    same_increasing _ _ (IsStrictlyIncreasing-insert (listed p n) x k (IsStrictlyIncreasing-filter_range p 0 n) place) (IsStrictlyIncreasing-filter_range (λ y. eqb y x || p y) 0 n) (λ q.
    any-insert q (listed p n) k x ∙ ap (λ b. eqb q x || b) (list_any-filter_range p q n) ∙ both q (cases_eq q x) ∙ sym (list_any-filter_range (λ y. eqb y x || p y) q n)) where
      both : (q : ℕ) → (q ≡ x) ⊎ (q ≡ x → ⊥) → (eqb q x || (p q && ltb q n)) ≡ ((eqb q x || p q) && ltb q n)
      both q (inl same) = let in_range : ltb q n ≡ true = lt-ltb q n (omega arith) in rw (eq-eqb q x same, in_range) refl
      both q (inr other) = rw (ne_eqb q x other) refl

-- a list without a number that isn't listed
filter-absent : (x : ℕ) (xs : List ℕ) → list_any (eqb x) xs ≡ false → filter (λ y. not (eqb y x)) xs ≡ xs
filter-absent x [] none = refl
filter-absent x (y ∷ xs) none =
    let parts = or_parts (eqb x y) (list_any (eqb x) xs) none in
    let other : eqb y x ≡ false = nat_eq_equiv.symm y x ∙ parts.0 in
    λ i. cond (not (other i)) (y ∷ filter-absent x xs parts.1 i) (filter-absent x xs parts.1 i)

-- what stands behind a number of a list that rises differs from it
pub behind_absent : (x : ℕ) (xs : List ℕ) → IsStrictlySortedBy nat_cmp (x ∷ xs) → list_any (eqb x) xs ≡ false
behind_absent x xs up = false_from_ne_true _ (λ there.
    let at = Any-from_list_any (eqb x) xs there in
    let within : at.0 < length xs = at.2 in
    let less : x < get_or xs at.0 at.1 = below_from_sorted (x ∷ xs) 0 (suc at.0) at.1 up (omega arith) (omega arith) in
    let is : get_or xs at.0 at.1 ≡ x = at.3 ∙ sym (eqb-true x at.1 at.4) in
    omega arith)

filter-remove : (x : ℕ) (xs : List ℕ) (k : ℕ) → IsStrictlySortedBy nat_cmp xs → k < length xs → get_or xs k 0 ≡ x → remove xs k ≡ filter (λ y. not (eqb y x)) xs
filter-remove x [] k up within is = absurd (omega arith)
filter-remove x (y ∷ xs) zero up within is =
    let same : eqb y x ≡ true = eq-eqb y x is in
    let absent : list_any (eqb x) xs ≡ false = ap (λ z. list_any (eqb z) xs) (sym is) ∙ behind_absent y xs up in
    sym ((λ i. cond (not (same i)) (y ∷ filter (λ z. not (eqb z x)) xs) (filter (λ z. not (eqb z x)) xs)) ∙ filter-absent x xs absent)
filter-remove x (y ∷ xs) (suc k) up within is =
    let less : y < get_or xs k 0 = below_from_sorted (y ∷ xs) 0 (suc k) 0 up (omega arith) within in
    let other : eqb y x ≡ false = ne_eqb y x (λ same. omega (arith, is, less, same)) in
    let rest : remove xs k ≡ filter (λ z. not (eqb z x)) xs = filter-remove x xs k (sorted_tail nat_cmp y xs up) (omega arith) is in
    ap (λ l. y ∷ l) rest ∙ sym (λ i. cond (not (other i)) (y ∷ filter (λ z. not (eqb z x)) xs) (filter (λ z. not (eqb z x)) xs))

-- to take a number out at its place is to keep the others
pub left-filter : (xs : List ℕ) (x : ℕ) (r : Result ℕ ℕ) → IsStrictlyIncreasing xs → FoundAt xs x r → left xs r ≡ filter (λ y. not (eqb y x)) xs
left-filter xs x (Ok k) up place = filter-remove x xs k (sorted_from_strictly_increasing xs up) place.0 place.1
left-filter xs x (Err k) up place = sym (filter-absent x xs (any_missed xs x k place))

pub listed-filter : (p : ℕ → Bool) (n : ℕ) (r : ℕ → Bool) → filter (λ y. not (r y)) (listed p n) ≡ listed (λ y. p y && not (r y)) n
unfolding listed
listed-filter p n r = filter-twice (λ y. not (r y)) p _
