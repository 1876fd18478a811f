-- Numbers that follow one another, taken out of lists that rise.
use Rattle.std.specs.Prelude.{◌≡◌, ℕ, zero, suc, ◌+◌, ◌-◌, ◌<◌, ◌≤◌, Bool, true, false, cond, not, ◌&&◌, ◌||◌, List, [], ◌∷◌, ◌++◌, length, take, drop, filter, replicate, Ok, Err, refl}
use Rattle.std.specs.List.{list_any}
use Rattle.std.specs.List.Sorted.{IsStrictlyIncreasing}
use Rattle.std.proofs.Common.{◌⊎◌, inl, inr, arith, sym, ap, ◌∙◌, eqb, ltb, get_or, set, get_or-set_same, get_or-set_other}
use Rattle.std.proofs.lemmas.Bool.{cases_eq, cases_order, cases_lt, cases_Bool, eq-eqb, ne_eqb, eqb-true, lt-ltb, le-ltb, and_parts, false_from_ne_true}
use Rattle.std.proofs.Math.Bool.{and-true, and-false}
use Rattle.std.proofs.lemmas.List.{get_or_default, get_or_past, get_or-replicate, length-replicate}
use Rattle.std.proofs.lemmas.List.Folds.{list_any_at, Any-from_list_any}
use Rattle.std.proofs.lemmas.List.Kept.{AllPairs-from_increasing}
use Rattle.mls_tables.specs.declared.limits.TheConstants.{MAX_SUBJECTS, MAX_OBJECTS}
use Rattle.mls_tables.specs.Rows.{cut, FoundAt, PartsAt, IsRows, TakenOut, is_in_run, listed}
use Rattle.mls_tables.specs.Held.{Indexes, Unlisted}
use Rattle.mls_tables.proofs.Indexes.{IsRows-same, list_any-listed, listed-none, one_more}

-- the place that a search found or missed parts a list that rises
pub parts_found : (xs : List ℕ) (x k : ℕ) → IsStrictlyIncreasing xs → FoundAt xs x (Ok k) → PartsAt xs x k
parts_found xs x k up place = record {
  within = omega (arith, place.0);
  less = λ j before. let step : get_or xs j 0 < get_or xs k 0 = AllPairs-from_increasing xs up j k 0 before place.0 in omega (arith, place.1);
  rest = λ j behind inside. from j inside (cases_order k j) behind;
} where
  from : (j : ℕ) → j < length xs → (k ≡ j) ⊎ ((k < j) ⊎ (j < k)) → k ≤ j → x ≤ get_or xs j 0
  from j inside (inl same) behind = let e : get_or xs k 0 ≡ get_or xs j 0 = ap (λ i. get_or xs i 0) same in omega (arith, place.1)
  from j inside (inr (inl less)) behind = let step : get_or xs k 0 < get_or xs j 0 = AllPairs-from_increasing xs up k j 0 less inside in omega (arith, place.1)
  from j inside (inr (inr more)) behind = absurd (omega arith)

pub parts_missed : (xs : List ℕ) (x k : ℕ) → FoundAt xs x (Err k) → PartsAt xs x k
parts_missed xs x k place = record {
  within = place.0;
  less = place.1;
  rest = λ j behind inside. let more : x < get_or xs j 0 = place.2 j behind inside in omega arith;
}

-- numbers that are less before a place, and from there on
pub less_both : (xs : List ℕ) (x from k : ℕ) → ((j : ℕ) → j < from → get_or xs j 0 < x) → ((j : ℕ) → from ≤ j → j < k → get_or xs j 0 < x) → (j : ℕ) → j < k → get_or xs j 0 < x
less_both xs x from k before behind j low = side (cases_lt j from) where
  side : (j < from) ⊎ (from ≤ j) → get_or xs j 0 < x
  side (inl less) = before j less
  side (inr more) = behind j more low

-- where a number that isn't less stands in a list that rises, none behind it is less
pub parts_at : (xs : List ℕ) (x k : ℕ) → IsStrictlyIncreasing xs → k < length xs → x ≤ get_or xs k 0 → ((j : ℕ) → j < k → get_or xs j 0 < x) → PartsAt xs x k
parts_at xs x k up within high low = record {
  within = omega arith;
  less = low;
  rest = λ j behind inside. from j inside (cases_order k j) behind;
} where
  from : (j : ℕ) → j < length xs → (k ≡ j) ⊎ ((k < j) ⊎ (j < k)) → k ≤ j → x ≤ get_or xs j 0
  from j inside (inl same) behind = let e : get_or xs k 0 ≡ get_or xs j 0 = ap (λ i. get_or xs i 0) same in omega arith
  from j inside (inr (inl less)) behind = let step : get_or xs k 0 < get_or xs j 0 = AllPairs-from_increasing xs up k j 0 less inside in omega arith
  from j inside (inr (inr more)) behind = absurd (omega arith)

-- what is cut out of a list is what a test refuses
cut-filter : (q : ℕ → Bool) (xs : List ℕ) (from to : ℕ) → from ≤ to → to ≤ length xs
    → ((j : ℕ) → j < from → q (get_or xs j 0) ≡ true) → ((j : ℕ) → from ≤ j → j < to → q (get_or xs j 0) ≡ false) → ((j : ℕ) → to ≤ j → j < length xs → q (get_or xs j 0) ≡ true)
    → take from xs ++ drop to xs ≡ filter q xs
cut-filter q [] zero zero order fits low mid high = refl
cut-filter q [] zero (suc to) order fits low mid high = absurd (omega arith)
cut-filter q [] (suc from) zero order fits low mid high = absurd (omega arith)
cut-filter q [] (suc from) (suc to) order fits low mid high = absurd (omega arith)
cut-filter q (y ∷ xs) (suc from) zero order fits low mid high = absurd (omega arith)
cut-filter q (y ∷ xs) zero zero order fits low mid high =
    let kept : q y ≡ true = high 0 (omega arith) (omega arith) in
    let rest : xs ≡ filter q xs = cut-filter q xs zero zero (omega arith) (omega arith) (λ j h. absurd (omega arith)) (λ j h i. absurd (omega arith)) (λ j h i. high (suc j) (omega arith) (omega arith)) in
    ap (λ l. y ∷ l) rest ∙ sym (λ i. cond (kept i) (y ∷ filter q xs) (filter q xs))
cut-filter q (y ∷ xs) zero (suc to) order fits low mid high =
    let gone : q y ≡ false = mid 0 (omega arith) (omega arith) in
    let rest : drop to xs ≡ filter q xs = cut-filter q xs zero to (omega arith) (omega arith) (λ j h. absurd (omega arith)) (λ j h i. mid (suc j) (omega arith) (omega arith)) (λ j h i. high (suc j) (omega arith) (omega arith)) in
    rest ∙ sym (λ i. cond (gone i) (y ∷ filter q xs) (filter q xs))
cut-filter q (y ∷ xs) (suc from) (suc to) order fits low mid high =
    let kept : q y ≡ true = low 0 (omega arith) in
    let rest : take from xs ++ drop to xs ≡ filter q xs = cut-filter q xs from to (omega arith) (omega arith) (λ j h. low (suc j) (omega arith)) (λ j h i. mid (suc j) (omega arith) (omega arith)) (λ j h i. high (suc j) (omega arith) (omega arith)) in
    ap (λ l. y ∷ l) rest ∙ sym (λ i. cond (kept i) (y ∷ filter q xs) (filter q xs))

below_run : (first end x : ℕ) → x < first → not (is_in_run first end x) ≡ true
below_run first end x less = ap (λ e. not (not e && ltb x end)) (lt-ltb x first less)

within_run : (first end x : ℕ) → first ≤ x → x < end → is_in_run first end x ≡ true
within_run first end x low high = λ i. not (le-ltb x first low i) && lt-ltb x end high i

behind_run : (first end x : ℕ) → end ≤ x → is_in_run first end x ≡ false
behind_run first end x high = ap (λ e. not (ltb x first) && e) (le-ltb x end high) ∙ and-false (not (ltb x first))

pub cut_run : (xs : List ℕ) (first end from to : ℕ) → first ≤ end → from ≤ to → PartsAt xs first from → PartsAt xs end to → cut xs from (to - from) ≡ filter (λ y. not (is_in_run first end y)) xs
cut_run xs first end from to order forth low high =
    let whole : from + (to - from) ≡ to = omega arith in
    ap (λ k. take from xs ++ drop k xs) whole
    ∙ cut-filter (λ y. not (is_in_run first end y)) xs from to forth high.within
    (λ j h. below_run first end (get_or xs j 0) (low.less j h))
    (λ j h i. ap not (within_run first end (get_or xs j 0) (low.rest j h (let w : to ≤ length xs = high.within in omega arith)) (high.less j i)))
    (λ j h i. ap not (behind_run first end (get_or xs j 0) (high.rest j h i)))

-- one row marked more
marked_is : (marks : List Bool) (s a : ℕ) → s < length marks → (get_or marks a false || eqb a s) ≡ get_or (set marks s true) a false
marked_is marks s a within = from (cases_eq a s) where
  from : (a ≡ s) ⊎ (a ≡ s → ⊥) → (get_or marks a false || eqb a s) ≡ get_or (set marks s true) a false
  from (inl same) = rw (same, eq-eqb s s refl) (or_true (get_or marks s false) ∙ sym (get_or-set_same marks s true false within)) where
    or_true : (b : Bool) → (b || true) ≡ true
    or_true true = refl
    or_true false = refl
  from (inr other) = rw (ne_eqb a s other) (or_false (get_or marks a false) ∙ sym (get_or-set_other marks s a true false other)) where
    or_false : (b : Bool) → (b || false) ≡ b
    or_false true = refl
    or_false false = refl

pub TakenOut-more : (marks : List Bool) (s first end : ℕ) (before lists lists' : List (List ℕ)) → s < length marks → TakenOut marks first end before lists
    → ((p : ℕ → ℕ → Bool) (n : ℕ) → IsRows p n lists → IsRows (λ a b. p a b && not (eqb a s && is_in_run first end b)) n lists')
    → TakenOut (set marks s true) first end before lists'
TakenOut-more marks s first end before lists lists' within taken step = record {
  told = λ p n rows.
      IsRows-same _ _ n lists' (λ a b. one_more (p a b) (get_or marks a false) (eqb a s) (is_in_run first end b) ∙ ap (λ e. p a b && not (e && is_in_run first end b)) (marked_is marks s a within))
      (step (λ a b. p a b && not (get_or marks a false && is_in_run first end b)) n (taken.told p n rows));
}

-- where no row is marked nothing is taken out
pub TakenOut-none : (n first end : ℕ) (lists : List (List ℕ)) → TakenOut (replicate n false) first end lists lists
TakenOut-none n first end lists = record {
  told = λ p m rows. IsRows-same _ _ m lists (λ a b. sym (and-true (p a b)) ∙ ap (λ e. p a b && not (e && is_in_run first end b)) (sym (none a (cases_lt a n)))) rows;
} where
  none : (a : ℕ) → (a < n) ⊎ (n ≤ a) → get_or (replicate n false) a false ≡ false
  none a (inl below) = get_or-replicate n a false false below
  none a (inr past) = let long : length (replicate n false) ≡ n = length-replicate n false in get_or_past (replicate n false) a false (omega arith)

-- all rows are marked that have something of the run
pub IsRows-taken : (marks : List Bool) (first end : ℕ) (objects subjects objects' : List (List ℕ)) (p : ℕ → ℕ → Bool) → TakenOut marks first end objects objects' → Indexes p objects subjects
    → ((b a : ℕ) → first ≤ b → b < end → list_any (eqb a) (get_or subjects b []) ≡ true → get_or marks a false ≡ true)
    → IsRows (λ a b. p a b && not (is_in_run first end b)) MAX_OBJECTS objects'
IsRows-taken marks first end objects subjects objects' p taken h all =
    IsRows-same _ _ MAX_OBJECTS objects' (λ a b. from a b (cases_Bool (p a b)) (cases_lt b first) (cases_lt b end)) (taken.told p MAX_OBJECTS h.rows) where
      from : (a b : ℕ) → (p a b ≡ true) ⊎ (p a b ≡ false) → (b < first) ⊎ (first ≤ b) → (b < end) ⊎ (end ≤ b) → (p a b && not (get_or marks a false && is_in_run first end b)) ≡ (p a b && not (is_in_run first end b))
      from a b (inr none) _ _ = rw none refl
      from a b (inl known) (inl low) _ = rw (lt-ltb b first low, and-false (get_or marks a false)) refl
      from a b (inl known) (inr high) (inl less) =
          let there : list_any (eqb a) (get_or subjects b []) ≡ true = ap (list_any (eqb a)) (h.columns b) ∙ list_any-listed (λ s. p s b) a MAX_SUBJECTS ∙ (λ i. known i && lt-ltb a MAX_SUBJECTS (h.within a b known).0 i) in
          ap (λ e. p a b && not (e && is_in_run first end b)) (all b a high less there)
      from a b (inl known) (inr high) (inr past) = rw (behind_run first end b past, and-false (get_or marks a false)) refl

-- and the lists of the run are emptied
pub Unlisted-run : (first end : ℕ) (objects subjects objects' subjects' : List (List ℕ))
    → ((p : ℕ → ℕ → Bool) → Indexes p objects subjects → IsRows (λ a b. p a b && not (is_in_run first end b)) MAX_OBJECTS objects')
    → ((o : ℕ) → get_or subjects' o [] ≡ cond (is_in_run first end o) [] (get_or subjects o []))
    → Unlisted (λ a b. is_in_run first end b) objects subjects objects' subjects'
Unlisted-run first end objects subjects objects' subjects' taken cleared = record {
  told = λ p h. record {
    within = λ a b there. h.within a b (and_parts (p a b) (not (is_in_run first end b)) there).0;
    rows = taken p h;
    columns = λ b. cleared b ∙ column p h b (cases_Bool (is_in_run first end b));
  };
} where
  column : (p : ℕ → ℕ → Bool) → Indexes p objects subjects → (b : ℕ) → (is_in_run first end b ≡ true) ⊎ (is_in_run first end b ≡ false) → cond (is_in_run first end b) [] (get_or subjects b []) ≡ listed (λ s. p s b && not (is_in_run first end b)) MAX_SUBJECTS
  column p h b (inl inside) = ap (λ e. cond e [] (get_or subjects b [])) inside ∙ sym (listed-none MAX_SUBJECTS _ (λ s. ap (λ e. p s b && not e) inside ∙ and-false (p s b)))
  column p h b (inr outside) = ap (λ e. cond e [] (get_or subjects b [])) outside ∙ h.columns b ∙ ap (λ q. listed q MAX_SUBJECTS) (λ i s. (sym (and-true (p s b)) ∙ ap (λ e. p s b && not e) (sym outside)) i)

-- one more list is emptied
pub cleared_more : (first k : ℕ) (lists now : List (List ℕ)) → first ≤ k → k < length now
    → ((o : ℕ) → get_or now o [] ≡ cond (is_in_run first k o) [] (get_or lists o []))
    → (o : ℕ) → get_or (set now k []) o [] ≡ cond (is_in_run first (k + 1) o) [] (get_or lists o [])
cleared_more first k lists now low within sofar o = from (cases_order o k) where
  from : (o ≡ k) ⊎ ((o < k) ⊎ (k < o)) → get_or (set now k []) o [] ≡ cond (is_in_run first (k + 1) o) [] (get_or lists o [])
  from (inl same) = ap (λ i. get_or (set now k []) i []) same ∙ get_or-set_same now k [] [] within ∙ ap (λ e. cond e [] (get_or lists o [])) (sym (within_run first (k + 1) o (omega arith) (omega arith)))
  from (inr (inl less)) = get_or-set_other now k o [] [] (λ same. omega arith) ∙ sofar o ∙ ap (λ e. cond (not (ltb o first) && e) [] (get_or lists o [])) (lt-ltb o k less ∙ sym (lt-ltb o (k + 1) (omega arith)))
  from (inr (inr more)) = get_or-set_other now k o [] [] (λ same. omega arith) ∙ sofar o ∙ ap (λ e. cond e [] (get_or lists o [])) (behind_run first k o (omega arith) ∙ sym (behind_run first (k + 1) o (omega arith)))

-- a run of no number
pub cleared_none : (first : ℕ) (lists : List (List ℕ)) (o : ℕ) → get_or lists o [] ≡ cond (is_in_run first first o) [] (get_or lists o [])
cleared_none first lists o = ap (λ e. cond e [] (get_or lists o [])) (sym (from (cases_lt o first))) where
  from : (o < first) ⊎ (first ≤ o) → is_in_run first first o ≡ false
  from (inl low) = ap (λ e. not e && ltb o first) (lt-ltb o first low)
  from (inr high) = behind_run first first o high

-- the objects of a run, as a list
pub any_in_run : (run : List ℕ) (first : ℕ) → ((k : ℕ) → k < length run → get_or run k 0 ≡ first + k) → (b : ℕ) → list_any (λ o. eqb o b) run ≡ is_in_run first (first + length run) b
any_in_run run first each b = from (cases_lt b first) (cases_lt b (first + length run)) where
  missed : (b < first) ⊎ (first + length run ≤ b) → list_any (λ o. eqb o b) run ≡ false
  missed out = false_from_ne_true _ (λ there. let at = Any-from_list_any (λ o. eqb o b) run there in wrong at.0 at.1 (at.3 ∙ eqb-true at.1 b at.4) at.2 out) where
    wrong : (k y : ℕ) → get_or run k y ≡ b → k < length run → (b < first) ⊎ (first + length run ≤ b) → ⊥
    wrong k y same within (inl low) = let is : first + k ≡ b = sym (each k within) ∙ get_or_default run k 0 y within ∙ same in omega arith
    wrong k y same within (inr high) = let is : first + k ≡ b = sym (each k within) ∙ get_or_default run k 0 y within ∙ same in omega arith

  from : (b < first) ⊎ (first ≤ b) → (b < first + length run) ⊎ (first + length run ≤ b) → list_any (λ o. eqb o b) run ≡ is_in_run first (first + length run) b
  from (inl low) _ = missed (inl low) ∙ sym (ap (λ e. not e && ltb b (first + length run)) (lt-ltb b first low))
  from (inr high) (inr past) = missed (inr past) ∙ sym (behind_run first (first + length run) b past)
  from (inr high) (inl less) =
      let within : b - first < length run = omega arith in
      let is : get_or run (b - first) 0 ≡ b = each (b - first) within ∙ (omega arith) in
      list_any_at (λ o. eqb o b) run (b - first) 0 within (eq-eqb _ b is) ∙ sym (within_run first (first + length run) b high less)
