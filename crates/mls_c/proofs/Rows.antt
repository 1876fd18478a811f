-- Rows that are put at the front of others, one after the other, and numbers that are counted.
use Rattle.std.proofs.Common.{◌≡◌, ℕ, ◌+◌, ◌<◌, ◌≤◌, Bool, true, false, List, [], ◌∷◌, ◌++◌, length, take, drop, get_or, set, map, cond, refl, sym, ap, subst, ◌∙◌, Some, None, nat_lt, arith}
use Rattle.std.proofs.lemmas.List.{append_assoc, drop_all, drop_more, length-append, length-map, length-take-le, map_more}
use Rattle.std.proofs.Math.Seq.{set-append_seam}
use Rattle.std.specs.List.{filter, find, range_with_len}
use Rattle.std.proofs.lemmas.Bool.Decides.{nat_tests}
use Rattle.std.proofs.lemmas.List.Elements.{filter-append}
use Rattle.std.proofs.lemmas.List.FromFn.{length-range_with_len, map-range_with_len_more}
use Rattle.mls_facts.proofs.Lists.{length-filter-le}

-- one row more
pub put_more : {X Y : Type 0} (f : X → Y) (xs : List X) (old now : List Y) (k : ℕ) (x : X) → k < length xs → k < length old
    → now ≡ map f (take k xs) ++ drop k old → x ≡ get_or xs k x → set now k (f x) ≡ map f (take (k + 1) xs) ++ drop (k + 1) old
put_more f xs old now k x within room so_far is =
    let front = map f (take k xs) in let rest = drop (k + 1) old in
    let many : length front ≡ k = length-map (take k xs) f ∙ length-take-le k xs (omega arith) in
    let now_is : now ≡ front ++ get_or old k (f x) ∷ rest = so_far ∙ ap (λ t. front ++ t) (drop_more old k (f x) room) in
    ap (λ t. set t k (f x)) now_is
    ∙ subst (λ n. set (front ++ get_or old k (f x) ∷ rest) n (f x) ≡ front ++ f x ∷ rest) many (set-append_seam front (get_or old k (f x)) rest (f x))
    ∙ sym (append_assoc front (f x ∷ []) rest)
    ∙ ap (λ t. t ++ rest) (sym (map_more f xs k x within ∙ ap (λ y. front ++ f y ∷ []) (sym is)))

map_same : {X : Type 0} (xs : List X) → map (λ x. x) xs ≡ xs
map_same [] = refl
map_same (x ∷ xs) = ap (λ t. x ∷ t) (map_same xs)

range_more : (a n j : ℕ) → a + n ≡ j → range_with_len a (n + 1) ≡ range_with_len a n ++ j ∷ []
range_more a n j is =
    sym (map_same (range_with_len a (n + 1))) ∙ map-range_with_len_more (λ x. x) a n j is ∙ ap (λ t. t ++ j ∷ []) (map_same (range_with_len a n))

-- how many numbers of a range pass, with one more
pub count_more : (p : ℕ → Bool) (n : ℕ) → length (filter p (range_with_len 0 (n + 1))) ≡ length (filter p (range_with_len 0 n)) + cond (p n) 1 0
count_more p n =
    ap (λ xs. length (filter p xs)) (range_more 0 n n (omega arith)) ∙ ap length (filter-append p (range_with_len 0 n) (n ∷ []))
    ∙ length-append (filter p (range_with_len 0 n)) (filter p (n ∷ [])) ∙ ap (λ k. length (filter p (range_with_len 0 n)) + k) (one (p n) refl) where
      one : (b : Bool) → p n ≡ b → length (filter p (n ∷ [])) ≡ cond (p n) 1 0
      one true is = rw is refl
      one false is = rw is refl

-- no more numbers pass than there are
pub count_few : (p : ℕ → Bool) (n : ℕ) → length (filter p (range_with_len 0 n)) ≤ n
count_few p n = subst (λ k. length (filter p (range_with_len 0 n)) ≤ k) (length-range_with_len 0 n) (length-filter-le p (range_with_len 0 n))

find_past : (above x : ℕ) (rest : List ℕ) → nat_lt above x ≡ false → find (λ c. nat_lt above c) (x ∷ rest) ≡ find (λ c. nat_lt above c) rest
find_past above x rest low = ap (λ b. cond b (Some x) (find (λ c. nat_lt above c) rest)) low

find_first : (above x : ℕ) (rest : List ℕ) → nat_lt above x ≡ true → find (λ c. nat_lt above c) (x ∷ rest) ≡ Some x
find_first above x rest high = ap (λ b. cond b (Some x) (find (λ c. nat_lt above c) rest)) high

next_of : (above : ℕ) (xs : List ℕ) (k x : ℕ) → k < length xs → x ≡ get_or xs k x
    → find (λ c. nat_lt above c) (drop k xs) ≡ find (λ c. nat_lt above c) (x ∷ drop (k + 1) xs)
next_of above xs k x within is =
    ap (find (λ c. nat_lt above c)) (drop_more xs k x within ∙ ap (λ y. y ∷ drop (k + 1) xs) (sym is))

-- none so far is above a number
pub not_yet : (above : ℕ) (xs : List ℕ) (k x : ℕ) → k < length xs → x ≡ get_or xs k x → x ≤ above
    → find (λ c. nat_lt above c) (drop k xs) ≡ find (λ c. nat_lt above c) xs → find (λ c. nat_lt above c) (drop (k + 1) xs) ≡ find (λ c. nat_lt above c) xs
not_yet above xs k x within is low so_far =
    let isnt : nat_lt above x ≡ false = grind (arith, nat_tests) in
    sym (find_past above x (drop (k + 1) xs) isnt) ∙ sym (next_of above xs k x within is) ∙ so_far

-- the first that is above it
pub is_here : (above : ℕ) (xs : List ℕ) (k x : ℕ) → k < length xs → x ≡ get_or xs k x → above < x
    → find (λ c. nat_lt above c) (drop k xs) ≡ find (λ c. nat_lt above c) xs → Some x ≡ find (λ c. nat_lt above c) xs
is_here above xs k x within is high so_far =
    let so : nat_lt above x ≡ true = grind (arith, nat_tests) in
    sym (find_first above x (drop (k + 1) xs) so) ∙ sym (next_of above xs k x within is) ∙ so_far

-- none is above it
pub is_nowhere : (above : ℕ) (xs : List ℕ) (k : ℕ) → length xs ≤ k → find (λ c. nat_lt above c) (drop k xs) ≡ find (λ c. nat_lt above c) xs
    → None ≡ find (λ c. nat_lt above c) xs
is_nowhere above xs k end so_far = ap (find (λ c. nat_lt above c)) (sym (drop_all k xs end)) ∙ so_far
