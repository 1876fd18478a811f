-- Lists seen as finite maps from places to what is kept there.
use Rattle.std.specs.Prelude.{◌≡◌, ℕ, zero, suc, ◌+◌, ◌<◌, ◌≤◌, Bool, true, false, cond, ◌&&◌, List, [], ◌∷◌, ◌++◌, length, Option, Some, None, slice_get, option_and_then, option_map, is_some, nat_lt, nat_eq, refl}
use Rattle.std.specs.Ordering.{nat_cmp}
use Rattle.std.specs.Cmp.{nat_cmp_total, unsigned_tied, nat_eq_equiv}
use Rattle.std.specs.FinMap as map
use Rattle.std.specs.FinSet as set
use Rattle.std.specs.FinMap.{FinMap, nat_cmp-IsAntisymmetric}
use Rattle.std.proofs.Common.{◌⊎◌, inl, inr, arith, sym, ◌∙◌, ap, get_or}
use Rattle.std.proofs.lemmas.Bool.{cases_lt, lt-ltb}
use Rattle.std.proofs.lemmas.Bool.Decides.{nat_tests}
use Rattle.std.proofs.lemmas.Option.{slice_get_past, slice_get_read}
use Rattle.mls_facts.specs.Numbered.{with_entry, numbered_from, numbered, holds_of, places_of}
use Rattle.mls_facts.proofs.Passing.{contains-passing}

module _ {X : Type 0} where
  get-with_entry_same : (e : Option X) (k : ℕ) (m : FinMap nat_cmp X) → map.get m k ≡ None → map.get (with_entry e k m) k ≡ e
  get-with_entry_same None k m none = none
  get-with_entry_same (Some x) k m none = map.get-insert nat_cmp_total m k x k ∙ ap (λ b. cond b (Some x) (map.get m k)) (unsigned_tied k k ∙ nat_eq_equiv.refl k)

  get-with_entry_other : (e : Option X) (k : ℕ) (m : FinMap nat_cmp X) (q : ℕ) → nat_eq q k ≡ false → map.get (with_entry e k m) q ≡ map.get m q
  get-with_entry_other None k m q other = refl
  get-with_entry_other (Some x) k m q other = map.get-insert nat_cmp_total m k x q ∙ ap (λ b. cond b (Some x) (map.get m q)) (unsigned_tied q k ∙ other)

module _ {A X : Type 0} (f : A → Option X) where
  none_below : (k : ℕ) (items : List A) (q : ℕ) → q < k → map.get (numbered_from f k items) q ≡ None
  none_below k [] q h = map.get-empty nat_cmp q
  none_below k (a ∷ items) q h =
      let other : nat_eq q k ≡ false = grind (arith, nat_tests) in
      let above : q < suc k = omega arith in
      get-with_entry_other (f a) k (numbered_from f (suc k) items) q other ∙ none_below (suc k) items q above

  get-numbered_from : (k : ℕ) (items : List A) (n : ℕ) → map.get (numbered_from f k items) (k + n) ≡ option_and_then f (slice_get items n)
  get-numbered_from k [] n = map.get-empty nat_cmp (k + n)
  get-numbered_from k (a ∷ items) zero =
      let here : k + 0 ≡ k = omega arith in
      let above : k < suc k = omega arith in
      rw here (get-with_entry_same (f a) k (numbered_from f (suc k) items) (none_below (suc k) items k above))
  get-numbered_from k (a ∷ items) (suc n) =
      let there : k + suc n ≡ suc k + n = omega arith in
      let other : nat_eq (suc k + n) k ≡ false = grind (arith, nat_tests) in
      rw there (get-with_entry_other (f a) k (numbered_from f (suc k) items) (suc k + n) other ∙ get-numbered_from (suc k) items n)

  -- what the map has at a place
  pub get-numbered : (items : List A) (n : ℕ) → map.get (numbered f items) n ≡ option_and_then f (slice_get items n)
  unfolding numbered
  get-numbered items n = let e : 0 + n ≡ n = omega arith in rw e at (get-numbered_from 0 items n)

  -- a place that the map has is in the list
  pub within-numbered : (items : List A) (n : ℕ) → is_some (map.get (numbered f items) n) ≡ true → n < length items
  within-numbered items n there = within_cases (cases_lt n (length items)) where
    within_cases : (n < length items) ⊎ (length items ≤ n) → n < length items
    within_cases (inl h) = h
    within_cases (inr h) = let none : map.get (numbered f items) n ≡ None = get-numbered items n ∙ ap (option_and_then f) (slice_get_past items n h) in let gone : is_some (map.get (numbered f items) n) ≡ false = ap is_some none in cc

  -- what the map has at the place of an item of the list
  pub get-numbered-read : (items : List A) (n : ℕ) (x : A) → n < length items → x ≡ get_or items n x → map.get (numbered f items) n ≡ f x
  get-numbered-read items n x within is = get-numbered items n ∙ ap (option_and_then f) (slice_get_read items (length items) n x refl within is)

  -- where the map has each place of the list, a place is in the map exactly where it is in the list
  pub is_some-numbered : ((a : A) → is_some (f a) ≡ true) → (items : List A) (n : ℕ) → is_some (map.get (numbered f items) n) ≡ nat_lt n (length items)
  is_some-numbered all items n = ap is_some (get-numbered items n) ∙ is_some-slice_get items n where
    is_some-slice_get : (items : List A) (n : ℕ) → is_some (option_and_then f (slice_get items n)) ≡ nat_lt n (length items)
    is_some-slice_get [] n = let none : nat_lt n 0 ≡ false = grind (arith, nat_tests) in sym none
    is_some-slice_get (a ∷ items) zero = let first : nat_lt 0 (length (a ∷ items)) ≡ true = grind (arith, nat_tests) in all a ∙ sym first
    is_some-slice_get (a ∷ items) (suc n) = let later : nat_lt (suc n) (length (a ∷ items)) ≡ nat_lt n (length items) = grind (arith, nat_tests) in is_some-slice_get items n ∙ sym later

-- whether the item at a place of the list passes a test, by the set of such places
pub contains-passing-read : {A : Type 0} (test : A → Bool) (items : List A) (n : ℕ) (x : A) → n < length items → x ≡ get_or items n x → set.contains (places_of test items) n ≡ test x
contains-passing-read test items n x within is =
    contains-passing (λ k. holds_of test (slice_get items k)) (length items) n
    ∙ (λ i. lt-ltb n (length items) within i && holds_of test (slice_get_read items (length items) n x refl within is i))

-- what the map has past the list
pub get-numbered-past : {A X : Type 0} (f : A → Option X) (items : List A) (n : ℕ) → length items ≤ n → map.get (numbered f items) n ≡ None
get-numbered-past f items n past = get-numbered f items n ∙ ap (option_and_then f) (slice_get_past items n past)

is_some-option_map : {A X : Type 0} (g : A → X) (x : Option A) → is_some x ≡ is_some (option_map g x)
is_some-option_map g None = refl
is_some-option_map g (Some x) = refl

-- whether the map has the place of an item of the list, where an item may be missing
pub is_some-numbered-read : {A X : Type 0} (g : A → X) (items : List (Option A)) (n : ℕ) (x : Option A) → n < length items → x ≡ get_or items n x → is_some x ≡ is_some (map.get (numbered (option_map g) items) n)
is_some-numbered-read g items n x within is = is_some-option_map g x ∙ ap is_some (sym (get-numbered-read (option_map g) items n x within is))

not_some : {A X : Type 0} (g : A → X) (x : Option A) → x ≡ None → is_some x ≡ true → ⊥
not_some g None e there = cc
not_some g (Some x) e there = cc

-- an item whose place the map has is not missing
pub not_missing : {A X : Type 0} (g : A → X) (items : List (Option A)) (n : ℕ) (x : Option A) → x ≡ get_or items n x → is_some (map.get (numbered (option_map g) items) n) ≡ true → x ≡ None → ⊥
not_missing g items n x is there none = not_some g x none (is_some-numbered-read g items n x (within-numbered (option_map g) items n there) is ∙ there)

module _ {A X : Type 0} (f : A → Option X) where
  at_pushed : (items : List A) (a : A) (x : X) (q : ℕ) → f a ≡ Some x → option_and_then f (slice_get (items ++ a ∷ []) q) ≡ cond (nat_eq q (length items)) (Some x) (option_and_then f (slice_get items q))
  at_pushed [] a x zero is = is
  at_pushed [] a x (suc q) is = let other : nat_eq (suc q) 0 ≡ false = grind (arith, nat_tests) in rw other refl
  at_pushed (y ∷ items) a x zero is = let other : nat_eq 0 (length (y ∷ items)) ≡ false = grind (arith, nat_tests) in rw other refl
  at_pushed (y ∷ items) a x (suc q) is = let next : nat_eq (suc q) (length (y ∷ items)) ≡ nat_eq q (length items) = grind (arith, nat_tests) in rw next (at_pushed items a x q is)

  -- to push an item is to enter it at the next place
  pub numbered-push : (items : List A) (a : A) (x : X) → f a ≡ Some x → numbered f (items ++ a ∷ []) ≡ map.insert (numbered f items) (length items) x
  numbered-push items a x is = map.same_map nat_cmp_total nat_cmp-IsAntisymmetric _ _ (λ q.
      get-numbered f (items ++ a ∷ []) q ∙ at_pushed items a x q is
      ∙ sym (map.get-insert nat_cmp_total (numbered f items) (length items) x q ∙ (λ i. cond (unsigned_tied q (length items) i) (Some x) (get-numbered f items q i))))

-- a list of one item, as a map
pub numbered-one : {A X : Type 0} (f : A → Option X) (a : A) (x : X) → f a ≡ Some x → numbered f (a ∷ []) ≡ map.insert map.empty 0 x
unfolding numbered
numbered-one f a x is = rw is refl

pub numbered-none : {A X : Type 0} (f : A → Option X) (a : A) → f a ≡ None → numbered f (a ∷ []) ≡ map.empty
unfolding numbered
numbered-none f a is = rw is refl

-- where the items of a list may be missing: the map of those that are there has at a place what the list has
pub get-numbered-option : {X : Type 0} (items : List (Option X)) (n : ℕ) → map.get (numbered (λ x. x) items) n ≡ get_or items n None
get-numbered-option {X = X} items n = get-numbered (λ x. x) items n ∙ read items n where
  read : (items : List (Option X)) (n : ℕ) → option_and_then (λ x. x) (slice_get items n) ≡ get_or items n None
  read [] n = refl
  read (x ∷ items) zero = refl
  read (x ∷ items) (suc n) = read items n
