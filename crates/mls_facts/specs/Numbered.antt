-- A list seen as a finite map from places to what is kept there.
use Rattle.std.specs.Prelude.{ℕ, suc, Bool, false, List, [], ◌∷◌, length, Option, Some, None, slice_get}
use Rattle.std.specs.Ordering.{nat_cmp}
use Rattle.std.specs.FinMap as map
use Rattle.std.specs.FinMap.{FinMap}
use Rattle.std.specs.FinSet as set
use Rattle.mls_facts.specs.Passing.{passing}

-- The map with an entry, where there is a value for it. (own)
abbrev pub with_entry : {X : Type 0} → Option X → ℕ → FinMap nat_cmp X → FinMap nat_cmp X
with_entry None k m = m
with_entry (Some x) k m = map.insert m k x

-- From each place of the list, counted from k, to what f gives of the item there, where it gives something. (own)
abbrev pub numbered_from : {A X : Type 0} → (A → Option X) → ℕ → List A → FinMap nat_cmp X
numbered_from f k [] = map.empty
numbered_from f k (a ∷ items) = with_entry (f a) k (numbered_from f (suc k) items)

-- From each place of the list to what f gives of the item there, where it gives something. (own)
unfoldable pub numbered : {A X : Type 0} → (A → Option X) → List A → FinMap nat_cmp X
numbered f items = numbered_from f 0 items

-- Whether there is a value, and it passes the test. (own)
abbrev pub holds_of : {X : Type 0} → (X → Bool) → Option X → Bool
holds_of test None = false
holds_of test (Some x) = test x

-- The places of the items that pass a test. (own)
abbrev pub places_of : {A : Type 0} → (A → Bool) → List A → set.FinSet nat_cmp
places_of test items = passing (λ k. holds_of test (slice_get items k)) (length items)
