-- What f gives of each item of a list, item by item.
use Rattle.std.proofs.Common.{◌≡◌, ℕ, zero, suc, ◌+◌, ◌<◌, ◌≤◌, true, false, List, [], ◌∷◌, ◌++◌, map, length, take, get_or, refl, ap, sym, ◌∙◌, Option, Some, None, option_map, is_some, arith}
use Rattle.std.proofs.lemmas.List.{length-map, map-id, map_more, map_push, take_all, get_or-map, get_or_default}
use Rattle.std.proofs.lemmas.Bool.{false≢true}
use Rattle.std.proofs.lemmas.Option.{none-some, same_Some}
use Rattle.mls_start_text.specs.Each.{having, each_of}

joined : {B : Type 0} (o : Option B) (p : Option (List B)) (q : Option B) → having o (λ b. having (having p (λ ys. having q (λ y. Some (ys ++ y ∷ [])))) (λ more. Some (b ∷ more))) ≡ having (having o (λ b. having p (λ more. Some (b ∷ more)))) (λ ys. having q (λ y. Some (ys ++ y ∷ [])))
joined None p q = refl
joined (Some b) None q = refl
joined (Some b) (Some ys) None = refl
joined (Some b) (Some ys) (Some y) = refl

nothing : {B C : Type 0} (o : Option B) → having {B = C} o (λ b. None) ≡ None
nothing None = refl
nothing (Some b) = refl

both_found : {B : Type 0} (o : Option (List B)) (p : Option B) → is_some o ≡ true → is_some p ≡ true → is_some (having o (λ ys. having p (λ y. Some (ys ++ y ∷ [])))) ≡ true
both_found None p h k = h
both_found (Some ys) None h k = k
both_found (Some ys) (Some y) h k = refl

none_found : {B : Type 0} (o : Option B) → is_some o ≡ false → o ≡ None
none_found None h = refl
none_found (Some b) h = absurd (false≢true (sym h))

length_joined : {A B : Type 0} (o : Option B) (p : Option (List B)) (ys : List B) (xs : List A) → having o (λ b. having p (λ more. Some (b ∷ more))) ≡ Some ys → ((zs : List B) → p ≡ Some zs → length zs ≡ length xs) → length ys ≡ suc (length xs)
length_joined None p ys xs made front = absurd (none-some ys made)
length_joined (Some b) None ys xs made front = absurd (none-some ys made)
length_joined (Some b) (Some zs) ys xs made front = ap length (sym (same_Some (b ∷ zs) ys made)) ∙ ap suc (front zs refl)

module _ {A B : Type 0} (f : A → Option B) where
  -- with one item more at the end
  pub each_last : (xs : List A) (x : A) → each_of f (xs ++ x ∷ []) ≡ having (each_of f xs) (λ ys. having (f x) (λ y. Some (ys ++ y ∷ [])))
  each_last [] x = refl
  each_last (a ∷ xs) x = ap (λ o. having (f a) (λ b. having o (λ more. Some (b ∷ more)))) (each_last xs x) ∙ joined (f a) (each_of f xs) (f x)

  -- with an item of which f gives nothing
  pub each_lacks : (xs : List A) (i : ℕ) (x : A) → i < length xs → x ≡ get_or xs i x → f x ≡ None → each_of f xs ≡ None
  each_lacks [] i x within is none = absurd (omega arith)
  each_lacks (a ∷ xs) zero x within is none = ap (λ o. having o (λ b. having (each_of f xs) (λ more. Some (b ∷ more)))) (ap f (sym is) ∙ none)
  each_lacks (a ∷ xs) (suc i) x within is none =
      ap (λ o. having (f a) (λ b. having o (λ more. Some (b ∷ more)))) (each_lacks xs i x (omega arith) is none) ∙ nothing (f a)

-- a list, seen item by item, of which a loop has made another
module _ {V A B : Type 0} (seen : V → A) (f : A → Option B) where
  -- with one item more
  pub each_taken : (vs : List V) (i : ℕ) (v : V) → i < length vs → v ≡ get_or vs i v → each_of f (map seen (take (i + 1) vs)) ≡ having (each_of f (map seen (take i vs))) (λ ys. having (f (seen v)) (λ y. Some (ys ++ y ∷ [])))
  each_taken vs i v within is =
      ap (each_of f) (map_more seen vs i v within ∙ ap (λ w. map seen (take i vs) ++ seen w ∷ []) (sym is))
      ∙ each_last f (map seen (take i vs)) (seen v)

  -- one item more
  pub items_more : (vs : List V) (i : ℕ) (v : V) (made more : List B) (b : B) → i < length vs → v ≡ get_or vs i v → f (seen v) ≡ Some b → more ≡ made ++ b ∷ [] → each_of f (map seen (take i vs)) ≡ Some made → each_of f (map seen (take (i + 1) vs)) ≡ Some more
  items_more vs i v made more b within is found push before =
      each_taken vs i v within is
      ∙ ap (λ o. having o (λ ys. having (f (seen v)) (λ y. Some (ys ++ y ∷ [])))) before
      ∙ ap (λ o. having o (λ y. Some (made ++ y ∷ []))) found
      ∙ ap (λ ys. Some ys) (sym push)

  -- the same, where the item is read with a default
  pub items_at_more : (vs : List V) (i : ℕ) (d : V) (made more : List B) (b : B) → i < length vs → f (seen (get_or vs i d)) ≡ Some b → more ≡ made ++ b ∷ [] → each_of f (map seen (take i vs)) ≡ Some made → each_of f (map seen (take (i + 1) vs)) ≡ Some more
  items_at_more vs i d made more b within found push before = items_more vs i (get_or vs i d) made more b within (get_or_default vs i d (get_or vs i d) within) found push before

  -- an item of which f gives nothing
  pub items_lack : (vs : List V) (i : ℕ) (v : V) → i < length vs → v ≡ get_or vs i v → f (seen v) ≡ None → each_of f (map seen vs) ≡ None
  items_lack vs i v within is none =
      each_lacks f (map seen vs) i (seen v) (omega (arith, length-map vs seen)) (ap seen is ∙ sym (get_or-map seen vs i v (seen v) within)) none

  -- the same, where the item is read with a default
  pub items_lack_at : (vs : List V) (i : ℕ) (d : V) → i < length vs → f (seen (get_or vs i d)) ≡ None → each_of f (map seen vs) ≡ None
  items_lack_at vs i d within none = items_lack vs i (get_or vs i d) within (get_or_default vs i d (get_or vs i d) within) none

-- a list, seen item by item, of which a loop has made rows
module _ {V A X B : Type 0} (seen : V → A) (f : A → Option B) (shown : X → B) where
  -- one item more
  pub rows_more : (vs : List V) (i : ℕ) (v : V) (rows more : List X) (row : X) → i < length vs → v ≡ get_or vs i v → f (seen v) ≡ Some (shown row) → more ≡ rows ++ row ∷ [] → each_of f (map seen (take i vs)) ≡ Some (map shown rows) → each_of f (map seen (take (i + 1) vs)) ≡ Some (map shown more)
  rows_more vs i v rows more row within is found push before =
      items_more seen f vs i v (map shown rows) (map shown more) (shown row) within is found (ap (map shown) push ∙ map_push shown rows row) before

-- a list, seen item by item, that a loop folds into what G makes of all that f gives
module _ {V A B C : Type 0} (seen : V → A) (f : A → Option B) (G : List B → C) (step : C → B → C) (one : (ys : List B) (y : B) → G (ys ++ y ∷ []) ≡ step (G ys) y) where
  step_more : (o : Option (List B)) (p : Option B) (made more : C) → option_map G o ≡ Some made → option_map (step made) p ≡ Some more → option_map G (having o (λ ys. having p (λ y. Some (ys ++ y ∷ [])))) ≡ Some more
  step_more None p made more before now = absurd (none-some made before)
  step_more (Some ys) None made more before now = absurd (none-some more now)
  step_more (Some ys) (Some y) made more before now = ap (λ c. Some c) (one ys y ∙ ap (λ c. step c y) (same_Some (G ys) made before)) ∙ now

  -- one item more
  pub fold_more : (vs : List V) (i : ℕ) (v : V) (made more : C) → i < length vs → v ≡ get_or vs i v → option_map (step made) (f (seen v)) ≡ Some more → option_map G (each_of f (map seen (take i vs))) ≡ Some made → option_map G (each_of f (map seen (take (i + 1) vs))) ≡ Some more
  fold_more vs i v made more within is now before =
      ap (option_map G) (each_taken seen f vs i v within is) ∙ step_more (each_of f (map seen (take i vs))) (f (seen v)) made more before now

-- a list, seen item by item, of which a loop asks whether f gives something of all items
module _ {V A B : Type 0} (seen : V → A) (f : A → Option B) where
  -- one item more
  pub some_more : (vs : List V) (i : ℕ) (v : V) → i < length vs → v ≡ get_or vs i v → is_some (f (seen v)) ≡ true → is_some (each_of f (map seen (take i vs))) ≡ true → is_some (each_of f (map seen (take (i + 1) vs))) ≡ true
  some_more vs i v within is found before =
      ap is_some (each_taken seen f vs i v within is) ∙ both_found (each_of f (map seen (take i vs))) (f (seen v)) before found

  -- an item of which f gives nothing
  pub some_lacks : (vs : List V) (i : ℕ) (v : V) → i < length vs → v ≡ get_or vs i v → is_some (f (seen v)) ≡ false → is_some (each_of f (map seen vs)) ≡ false
  some_lacks vs i v within is lacks = ap is_some (items_lack seen f vs i v within is (none_found (f (seen v)) lacks))

-- where f gives something of all items, there is as much of it as there are items
pub length_each : {A B : Type 0} (f : A → Option B) (xs : List A) (ys : List B) → each_of f xs ≡ Some ys → length ys ≡ length xs
length_each f [] ys made = ap length (sym (same_Some [] ys made))
length_each f (x ∷ xs) ys made = length_joined (f x) (each_of f xs) ys xs made (length_each f xs)

-- a list, item by item as it is
module _ {A B : Type 0} (f : A → Option B) where
  -- what a loop folds, with one item more
  pub own_fold_more : {C : Type 0} (G : List B → C) (step : C → B → C) (one : (ys : List B) (y : B) → G (ys ++ y ∷ []) ≡ step (G ys) y) (vs : List A) (i : ℕ) (v : A) (made more : C) → i < length vs → v ≡ get_or vs i v → option_map (step made) (f v) ≡ Some more → option_map G (each_of f (take i vs)) ≡ Some made → option_map G (each_of f (take (i + 1) vs)) ≡ Some more
  own_fold_more G step one vs i v made more within is now before =
      ap (λ ws. option_map G (each_of f ws)) (sym (map-id (take (i + 1) vs)))
      ∙ fold_more (λ (x : A). x) f G step one vs i v made more within is now (ap (λ ws. option_map G (each_of f ws)) (map-id (take i vs)) ∙ before)

  -- an item of which f gives nothing
  pub own_lack : (vs : List A) (i : ℕ) (v : A) → i < length vs → v ≡ get_or vs i v → f v ≡ None → each_of f vs ≡ None
  own_lack vs i v within is none = each_lacks f vs i v within is none

  -- whether f gives something of all items, with one more
  pub own_some_more : (vs : List A) (i : ℕ) (v : A) → i < length vs → v ≡ get_or vs i v → is_some (f v) ≡ true → is_some (each_of f (take i vs)) ≡ true → is_some (each_of f (take (i + 1) vs)) ≡ true
  own_some_more vs i v within is found before =
      ap (λ ws. is_some (each_of f ws)) (sym (map-id (take (i + 1) vs)))
      ∙ some_more (λ (x : A). x) f vs i v within is found (ap (λ ws. is_some (each_of f ws)) (map-id (take i vs)) ∙ before)

  -- whether it does, where it gives nothing of one
  pub own_some_lacks : (vs : List A) (i : ℕ) (v : A) → i < length vs → v ≡ get_or vs i v → is_some (f v) ≡ false → is_some (each_of f vs) ≡ false
  own_some_lacks vs i v within is lacks = ap is_some (own_lack vs i v within is (none_found (f v) lacks))

-- a list of which a loop has gone over all has as many rows as items
pub count_made : {V A B : Type 0} (seen : V → A) (f : A → Option B) (vs : List V) (i : ℕ) (made : List B) → length vs ≤ i → each_of f (map seen (take i vs)) ≡ Some made → length made ≡ length vs
count_made seen f vs i made past before = length_each f (map seen (take i vs)) made before ∙ length-map (take i vs) seen ∙ ap length (take_all i vs past)
