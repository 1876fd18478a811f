-- The places of names are below how many names there are.
use Rattle.std.proofs.Common.{◌≡◌, ℕ, suc, ◌<◌, Bool, true, false, cond, List, [], ◌∷◌, map, length, refl, subst, Option, Some, None, option_map, All, IfSome, arith}
use Rattle.std.specs.List.{flat_map}
use Rattle.std.specs.Str.{bytes_eq}
use Rattle.std.proofs.lemmas.List.{length-map, get_or-map}
use Rattle.std.proofs.lemmas.List.Elements.{All-nil, All-cons, All-append}
use Rattle.std.proofs.lemmas.Option.{none-some, same_Some}
use Rattle.mls_labels.specs.Reading.{place_of}
use Rattle.mls_labels.specs.Scheme.{Scheme}
use Rattle.mls_requests.specs.ModeWords.{read_mode}
use Rattle.mls_state.specs.declared.subject.ObjectLabels.{ObjectLabels}
use Rattle.mls_tables.specs.Triples.{Triple}
use Rattle.mls_tables.specs.declared.mode.Mode.{Mode}
use Rattle.mls_start_text.specs.Below.{HasParentBelow, IsPlacedBelow}
use Rattle.mls_start_text.specs.Each.{having, each_of}
use Rattle.mls_start_text.specs.Labelling.{object_labels, labelled_child}
use Rattle.mls_start_text.specs.PlaceViews.{triple_view}
use Rattle.mls_start_text.specs.Placing.{cell_triples, triples_of}
use Rattle.mls_start_text.specs.Texts.{SaidChild, SaidCell}
use Rattle.mls_start_text.specs.declared.labels.LabelledChild.{LabelledChild}
use Rattle.mls_start_text.specs.declared.places.PlacedTriple.{PlacedTriple}

next_below : (found : Bool) (o : Option ℕ) (n : ℕ) → IfSome o (λ k. k < n) → IfSome (cond found (Some 0) (option_map (λ k. suc k) o)) (λ k. k < suc n)
next_below true o n h = omega arith
next_below false None n h = h
next_below false (Some k) n h = omega arith

-- a name's place is below how many there are
pub place_below : (names : List (List ℕ)) (name : List ℕ) → IfSome (place_of names name) (λ n. n < length names)
unfolding place_of
place_below [] name = tt
place_below (other ∷ names) name = next_below (bytes_eq name other) (place_of names name) (length names) (place_below names name)

joined_all : {B : Type 0} (P : B → Type 0) (o : Option B) (p : Option (List B)) (ys : List B) → ((b : B) → o ≡ Some b → P b) → ((zs : List B) → p ≡ Some zs → All P zs) → having o (λ b. having p (λ more. Some (b ∷ more))) ≡ Some ys → All P ys
joined_all P None p ys first others made = absurd (none-some ys made)
joined_all P (Some b) None ys first others made = absurd (none-some ys made)
joined_all P (Some b) (Some zs) ys first others made = subst (All P) (same_Some (b ∷ zs) ys made) (All-cons P b zs (first b refl) (others zs refl))

module _ {A B : Type 0} (P : B → Type 0) where
  -- what holds of all that f gives holds of each thing that it gave of a list
  pub all_each : (f : A → Option B) → ((a : A) (b : B) → f a ≡ Some b → P b) → (xs : List A) (ys : List B) → each_of f xs ≡ Some ys → All P ys
  all_each f holds [] ys made = subst (All P) (same_Some [] ys made) (All-nil P)
  all_each f holds (x ∷ xs) ys made = joined_all P (f x) (each_of f xs) ys (holds x) (all_each f holds xs) made

row_below : (n : ℕ) (o : Option ObjectLabels) (place : Option ℕ) (row : LabelledChild) → IfSome place (λ k. k < n) → having o (λ labels. Some (record { parent = place; labels = labels })) ≡ Some row → HasParentBelow n row
row_below n None place row below made = absurd (none-some row made)
row_below n (Some labels) place row below made = subst (HasParentBelow n) (same_Some (record { parent = place; labels = labels }) row made) below

-- the parents of labelled objects are below how many names there are
pub parents_below : (security integrity : Scheme) (names : List (List ℕ)) (cs : List SaidChild) (rows : List LabelledChild) → each_of (labelled_child security integrity names) cs ≡ Some rows → All (HasParentBelow (length names)) rows
parents_below security integrity names cs rows made =
    all_each (HasParentBelow (length names)) (labelled_child security integrity names)
    (λ (c : SaidChild) (row : LabelledChild) is. row_below (length names) (object_labels security integrity c.object) (place_of names c.parent) row (place_below names c.parent) is) cs rows made

-- a triple names one of so many subjects and one of so many objects
abbrev Within : ℕ → ℕ → Triple → Type 0
Within n m t = (t.0 < n) × (t.1 < m)

modes_within : (n m s o : ℕ) → s < n → o < m → (xs : List Mode) → All (Within n m) (map (λ x. (s, o, x)) xs)
modes_within n m s o subject object [] = All-nil (Within n m)
modes_within n m s o subject object (x ∷ xs) = All-cons (Within n m) (s, o, x) (map (λ y. (s, o, y)) xs) (subject, object) (modes_within n m s o subject object xs)

cell_within : (n m : ℕ) (p q : Option ℕ) (modes : Option (List Mode)) (ts : List Triple) → IfSome p (λ k. k < n) → IfSome q (λ k. k < m) → having p (λ s. having q (λ o. option_map (map (λ x. (s, o, x))) modes)) ≡ Some ts → All (Within n m) ts
cell_within n m None q modes ts subject object made = absurd (none-some ts made)
cell_within n m (Some s) None modes ts subject object made = absurd (none-some ts made)
cell_within n m (Some s) (Some o) None ts subject object made = absurd (none-some ts made)
cell_within n m (Some s) (Some o) (Some xs) ts subject object made = subst (All (Within n m)) (same_Some (map (λ x. (s, o, x)) xs) ts made) (modes_within n m s o subject object xs)

flat_within : (n m : ℕ) (groups : List (List Triple)) → All (All (Within n m)) groups → All (Within n m) (flat_map (λ ts. ts) groups)
flat_within n m [] all = All-nil (Within n m)
flat_within n m (ts ∷ groups) all = All-append (Within n m) ts (flat_map (λ us. us) groups) (all 0 [] (omega arith)) (flat_within n m groups (λ k d h. all (suc k) d (omega arith)))

groups_within : (n m : ℕ) (o : Option (List (List Triple))) (ts : List Triple) → ((groups : List (List Triple)) → o ≡ Some groups → All (All (Within n m)) groups) → option_map (flat_map (λ us. us)) o ≡ Some ts → All (Within n m) ts
groups_within n m None ts all made = absurd (none-some ts made)
groups_within n m (Some groups) ts all made = subst (All (Within n m)) (same_Some (flat_map (λ us. us) groups) ts made) (flat_within n m groups (all groups refl))

-- the places of the triples that cells permit are below how many names there are
pub triples_below : (subjects objects : List (List ℕ)) (cells : List SaidCell) (ts : List PlacedTriple) → triples_of subjects objects cells ≡ Some (map triple_view ts) → All (IsPlacedBelow (length subjects) (length objects)) ts
triples_below subjects objects cells ts made =
    let within : All (Within (length subjects) (length objects)) (map triple_view ts) =
    groups_within (length subjects) (length objects) (each_of (cell_triples subjects objects) cells) (map triple_view ts)
    (all_each (All (Within (length subjects) (length objects))) (cell_triples subjects objects)
    (λ (c : SaidCell) (us : List Triple) is. cell_within (length subjects) (length objects) (place_of subjects c.subject) (place_of objects c.object) (each_of read_mode c.modes) us (place_below subjects c.subject) (place_below objects c.object) is) cells) made
    in
    λ k d h. subst (Within (length subjects) (length objects)) (get_or-map triple_view ts k d (triple_view d) h) (within k (triple_view d) (omega (arith, length-map ts triple_view)))
