-- The values of a list, as they are seen, and places that are added twice.
use Rattle.std.proofs.Common.{◌≡◌, Bool, List, [], ◌∷◌, ◌++◌, Result, refl, ap, subst, ◌∙◌}
use Rattle.std.specs.Prelude.{OnOk}
use Rattle.std.proofs.lemmas.List.{append_assoc}
use Rattle.json.specs.Json.{Json}
use Rattle.json.specs.Value.{items_of}
use Rattle.mls_start_faults.specs.Places.{Located, Wrong, located}
use Rattle.mls_start_faults.specs.Repeated.{place_where, values_of}

-- the values of a list are those that it was made of
pub values_back : (js : List Json) → values_of (items_of js) ≡ js
values_back [] = refl
values_back (j ∷ js) = ap (λ rest. j ∷ rest) (values_back js)

-- places are added behind others
pub twice_pushed : {A B : Type 0} (r : Result A B) (old mid new a b : List Located) → mid ≡ old ++ a → OnOk r (new ≡ mid ++ b) → OnOk r (new ≡ old ++ (a ++ b))
twice_pushed r old mid new a b first second = subst (λ t. OnOk r (new ≡ t)) (ap (λ t. t ++ b) first ∙ append_assoc old a b) second

-- a place is added where something is so, told by what is equal
pub pushed_where : {A B : Type 0} (r : Result A B) (old new : List Located) (so so' : Bool) (w w' : Wrong) → so ≡ so' → w ≡ w'
    → OnOk r (new ≡ old ++ place_where so w) → OnOk r (new ≡ old ++ place_where so' w')
pushed_where r old new so so' w w' is same added =
    subst (λ b. OnOk r (new ≡ old ++ place_where b w')) is (subst (λ it. OnOk r (new ≡ old ++ place_where so it)) same added)

-- a place is added, told by what is equal
pub pushed : {A B : Type 0} (r : Result A B) (old new : List Located) (w w' : Wrong) → w ≡ w' → OnOk r (new ≡ old ++ located w) → OnOk r (new ≡ old ++ located w')
pushed r old new w w' same added = subst (λ it. OnOk r (new ≡ old ++ located it)) same added

-- places are added that are one place, told by what is equal
pub pushed_as : {A B : Type 0} (r : Result A B) (old new places : List Located) (w w' : Wrong) → w ≡ w' → located w' ≡ places → OnOk r (new ≡ old ++ located w) → OnOk r (new ≡ old ++ places)
pushed_as r old new places w w' same told added = subst (λ it. OnOk r (new ≡ old ++ it)) (ap located same ∙ told) added
