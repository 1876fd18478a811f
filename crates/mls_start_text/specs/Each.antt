-- What can fail for one item, over a whole list.
use Rattle.std.specs.Prelude.{List, [], ◌∷◌, Option, Some, option_and_then}

-- What next gives of a value, where there is one. (own)
abbrev pub having : {A B : Type 0} → Option A → (A → Option B) → Option B
having o next = option_and_then next o

-- What f gives of each item, where it gives something of all of them. (own)
abbrev pub each_of : {A B : Type 0} → (A → Option B) → List A → Option (List B)
each_of f [] = Some []
each_of f (a ∷ items) = having (f a) (λ b. having (each_of f items) (λ more. Some (b ∷ more)))
