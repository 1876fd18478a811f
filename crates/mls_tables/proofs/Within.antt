-- That each triple names a subject and an object within two bounds, as a set changes, and how a group of objects is taken out one by one.
use Rattle.std.proofs.Common.{◌≡◌, ℕ, ◌+◌, ◌<◌, Bool, true, false, nat_eq, refl, sym, ap, ◌∙◌, ◌⊎◌, inl, inr, arith, List, [], ◌∷◌}
use Rattle.std.specs.Prelude.{not, ◌&&◌, ◌||◌, filter}
use Rattle.std.specs.List.{list_any}
use Rattle.std.specs.Cmp.{nat_eq_equiv}
use Rattle.std.specs.FinSet as set
use Rattle.std.proofs.Math.Bool.{and-true}
use Rattle.std.proofs.lemmas.Bool.{and_parts, or_cases}
use Rattle.mls_tables.specs.Triples.{Triple, TripleSet, triple_cmp, is_triple}
use Rattle.mls_tables.specs.Table.{IsWithin, without_object, without_objects}
use Rattle.mls_tables.proofs.Laws.{same_triples, is_triple-true, contains-insert-triple, contains-from_list-filter, contains-without_object, contains-without_objects}

pub IsWithin-empty : (n m : ℕ) → IsWithin n m set.empty
IsWithin-empty n m t there = let none : set.contains set.empty t ≡ false = set.contains-empty triple_cmp t in let wrong : false ≡ true = sym none ∙ there in absurd (cc)

within_either : (n m : ℕ) (ts : TripleSet) (u t : Triple) → IsWithin n m ts → u.0 < n → u.1 < m → (is_triple t u ≡ true) ⊎ (set.contains ts t ≡ true) → (t.0 < n) × (t.1 < m)
within_either n m ts u t within first second (inl same) = let is : t ≡ u = is_triple-true t u same in rw is (first, second)
within_either n m ts u t within first second (inr there) = within t there

pub IsWithin-insert : (n m : ℕ) (ts : TripleSet) (u : Triple) → IsWithin n m ts → u.0 < n → u.1 < m → IsWithin n m (set.insert ts u)
IsWithin-insert n m ts u within first second t there = within_either n m ts u t within first second (or_cases (is_triple t u) (set.contains ts t) (sym (contains-insert-triple ts u t) ∙ there))

-- what a test keeps of a list is within the bounds of the list
pub IsWithin-kept : (n m : ℕ) (p : Triple → Bool) (ts kept : List Triple) → kept ≡ filter p ts → IsWithin n m (set.from_list ts) → IsWithin n m (set.from_list kept)
IsWithin-kept n m p ts kept is within t there =
    within t (and_parts (p t) (set.contains (set.from_list ts) t) (sym (contains-from_list-filter p ts t) ∙ ap (λ us. set.contains (set.from_list {R = triple_cmp} us) t) (sym is) ∙ there)).1

-- one column more
pub IsWithin-more : (n m : ℕ) (ts : TripleSet) → IsWithin n m ts → IsWithin n (m + 1) ts
IsWithin-more n m ts within t there = let bounds : (t.0 < n) × (t.1 < m) = within t there in (bounds.0, omega (arith, bounds.1))

not_either : (a b c : Bool) → ((a && not b) && not c) ≡ (a && not (b || c))
not_either true true c = refl
not_either true false c = refl
not_either false b c = refl

-- to remove one object's triples, and then those of more, is to remove those of all
pub without_objects-first : (ts : TripleSet) (o : ℕ) (group : List ℕ) → without_objects (without_object ts o) group ≡ without_objects ts (o ∷ group)
without_objects-first ts o group = same_triples _ _ (λ t.
    contains-without_objects (without_object ts o) group t
    ∙ ap (λ b. b && not (list_any (λ x. nat_eq x t.1) group)) (contains-without_object ts o t)
    ∙ (λ i. (set.contains ts t && not (nat_eq_equiv.symm t.1 o i)) && not (list_any (λ x. nat_eq x t.1) group))
    ∙ not_either (set.contains ts t) (nat_eq o t.1) (list_any (λ x. nat_eq x t.1) group)
    ∙ sym (contains-without_objects ts (o ∷ group) t))

-- of no object none goes
pub without_objects-none : (ts : TripleSet) → without_objects ts [] ≡ ts
without_objects-none ts = same_triples _ _ (λ t. contains-without_objects ts [] t ∙ and-true (set.contains ts t))
