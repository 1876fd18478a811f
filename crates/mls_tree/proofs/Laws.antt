-- What other crates may know of the tree's definitions.
use Rattle.std.proofs.Common.{◌≡◌, ℕ, ◌+◌, ◌<◌, ◌≤◌, Bool, true, false, not, ◌&&◌, ◌||◌, nat_eq, eqb, IsTrue, length, get_or, Some, refl, sym, ◌∙◌, ◌↔◌}
use Rattle.std.proofs.lemmas.Bool.{eq-eqb}
use Rattle.std.proofs.lemmas.List.Folds.{list_any_at}
use Rattle.std.proofs.lemmas.Map.Keys.{sorted_from_strictly_increasing, non_decreasing_from_sorted}
use Rattle.std.specs.List.{list_any}
use Rattle.std.specs.List.Sorted.{IsStrictlyIncreasing, IsNonDecreasing}
use Rattle.std.specs.Ordering.{nat_cmp}
use Rattle.std.specs.FinMap as map
use Rattle.std.specs.FinMap.{FinMap}
use Rattle.mls_tables.specs.declared.limits.TheConstants.{MAX_OBJECTS}
use Rattle.mls_tree.specs.Tree.{IsTree, Reaches, is_active, is_child, is_inferior, children, inferiors, HasNext, next_number}
use Rattle.mls_tree.specs.declared.profile.Profile.{Profile}
use Rattle.mls_tree.proofs.Grown as grown
use Rattle.mls_tree.proofs.Inferiors as below
use Rattle.mls_tree.proofs.Listed as listed
use Rattle.mls_tree.proofs.Next as next

-- A tree stays one with a number that isn't active below an active object.
pub IsTree-insert : (parent : FinMap nat_cmp ℕ) (active : ℕ → Bool) (n p : ℕ) → IsTree parent active → active n ≡ false
    → (more : ℕ → Bool) → ((o : ℕ) → more o ≡ (nat_eq o n || active o)) → IsTrue (active p) → n < MAX_OBJECTS
    → IsTree (map.insert parent n p) more
IsTree-insert = grown.IsTree-insert

-- A tree stays one without the inferiors of an object other than the root.
pub IsTree-retain : (parent : FinMap nat_cmp ℕ) (active : ℕ → Bool) → IsTree parent active
    → (a : ℕ) → (a ≡ 0 → ⊥) → (left : ℕ → Bool) → ((o : ℕ) → left o ≡ (active o && not (is_inferior parent o a)))
    → IsTree (map.retain_keys parent (λ x. not (is_inferior parent x a))) left
IsTree-retain = below.IsTree-retain

-- The next number of a profile, where there is one, isn't active.
pub next_free : (profile : Profile) (active : ℕ → Bool) (n : ℕ) → HasNext profile active n → n < MAX_OBJECTS → active n ≡ false
next_free = next.next_free

-- After the next number became active there is again one.
pub HasNext-insert : (profile : Profile) (active more : ℕ → Bool) (n : ℕ) → HasNext profile active n → n < MAX_OBJECTS
    → ((o : ℕ) → more o ≡ (nat_eq o n || active o)) → HasNext profile more (next_number profile (n + 1) more)
HasNext-insert = next.HasNext-insert

-- And so after some numbers became inactive.
pub HasNext-retain : (profile : Profile) (active left : ℕ → Bool) (n : ℕ) → HasNext profile active n
    → ((o : ℕ) → left o ≡ true → active o ≡ true) → HasNext profile left (next_number profile n left)
HasNext-retain = next.HasNext-retain

-- A number above all that are active gives a next one.
pub HasNext-above : (profile : Profile) (active : ℕ → Bool) (n : ℕ) → n ≤ MAX_OBJECTS → ((o : ℕ) → IsTrue (active o) → o < n)
    → HasNext profile active (next_number profile n active)
HasNext-above = next.HasNext-above

-- Where a number is above all that are active, and at least the one that is given, the next number is at most that.
pub next_most : (profile : Profile) (active : ℕ → Bool) (given n : ℕ) → given ≤ n → ((o : ℕ) → IsTrue (active o) → o < n) → next_number profile given active ≤ n
next_most = next.next_most

-- Tests that agree have one next number.
pub next_number-same : (profile : Profile) (given : ℕ) (p q : ℕ → Bool) → ((o : ℕ) → p o ≡ q o) → next_number profile given p ≡ next_number profile given q
next_number-same = next.next_number-same

-- With one object more just that one becomes active.
pub is_active-insert : (parent : FinMap nat_cmp ℕ) (n p o : ℕ) → is_active (map.insert parent n p) o ≡ (nat_eq o n || is_active parent o)
is_active-insert = grown.is_active-insert

-- Without the inferiors of an object other than the root, what is no inferior stays active.
pub is_active-retain : (parent : FinMap nat_cmp ℕ) (a : ℕ) → IsTree parent (is_active parent) → (a ≡ 0 → ⊥) → (o : ℕ)
    → is_active (map.retain_keys parent (λ x. not (is_inferior parent x a))) o ≡ (is_active parent o && not (is_inferior parent o a))
is_active-retain = below.is_active-retain

-- What is active in a tree is the root, or has a parent.
pub is_active-tree : (parent : FinMap nat_cmp ℕ) (active : ℕ → Bool) → IsTree parent active → (o : ℕ) → active o ≡ is_active parent o
is_active-tree = below.is_active-tree

-- An inferior is active and reaches the object, and the other way round.
pub is_inferior-Reaches : (parent : FinMap nat_cmp ℕ) (active : ℕ → Bool) → IsTree parent active
    → (o a : ℕ) → IsTrue (is_inferior parent o a) ↔ (IsTrue (active o) × Reaches parent o a)
is_inferior-Reaches = below.is_inferior-Reaches

-- What is below an inferior is an inferior.
pub inferior_below : (parent : FinMap nat_cmp ℕ) (active : ℕ → Bool) → IsTree parent active
    → (o p a : ℕ) → map.get parent o ≡ Some p → is_inferior parent p a ≡ true → is_inferior parent o a ≡ true
inferior_below = below.inferior_below

-- An inferior is active.
pub inferior_active : (parent : FinMap nat_cmp ℕ) (active : ℕ → Bool) → IsTree parent active
    → (o a : ℕ) → is_inferior parent o a ≡ true → IsTrue (active o)
inferior_active = below.inferior_active

-- Where an object is a child of another, the other is its parent.
pub parent_from_child : (parent : FinMap nat_cmp ℕ) (c o : ℕ) → is_child parent c o ≡ true → map.get parent c ≡ Some o
parent_from_child = listed.parent_from_child

-- Where an object is the parent of another, the other is its child.
pub child_from_parent : (parent : FinMap nat_cmp ℕ) (c o : ℕ) → map.get parent c ≡ Some o → is_child parent c o ≡ true
child_from_parent = listed.child_from_parent

-- The list of the children of an object has just the objects whose parent it is.
pub list_any-children : (parent : FinMap nat_cmp ℕ) → IsTree parent (is_active parent) → (c o : ℕ) → list_any (eqb c) (children parent o) ≡ is_child parent c o
list_any-children = listed.list_any-children

-- The list of the inferiors of an object has just its inferiors.
pub list_any-inferiors : (parent : FinMap nat_cmp ℕ) → IsTree parent (is_active parent) → (x o : ℕ) → list_any (eqb x) (inferiors parent o) ≡ is_inferior parent x o
list_any-inferiors = listed.list_any-inferiors

-- The list of the inferiors of an object is in order, and has none twice.
pub IsStrictlyIncreasing-inferiors : (parent : FinMap nat_cmp ℕ) (o : ℕ) → IsStrictlyIncreasing (inferiors parent o)
IsStrictlyIncreasing-inferiors = listed.IsStrictlyIncreasing-inferiors

-- It is in order.
pub IsNonDecreasing-inferiors : (parent : FinMap nat_cmp ℕ) (o : ℕ) → IsNonDecreasing (inferiors parent o)
IsNonDecreasing-inferiors parent o = non_decreasing_from_sorted (inferiors parent o) (sorted_from_strictly_increasing (inferiors parent o) (IsStrictlyIncreasing-inferiors parent o))

-- Each inferior that is listed is active.
pub inferiors_active : (parent : FinMap nat_cmp ℕ) (o : ℕ) → IsTree parent (is_active parent) → (k d : ℕ) → k < length (inferiors parent o) → is_active parent (get_or (inferiors parent o) k d) ≡ true
inferiors_active parent o tree k d within =
    let x : ℕ = get_or (inferiors parent o) k d in
    let there : list_any (eqb x) (inferiors parent o) ≡ true = list_any_at (eqb x) (inferiors parent o) k d within (eq-eqb x x refl) in
    inferior_active parent (is_active parent) tree x o (sym (list_any-inferiors parent tree x o) ∙ there)

-- Where nothing has a parent the root alone is active.
pub root_alone : (o : ℕ) → is_active map.empty o ≡ true → o ≡ 0
root_alone = grown.root_alone

-- The root alone is a tree.
pub IsTree-root : IsTree map.empty (is_active map.empty)
IsTree-root = grown.IsTree-root

-- Its next number is 1, in each profile.
pub HasNext-root : (profile : Profile) → HasNext profile (is_active map.empty) 1
HasNext-root = next.HasNext-root
