-- For each of the seven properties a state that breaks it alone.
use Rattle.std.proofs.Common.{◌≡◌, ℕ, zero, suc, ◌<◌, Bool, true, false, ◌&&◌, ◌||◌, ◌⊎◌, inl, inr, nat_eq, nat_le, Some, None, is_some, refl, sym, ap, ◌∙◌, arith}
use Rattle.std.proofs.lemmas.Bool.{and_from}
use Rattle.std.proofs.lemmas.Bool.Decides.{nat_tests}
use Rattle.std.specs.Ordering.{nat_cmp}
use Rattle.std.specs.Cmp.{nat_cmp_total, unsigned_tied}
use Rattle.std.specs.FinSet as set
use Rattle.std.specs.FinSet.{FinSet}
use Rattle.std.specs.FinMap as map
use Rattle.std.specs.FinMap.{FinMap}
use Rattle.mls_facts.proofs.Entries.{by_number, at_new, elsewhere, has-inserted}
use Rattle.mls_tables.specs.declared.mode.Mode.TheVariants.{Read}
use Rattle.mls_tables.specs.Triples.{Triple, TripleSet, triple_cmp}
use Rattle.mls_tables.proofs.Laws.{contains-insert-triple, is_triple-itself}
use Rattle.mls_tree.specs.Tree.{IsTree, HasNext, Reaches}
use Rattle.mls_tree.specs.declared.profile.Profile.TheVariants.{One}
use Rattle.mls_tree.specs.Tree.Reaches.{here, up}
use Rattle.mls_state.specs.State.{State, is_subject, is_active, is_above}
use Rattle.mls_state.specs.Properties.{Each, IsSecure, HasTree, HasWholeTables, simple_holds, star_holds, discretionary_holds, compatible_holds, integrity_holds, is_known}
use Rattle.mls_state.proofs.Laws.{Each-empty, Each-insert}
use Rattle.mls_laws.specs.Examples.{plain}
use Rattle.mls_laws.specs.SevenProperties.{Property, Has}
use Rattle.mls_laws.specs.SevenProperties.Property.{simple_security, star_property, discretionary_security, compatibility, tree, strict_integrity, ceiling}
use Rattle.mls_laws.proofs.Plain.{and_true, plain_above}

-- the access of the one subject, to read the one object below the root
abbrev reading : Triple
reading = (0, 1, Read)

abbrev none : TripleSet
none = set.empty

abbrev held : TripleSet
held = set.insert none reading

in_held : set.contains held reading ≡ true
in_held = contains-insert-triple none reading reading ∙ ap (λ b. b || set.contains none reading) (is_triple-itself reading)

-- a state of one subject, the root and one object below it: the root's level, the subject's maximum and current level, the object's level, and its
-- integrity, where that of all else is 1
abbrev small : ℕ → ℕ → ℕ → ℕ → ℕ → FinSet nat_cmp → TripleSet → TripleSet → State
small r m c l i trusted accesses matrix = record {
  accesses = accesses;
  matrix = matrix;
  maximum = map.insert map.empty 0 (plain m);
  current = map.insert map.empty 0 (plain c);
  subject_integrity = map.insert map.empty 0 (plain 1);
  trusted = trusted;
  object_label = map.insert (map.insert map.empty 0 (plain r)) 1 (plain l);
  object_integrity = map.insert (map.insert map.empty 0 (plain 1)) 1 (plain i);
  parent = map.insert map.empty 1 0;
  profile = One;
  next = 2;
  security = record { levels = 2; categories = 0 };
  integrity = record { levels = 2; categories = 0 };
}

-- the same with the object cut off from the root
abbrev cut : State → State
cut v = record v { parent = map.empty }

one_key : {X : Type 0} (x : X) (k : ℕ) → map.contains_key (map.insert (map.empty {R = nat_cmp}) 0 x) k ≡ (nat_eq k 0 || false)
one_key x k = has-inserted map.empty 0 x k ∙ ap (λ b. nat_eq k 0 || b) (ap is_some (map.get-empty nat_cmp k))

two_keys : {X : Type 0} (x y : X) (k : ℕ) → map.contains_key (map.insert (map.insert (map.empty {R = nat_cmp}) 0 x) 1 y) k ≡ (nat_eq k 1 || (nat_eq k 0 || false))
two_keys x y k = has-inserted (map.insert map.empty 0 x) 1 y k ∙ ap (λ b. nat_eq k 1 || b) (one_key x k)

module _ (r m c l i : ℕ) (trusted : FinSet nat_cmp) (accesses matrix : TripleSet) where
  abbrev v : State
  v = small r m c l i trusted accesses matrix

  maximum_at : map.get v.maximum 0 ≡ Some (plain m)
  maximum_at = at_new map.empty 0 (plain m)

  current_at : map.get v.current 0 ≡ Some (plain c)
  current_at = at_new map.empty 0 (plain c)

  own_integrity_at : map.get v.subject_integrity 0 ≡ Some (plain 1)
  own_integrity_at = at_new map.empty 0 (plain 1)

  root_at : map.get v.object_label 0 ≡ Some (plain r)
  root_at = elsewhere (map.insert map.empty 0 (plain r)) 1 (plain l) 0 refl ∙ at_new map.empty 0 (plain r)

  label_at : map.get v.object_label 1 ≡ Some (plain l)
  label_at = at_new (map.insert map.empty 0 (plain r)) 1 (plain l)

  root_integrity_at : map.get v.object_integrity 0 ≡ Some (plain 1)
  root_integrity_at = elsewhere (map.insert map.empty 0 (plain 1)) 1 (plain i) 0 refl ∙ at_new map.empty 0 (plain 1)

  integrity_at : map.get v.object_integrity 1 ≡ Some (plain i)
  integrity_at = at_new (map.insert map.empty 0 (plain 1)) 1 (plain i)

  subject_at : (s : ℕ) → is_subject v s ≡ (nat_eq s 0 || false)
  subject_at s = one_key (plain m) s

  active_at : (o : ℕ) → is_active v o ≡ (nat_eq o 1 || (nat_eq o 0 || false))
  active_at o = two_keys (plain r) (plain l) o

  -- the tests of the one access, by levels
  simple_test : simple_holds v reading ≡ nat_le l m
  simple_test = (λ j. is_above (maximum_at j) (label_at j)) ∙ plain_above m l

  star_test : set.contains trusted 0 ≡ false → star_holds v reading ≡ nat_le l c
  star_test untrusted = (λ j. untrusted j || is_above (current_at j) (label_at j)) ∙ plain_above c l

  star_trusted : set.contains trusted 0 ≡ true → star_holds v reading ≡ true
  star_trusted is = ap (λ b. b || is_above (map.get v.current 0) (map.get v.object_label 1)) is

  integrity_test : integrity_holds v reading ≡ nat_le 1 i
  integrity_test = and_true _ true refl ∙ (λ j. is_above (integrity_at j) (own_integrity_at j)) ∙ plain_above i 1

  known_test : is_known v reading ≡ true
  known_test = λ j. subject_at 0 j && active_at 1 j

  ceiling_test : is_above (map.get v.maximum 0) (map.get v.current 0) ≡ nat_le c m
  ceiling_test = (λ j. is_above (maximum_at j) (current_at j)) ∙ plain_above m c

  compatible_test : compatible_holds v 1 0 ≡ (nat_le r l && nat_le i 1)
  compatible_test = λ j. ((λ k. is_above (label_at k) (root_at k)) ∙ plain_above l r) j && ((λ k. is_above (root_integrity_at k) (integrity_at k)) ∙ plain_above 1 i) j

  -- the properties
  has_ceiling : nat_le c m ≡ true → Has ceiling v
  has_ceiling low s = by_number 0 s (λ k. is_subject v k ≡ true → is_above (map.get v.maximum k) (map.get v.current k) ≡ true)
      (λ known. ceiling_test ∙ low)
      (λ other known. let unknown : is_subject v s ≡ false = subject_at s ∙ ap (λ b. b || false) other in cc)

  same_parent : (p q : ℕ) → Some p ≡ Some q → q ≡ p
  same_parent p q is = cc

  parent_of : (child parent : ℕ) → map.get v.parent child ≡ Some parent → (child ≡ 1) × (parent ≡ 0)
  parent_of child parent = by_number 1 child (λ k. map.get v.parent k ≡ Some parent → (k ≡ 1) × (parent ≡ 0))
      (λ step. (refl, same_parent 0 parent (sym (at_new map.empty 1 0) ∙ step)))
      (λ other step. let gone : map.get v.parent child ≡ None = elsewhere map.empty 1 0 child other ∙ map.get-empty nat_cmp child in cc)

  has_compatibility : nat_le r l ≡ true → nat_le i 1 ≡ true → Has compatibility v
  has_compatibility high low child parent step =
      let ends = parent_of child parent step in
      (λ j. compatible_holds v (ends.0 j) (ends.1 j)) ∙ compatible_test ∙ and_from (nat_le r l) (nat_le i 1) high low

  reaches : (o : ℕ) → (nat_eq o 1 || (nat_eq o 0 || false)) ≡ true → Reaches v.parent o 0
  reaches zero active = here
  reaches (suc zero) active = up (at_new map.empty 1 0) here
  reaches (suc (suc o)) active = let neither : (nat_eq (suc (suc o)) 1 || (nat_eq (suc (suc o)) 0 || false)) ≡ false = grind (arith, nat_tests) in cc

  below : (o : ℕ) → (nat_eq o 1 || (nat_eq o 0 || false)) ≡ true → o < 2
  below zero active = omega arith
  below (suc zero) active = omega arith
  below (suc (suc o)) active = let neither : (nat_eq (suc (suc o)) 1 || (nat_eq (suc (suc o)) 0 || false)) ≡ false = grind (arith, nat_tests) in cc

  is_tree : IsTree v.parent (is_active v)
  is_tree = record {
    root_active = active_at 0;
    root_has_no_parent = elsewhere map.empty 1 0 0 refl ∙ map.get-empty nat_cmp 0;
    reaches_root = λ o active. reaches o (sym (active_at o) ∙ active);
    children_active = λ o p step.
        let ends = parent_of o p step in
        (ap (is_active v) ends.0 ∙ active_at 1, ap (is_active v) ends.1 ∙ active_at 0);
    below = λ o active. let low : o < 2 = below o (sym (active_at o) ∙ active) in omega arith;
  }

  has_next : HasNext One (is_active v) 2
  has_next = record { few = omega arith; right = λ o active. below o (sym (active_at o) ∙ active) }

  has_tree : Each accesses (is_known v) → Each matrix (is_known v) → HasTree v
  has_tree first second = record { objects = is_tree; next = has_next; accesses_known = first; matrix_known = second }

  whole : ((s : ℕ) → set.contains trusted s ≡ true → (nat_eq s 0 || false) ≡ true) → HasWholeTables v
  whole subjects = record {
    current = λ s. one_key (plain c) s ∙ sym (one_key (plain m) s);
    subject_integrity = λ s. one_key (plain 1) s ∙ sym (one_key (plain m) s);
    trusted = λ s there. subject_at s ∙ subjects s there;
    object_integrity = λ o. two_keys (plain 1) (plain i) o ∙ sym (two_keys (plain r) (plain l) o);
  }

-- one triple that passes, and nobody trusted
of_one : (p : Triple → Bool) → p reading ≡ true → Each held p
of_one p passes = Each-insert none reading p (Each-empty p) passes

abbrev nobody : FinSet nat_cmp
nobody = set.empty

nobody_trusted : (s : ℕ) → set.contains nobody s ≡ false
nobody_trusted s = set.contains-empty nat_cmp s

nobody_known : (s : ℕ) → set.contains nobody s ≡ true → (nat_eq s 0 || false) ≡ true
nobody_known s there = let out = nobody_trusted s in cc

abbrev somebody : FinSet nat_cmp
somebody = set.insert nobody 0

somebody_at : (s : ℕ) → set.contains somebody s ≡ (nat_eq s 0 || false)
somebody_at s = set.contains-insert nat_cmp_total nobody 0 s ∙ (λ j. unsigned_tied s 0 j || nobody_trusted s j)

-- one that fails
fails : (p : Triple → Bool) → p reading ≡ false → Each held p → ⊥
fails p failing all = let passing : p reading ≡ true = all reading in_held in cc

-- a state with all properties but one
abbrev Breaks : Property → State → Type 0
Breaks p v = HasWholeTables v × (Has p v → ⊥) × ((q : Property) → (q ≡ p) ⊎ Has q v)

abbrev no_simple : State
no_simple = small 0 0 0 1 1 somebody held held

breaks_simple : Breaks simple_security no_simple
breaks_simple = (whole 0 0 0 1 1 somebody held held (λ s there. sym (somebody_at s) ∙ there), fails (simple_holds no_simple) (simple_test 0 0 0 1 1 somebody held held), others) where
  others : (q : Property) → (q ≡ simple_security) ⊎ Has q no_simple
  others simple_security = inl refl
  others star_property = inr (of_one (star_holds no_simple) (star_trusted 0 0 0 1 1 somebody held held (somebody_at 0)))
  others discretionary_security = inr (λ t there. there)
  others compatibility = inr (has_compatibility 0 0 0 1 1 somebody held held refl refl)
  others tree = inr (has_tree 0 0 0 1 1 somebody held held (of_one (is_known no_simple) (known_test 0 0 0 1 1 somebody held held)) (of_one (is_known no_simple) (known_test 0 0 0 1 1 somebody held held)))
  others strict_integrity = inr (of_one (integrity_holds no_simple) (integrity_test 0 0 0 1 1 somebody held held))
  others ceiling = inr (has_ceiling 0 0 0 1 1 somebody held held refl)

abbrev no_star : State
no_star = small 0 1 0 1 1 nobody held held

breaks_star : Breaks star_property no_star
breaks_star = (whole 0 1 0 1 1 nobody held held nobody_known, fails (star_holds no_star) (star_test 0 1 0 1 1 nobody held held (nobody_trusted 0)), others) where
  others : (q : Property) → (q ≡ star_property) ⊎ Has q no_star
  others simple_security = inr (of_one (simple_holds no_star) (simple_test 0 1 0 1 1 nobody held held))
  others star_property = inl refl
  others discretionary_security = inr (λ t there. there)
  others compatibility = inr (has_compatibility 0 1 0 1 1 nobody held held refl refl)
  others tree = inr (has_tree 0 1 0 1 1 nobody held held (of_one (is_known no_star) (known_test 0 1 0 1 1 nobody held held)) (of_one (is_known no_star) (known_test 0 1 0 1 1 nobody held held)))
  others strict_integrity = inr (of_one (integrity_holds no_star) (integrity_test 0 1 0 1 1 nobody held held))
  others ceiling = inr (has_ceiling 0 1 0 1 1 nobody held held refl)

abbrev no_permission : State
no_permission = small 0 1 1 1 1 nobody held none

breaks_discretionary : Breaks discretionary_security no_permission
breaks_discretionary = (
  whole 0 1 1 1 1 nobody held none nobody_known,
  fails (discretionary_holds no_permission) (set.contains-empty triple_cmp reading),
  others,
) where
  others : (q : Property) → (q ≡ discretionary_security) ⊎ Has q no_permission
  others simple_security = inr (of_one (simple_holds no_permission) (simple_test 0 1 1 1 1 nobody held none))
  others star_property = inr (of_one (star_holds no_permission) (star_test 0 1 1 1 1 nobody held none (nobody_trusted 0)))
  others discretionary_security = inl refl
  others compatibility = inr (has_compatibility 0 1 1 1 1 nobody held none refl refl)
  others tree = inr (has_tree 0 1 1 1 1 nobody held none (of_one (is_known no_permission) (known_test 0 1 1 1 1 nobody held none)) (Each-empty (is_known no_permission)))
  others strict_integrity = inr (of_one (integrity_holds no_permission) (integrity_test 0 1 1 1 1 nobody held none))
  others ceiling = inr (has_ceiling 0 1 1 1 1 nobody held none refl)

abbrev no_order : State
no_order = small 1 0 0 0 1 nobody none none

not_compatible : Has compatibility no_order → ⊥
not_compatible all =
    let passing : compatible_holds no_order 1 0 ≡ true = all 1 0 (at_new map.empty 1 0) in
    let failing : compatible_holds no_order 1 0 ≡ false = compatible_test 1 0 0 0 1 nobody none none in cc

breaks_compatibility : Breaks compatibility no_order
breaks_compatibility = (whole 1 0 0 0 1 nobody none none nobody_known, not_compatible, others) where
  others : (q : Property) → (q ≡ compatibility) ⊎ Has q no_order
  others simple_security = inr (Each-empty (simple_holds no_order))
  others star_property = inr (Each-empty (star_holds no_order))
  others discretionary_security = inr (Each-empty (discretionary_holds no_order))
  others compatibility = inl refl
  others tree = inr (has_tree 1 0 0 0 1 nobody none none (Each-empty (is_known no_order)) (Each-empty (is_known no_order)))
  others strict_integrity = inr (Each-empty (integrity_holds no_order))
  others ceiling = inr (has_ceiling 1 0 0 0 1 nobody none none refl)

abbrev no_way : State
no_way = cut (small 0 0 0 0 1 nobody none none)

-- from an object without a parent only itself is reached
stuck : (parent : FinMap nat_cmp ℕ) (o q : ℕ) → map.get parent o ≡ None → Reaches parent o q → o ≡ q
stuck parent o q none here = refl
stuck parent o q none (up step rest) = cc

not_reached : HasTree no_way → ⊥
not_reached h =
    let way : Reaches no_way.parent 1 0 = h.objects.reaches_root 1 (active_at 0 0 0 0 1 nobody none none 1) in
    let same : 1 ≡ 0 = stuck no_way.parent 1 0 (map.get-empty nat_cmp 1) way in
    absurd (omega (arith, same))

breaks_tree : Breaks tree no_way
breaks_tree = (record { current = before.current; subject_integrity = before.subject_integrity; trusted = before.trusted; object_integrity = before.object_integrity }, not_reached, others) where
  before : HasWholeTables (small 0 0 0 0 1 nobody none none)
  before = whole 0 0 0 0 1 nobody none none nobody_known

  others : (q : Property) → (q ≡ tree) ⊎ Has q no_way
  others simple_security = inr (Each-empty (simple_holds no_way))
  others star_property = inr (Each-empty (star_holds no_way))
  others discretionary_security = inr (Each-empty (discretionary_holds no_way))
  others compatibility = inr (λ child parent step. let gone : map.get no_way.parent child ≡ None = map.get-empty nat_cmp child in cc)
  others tree = inl refl
  others strict_integrity = inr (Each-empty (integrity_holds no_way))
  others ceiling = inr (has_ceiling 0 0 0 0 1 nobody none none refl)

abbrev no_integrity : State
no_integrity = small 0 1 1 1 0 nobody held held

breaks_integrity : Breaks strict_integrity no_integrity
breaks_integrity = (whole 0 1 1 1 0 nobody held held nobody_known, fails (integrity_holds no_integrity) (integrity_test 0 1 1 1 0 nobody held held), others) where
  others : (q : Property) → (q ≡ strict_integrity) ⊎ Has q no_integrity
  others simple_security = inr (of_one (simple_holds no_integrity) (simple_test 0 1 1 1 0 nobody held held))
  others star_property = inr (of_one (star_holds no_integrity) (star_test 0 1 1 1 0 nobody held held (nobody_trusted 0)))
  others discretionary_security = inr (λ t there. there)
  others compatibility = inr (has_compatibility 0 1 1 1 0 nobody held held refl refl)
  others tree = inr (has_tree 0 1 1 1 0 nobody held held (of_one (is_known no_integrity) (known_test 0 1 1 1 0 nobody held held)) (of_one (is_known no_integrity) (known_test 0 1 1 1 0 nobody held held)))
  others strict_integrity = inl refl
  others ceiling = inr (has_ceiling 0 1 1 1 0 nobody held held refl)

abbrev no_ceiling : State
no_ceiling = small 0 0 1 0 1 nobody none none

above_maximum : Has ceiling no_ceiling → ⊥
above_maximum all =
    let passing : is_above (map.get no_ceiling.maximum 0) (map.get no_ceiling.current 0) ≡ true = all 0 (subject_at 0 0 1 0 1 nobody none none 0) in
    let failing : is_above (map.get no_ceiling.maximum 0) (map.get no_ceiling.current 0) ≡ false = ceiling_test 0 0 1 0 1 nobody none none in cc

breaks_ceiling : Breaks ceiling no_ceiling
breaks_ceiling = (whole 0 0 1 0 1 nobody none none nobody_known, above_maximum, others) where
  others : (q : Property) → (q ≡ ceiling) ⊎ Has q no_ceiling
  others simple_security = inr (Each-empty (simple_holds no_ceiling))
  others star_property = inr (Each-empty (star_holds no_ceiling))
  others discretionary_security = inr (Each-empty (discretionary_holds no_ceiling))
  others compatibility = inr (has_compatibility 0 0 1 0 1 nobody none none refl refl)
  others tree = inr (has_tree 0 0 1 0 1 nobody none none (Each-empty (is_known no_ceiling)) (Each-empty (is_known no_ceiling)))
  others strict_integrity = inr (Each-empty (integrity_holds no_ceiling))
  others ceiling = inl refl

broken : (p : Property) → (v : State) × Breaks p v
broken simple_security = (no_simple, breaks_simple)
broken star_property = (no_star, breaks_star)
broken discretionary_security = (no_permission, breaks_discretionary)
broken compatibility = (no_order, breaks_compatibility)
broken tree = (no_way, breaks_tree)
broken strict_integrity = (no_integrity, breaks_integrity)
broken ceiling = (no_ceiling, breaks_ceiling)

but_one : (p q : Property) (v : State) → (q ≡ p) ⊎ Has q v → (q ≡ p → ⊥) → Has q v
but_one p q v (inl same) other = absurd (other same)
but_one p q v (inr has) other = has

pub broken_alone : (p : Property) → (v : State) × HasWholeTables v × (Has p v → ⊥) × ((q : Property) → (q ≡ p → ⊥) → Has q v)
broken_alone p = let b = broken p in (b.0, b.1.0, b.1.1, λ q. but_one p q b.0 (b.1.2 q))

-- secure is all seven
pub all_of : (v : State) → IsSecure v → (p : Property) → Has p v
all_of v h simple_security = h.simple
all_of v h star_property = h.star
all_of v h discretionary_security = h.discretionary
all_of v h compatibility = h.compatible
all_of v h tree = h.tree
all_of v h strict_integrity = h.integrity
all_of v h ceiling = h.ceiling

pub secure_from : (v : State) → ((p : Property) → Has p v) → IsSecure v
secure_from v all = record {
  simple = all simple_security;
  star = all star_property;
  discretionary = all discretionary_security;
  compatible = all compatibility;
  tree = all tree;
  integrity = all strict_integrity;
  ceiling = all ceiling;
}
