-- The fields of a tree: that each operation keeps them in agreement.
use Rattle.std.proofs.Common.{◌≡◌, ℕ, ◌+◌, ◌<◌, ◌≤◌, ◌⊎◌, inl, inr, Bool, true, false, cond, not, ◌&&◌, ◌||◌, eqb, nat_eq, IsTrue, List, [], ◌∷◌, ◌++◌, length, take, filter, get_or, set, Option, Some, None, is_some, IfSome, IfNone, refl, sym, ap, subst, ◌∙◌, arith, length-append, length-set}
use Rattle.std.proofs.Math.Bool.{and-true, and-false}
use Rattle.std.proofs.lemmas.Bool.{cases_Bool, cases_eq, eqb-true, eq-eqb, ne_eqb, and_parts}
use Rattle.std.proofs.lemmas.Bool.Decides.{nat_tests}
use Rattle.std.proofs.lemmas.List.{get_or_default}
use Rattle.std.proofs.lemmas.List.Elements.{filter_agree}
use Rattle.std.proofs.lemmas.List.Folds.{list_any_more, list_any_at}
use Rattle.std.specs.Cmp.{nat_cmp_total, unsigned_tied}
use Rattle.std.specs.List.{range_with_len, list_any}
use Rattle.std.specs.List.Sorted.{IsStrictlyIncreasing}
use Rattle.std.specs.Ordering.{nat_cmp}
use Rattle.std.specs.FinMap as map
use Rattle.std.specs.FinMap.{FinMap, nat_cmp-IsAntisymmetric}
use Rattle.std.specs.FinSet as finset
use Rattle.std.specs.FinSet.{FinSet}
use Rattle.mls_tables.specs.declared.limits.TheConstants.{MAX_OBJECTS}
use Rattle.mls_tables.specs.Rows.{listed, Entered, IsRows}
use Rattle.mls_facts.specs.Numbered.{holds_of}
use Rattle.mls_facts.specs.Least.{least_failing}
use Rattle.mls_facts.proofs.Entries.{get-kept, get-inserted}
use Rattle.mls_facts.proofs.Filters.{filter-twice, filter_all}
use Rattle.mls_facts.specs.Places.{placed}
use Rattle.mls_facts.proofs.Places.{get_or-set, length-placed}
use Rattle.mls_facts.proofs.Numbered.{numbered-none, numbered-push, get-numbered-option}
use Rattle.mls_facts.proofs.Ranges.{filter_range_none}
use Rattle.mls_tree.specs.Tree.{IsTree, HasNext, is_active, is_child, is_inferior, children, inferiors, next_number}
use Rattle.mls_tree.specs.declared.profile.Profile.{Profile}
use Rattle.mls_tree.specs.declared.profile.Profile.TheVariants.{One, Two}
use Rattle.mls_tree.specs.Kept.{parents_of, IsKept, stays_listed, without_numbers}
use Rattle.mls_tree.proofs.Grown.{nobody, root_alone, no_parent, IsTree-root, IsTree-insert, is_active-insert}
use Rattle.mls_tree.proofs.Inferiors.{IsTree-retain, is_active-retain, inferior_below, inferior_active}
use Rattle.mls_tree.proofs.Listed.{child_insert, list_any-inferiors, parent_from_child, IsStrictlyIncreasing-children}
use Rattle.mls_tree.proofs.Next.{HasNext-above, next-root}

-- the list of the root alone
pub parents_of-root : parents_of (None ∷ []) ≡ map.empty
parents_of-root = numbered-none (λ parent. parent) None refl

no_child : (o : ℕ) → children (parents_of (None ∷ [])) o ≡ []
unfolding listed
no_child o =
    filter_range_none (λ c. is_child (parents_of (None ∷ [])) c o) 0 MAX_OBJECTS (λ c low high. ap (holds_of (λ p. eqb p o)) (ap (λ m. map.get m c) parents_of-root ∙ map.get-empty nat_cmp c))

-- the fields of the tree of the root alone
pub IsKept-root : (lists : List (List ℕ)) (numbers : FinSet nat_cmp) → 0 < length lists → ((o : ℕ) → get_or lists o [] ≡ []) → numbers ≡ finset.insert finset.empty 0 → IsKept (None ∷ []) lists numbers
IsKept-root lists numbers some empty are = record {
  tree = subst (λ m. IsTree m (is_active m)) (sym parents_of-root) IsTree-root;
  few = omega arith;
  below = λ o is. let at : o ≡ 0 = root_alone o (ap (λ m. is_active m o) (sym parents_of-root) ∙ is) in omega arith;
  as_many = omega arith;
  rows = λ o. empty o ∙ sym (no_child o);
  active = λ o. ap (λ s. finset.contains s o) are ∙ in_root o ∙ ap (λ m. is_active m o) (sym parents_of-root);
} where
  none : FinSet nat_cmp
  none = finset.empty

  in_root : (o : ℕ) → finset.contains (finset.insert none 0) o ≡ is_active nobody o
  in_root o = finset.contains-insert nat_cmp_total none 0 o ∙ (λ i. unsigned_tied o 0 i || finset.contains-empty nat_cmp o i)
      ∙ ap (λ b. nat_eq o 0 || b) (sym (ap is_some (map.get-empty nat_cmp o)))

-- the next number of what is kept
pub HasNext-kept : (profile : Profile) (parents : List (Option ℕ)) (lists : List (List ℕ)) (numbers : FinSet nat_cmp) → IsKept parents lists numbers
    → HasNext profile (is_active (parents_of parents)) (next_number profile (length parents) (is_active (parents_of parents)))
HasNext-kept profile parents lists numbers kept = HasNext-above profile (is_active (parents_of parents)) (length parents) kept.few kept.below

-- the lists of children ascend, those too that are emptied
pub cleared_ascend : (parents : List (Option ℕ)) (lists : List (List ℕ)) → IsRows (λ o c. is_child (parents_of parents) c o) MAX_OBJECTS lists → (b : Bool) (q : ℕ) → IsStrictlyIncreasing (cond b [] (get_or lists q []))
cleared_ascend parents lists rows true q = λ j within. absurd (omega arith)
cleared_ascend parents lists rows false q = subst IsStrictlyIncreasing (sym (rows q)) (IsStrictlyIncreasing-children (parents_of parents) q)

-- what is so of each number is so of the one that is there
pub of_some : (P : ℕ → Type 0) → ((p : ℕ) → P p) → (e : Option ℕ) → IfSome e P
of_some P all None = tt
of_some P all (Some p) = all p

-- to place a parent is to enter it
pub parents_of-placed : (parents : List (Option ℕ)) (n p : ℕ) → n ≤ length parents → parents_of (placed parents n (Some p)) ≡ map.insert (parents_of parents) n p
parents_of-placed parents n p within = from (cases_Bool (eqb n (length parents))) where
  from : (eqb n (length parents) ≡ true) ⊎ (eqb n (length parents) ≡ false) → parents_of (placed parents n (Some p)) ≡ map.insert (parents_of parents) n p
  from (inl end) =
      ap (λ b. parents_of (cond b (parents ++ Some p ∷ []) (set parents n (Some p)))) end
      ∙ numbered-push (λ parent. parent) parents (Some p) p refl ∙ ap (λ k. map.insert (parents_of parents) k p) (sym (eqb-true n (length parents) end))
  from (inr inside) =
      let low : n < length parents = grind (arith, nat_tests, inside, within) in
      ap (λ b. parents_of (cond b (parents ++ Some p ∷ []) (set parents n (Some p)))) inside
      ∙ map.same_map nat_cmp_total nat_cmp-IsAntisymmetric _ _ (λ q.
      get-numbered-option (set parents n (Some p)) q ∙ get_or-set parents n (Some p) q None low
      ∙ ap (cond (eqb q n) (Some p)) (sym (get-numbered-option parents q)) ∙ sym (get-inserted (parents_of parents) n p q))

module _ (parents : List (Option ℕ)) (lists : List (List ℕ)) (numbers : FinSet nat_cmp) (kept : IsKept parents lists numbers) (n p : ℕ) where
  abbrev now : FinMap nat_cmp ℕ
  now = parents_of parents

  -- the fields with one object more
  pub IsKept-placed : n ≤ length parents → n < MAX_OBJECTS → is_active now n ≡ false → IsTrue (is_active now p)
      → (spare after : List (List ℕ)) → n < length after → length lists ≤ length after → ((o : ℕ) → get_or spare o [] ≡ get_or lists o []) → Entered p n spare after
      → (more : FinSet nat_cmp) → more ≡ finset.insert numbers n
      → IsKept (placed parents n (Some p)) after more
  IsKept-placed place room free above spare after there longer same entered more grown = record {
    tree = subst (λ m. IsTree m (is_active m)) (sym map_is) (IsTree-insert now (is_active now) n p kept.tree free (is_active (map.insert now n p)) (is_active-insert now n p) above room);
    few = few;
    below = λ o is. low o (sym (is_active-insert now n p o) ∙ ap (λ m. is_active m o) (sym map_is) ∙ is) (cases_eq o n);
    as_many = many;
    rows = λ o. entered.told (λ q c. is_child now c q) MAX_OBJECTS room (λ q. same q ∙ kept.rows q) o
        ∙ ap (λ r. listed r MAX_OBJECTS) (λ i c. (sym (child_insert now n p c o none) ∙ ap (λ m. is_child m c o) (sym map_is)) i);
    active = λ o.
        ap (λ s. finset.contains s o) grown ∙ finset.contains-insert nat_cmp_total numbers n o
        ∙ (λ i. unsigned_tied o n i || kept.active o i) ∙ sym (is_active-insert now n p o) ∙ ap (λ m. is_active m o) (sym map_is);
  } where
    map_is : parents_of (placed parents n (Some p)) ≡ map.insert now n p
    map_is = parents_of-placed parents n p place

    sizes : (length parents ≤ length (placed parents n (Some p))) × (n < length (placed parents n (Some p))) × (length (placed parents n (Some p)) ≡ cond (eqb n (length parents)) (length parents + 1) (length parents))
    sizes = length-placed parents n (Some p) place

    none : map.get now n ≡ None
    none = no_parent now n (λ r is. let no : true ≡ false = sym (kept.tree.children_active n r is).0 ∙ free in cc)

    sized : (b : Bool) → eqb n (length parents) ≡ b → (length (placed parents n (Some p)) ≤ MAX_OBJECTS) × (length (placed parents n (Some p)) ≤ length after)
    sized true end =
        let long : length (placed parents n (Some p)) ≡ length parents + 1 = sizes.2 ∙ ap (λ b. cond b (length parents + 1) (length parents)) end in
        let at : n ≡ length parents = eqb-true n (length parents) end in
        (omega (arith, long, at), omega (arith, long, at))
    sized false inside =
        let long : length (placed parents n (Some p)) ≡ length parents = sizes.2 ∙ ap (λ b. cond b (length parents + 1) (length parents)) inside in
        let most : length parents ≤ MAX_OBJECTS = kept.few in
        let lists_many : length parents ≤ length lists = kept.as_many in
        (omega (arith, long), omega (arith, long))

    few : length (placed parents n (Some p)) ≤ MAX_OBJECTS
    few = (sized (eqb n (length parents)) refl).0

    many : length (placed parents n (Some p)) ≤ length after
    many = (sized (eqb n (length parents)) refl).1

    low : (o : ℕ) → (nat_eq o n || is_active now o) ≡ true → (o ≡ n) ⊎ (o ≡ n → ⊥) → o < length (placed parents n (Some p))
    low o is (inl same) = let l : n < length (placed parents n (Some p)) = sizes.1 in omega (arith, l, same)
    low o is (inr other) =
        let old : o < length parents = kept.below o (sym (ap (λ b. b || is_active now o) (ne_eqb o n other)) ∙ is) in
        let l : length parents ≤ length (placed parents n (Some p)) = sizes.0 in omega (arith, l, old)

not_both : (m e r x : Bool) → (e ≡ true → r ≡ x) → (not (m && r) && not (e && x)) ≡ not ((m || e) && r)
not_both true true true true same = refl
not_both true true true false same = refl
not_both true true false true same = same refl
not_both true true false false same = refl
not_both true false true x same = refl
not_both true false false x same = refl
not_both false true true true same = refl
not_both false true true false same = let no : true ≡ false = same refl in cc
not_both false true false true same = let no : false ≡ true = same refl in cc
not_both false true false false same = refl
not_both false false true x same = refl
not_both false false false x same = refl

-- one object more is taken out of its parent's list
pub stays_listed_more : (parents : List (Option ℕ)) (group : List ℕ) (i : ℕ) (x q : ℕ) (list : List ℕ) → i < length group → x ≡ get_or group i 0
    → filter (λ c. not (eqb c x && holds_of (λ p. eqb p q) (get_or parents x None))) (filter (stays_listed parents (take i group) q) list) ≡ filter (stays_listed parents (take (i + 1) group) q) list
stays_listed_more parents group i x q list within is =
    filter-twice (λ c. not (eqb c x && holds_of (λ p. eqb p q) (get_or parents x None))) (stays_listed parents (take i group) q) list ∙ filter_agree _ _ at list where
      at : (c : ℕ) → (stays_listed parents (take i group) q c && not (eqb c x && holds_of (λ p. eqb p q) (get_or parents x None))) ≡ stays_listed parents (take (i + 1) group) q c
      at c =
          not_both (list_any (eqb c) (take i group)) (eqb c x) (holds_of (λ p. eqb p q) (get_or parents c None)) (holds_of (λ p. eqb p q) (get_or parents x None))
          (λ same. ap (λ n. holds_of (λ p. eqb p q) (get_or parents n None)) (eqb-true c x same))
          ∙ ap (λ b. not (b && holds_of (λ p. eqb p q) (get_or parents c None))) (ap (λ y. list_any (eqb c) (take i group) || eqb c y) is ∙ sym (list_any_more (eqb c) group i 0 within))

-- one object is taken out of one list
discarded : (lists : List (List ℕ)) (p x q : ℕ) → p < length lists → get_or (set lists p (filter (λ y. not (eqb y x)) (get_or lists p []))) q [] ≡ filter (λ c. not (eqb c x && eqb p q)) (get_or lists q [])
discarded lists p x q within =
    get_or-set lists p (filter (λ y. not (eqb y x)) (get_or lists p [])) q [] within ∙ from (cases_eq q p) where
      others : ℕ → Bool
      others y = not (eqb y x)

      from : (q ≡ p) ⊎ (q ≡ p → ⊥) → cond (eqb q p) (filter (λ y. not (eqb y x)) (get_or lists p [])) (get_or lists q []) ≡ filter (λ c. not (eqb c x && eqb p q)) (get_or lists q [])
      from (inl same) =
          (λ i. cond (eq-eqb q p same i) (filter others (get_or lists p [])) (get_or lists q []))
          ∙ ap (λ n. filter others (get_or lists n [])) (sym same)
          ∙ filter_agree _ _ (λ c. ap not (sym (and-true (eqb c x)) ∙ ap (λ b. eqb c x && b) (sym (eq-eqb p q (sym same))))) (get_or lists q [])
      from (inr other) =
          (λ i. cond (ne_eqb q p other i) (filter others (get_or lists p [])) (get_or lists q []))
          ∙ sym (filter_all _ (get_or lists q []) (λ c. ap (λ b. not (eqb c x && b)) (ne_eqb p q (λ same. other (sym same))) ∙ ap not (and-false (eqb c x))))

-- what is in a set without a number
contains_removed : (s : FinSet nat_cmp) (n q : ℕ) → finset.contains (finset.remove s n) q ≡ cond (nat_eq q n) false (finset.contains s q)
contains_removed s n q = finset.contains-remove nat_cmp_total s n q ∙ (λ i. not (unsigned_tied q n i) && finset.contains s q) ∙ tidy (nat_eq q n) (finset.contains s q) where
  tidy : (e a : Bool) → (not e && a) ≡ cond e false a
  tidy true a = refl
  tidy false a = refl

-- what is in a set without some numbers
contains_without : (s : FinSet nat_cmp) (group : List ℕ) (q : ℕ) → finset.contains (without_numbers s group) q ≡ cond (list_any (eqb q) group) false (finset.contains s q)
contains_without s [] q = refl
contains_without s (n ∷ group) q =
    contains_without (finset.remove s n) group q ∙ ap (cond (list_any (eqb q) group) false) (contains_removed s n q) ∙ merged (list_any (eqb q) group) (eqb q n) (finset.contains s q) where
      merged : (a e b : Bool) → cond a false (cond e false b) ≡ cond (e || a) false b
      merged true true b = refl
      merged true false b = refl
      merged false true b = refl
      merged false false b = refl

module _ (parents : List (Option ℕ)) (group : List ℕ) (o : ℕ) (tree : IsTree (parents_of parents) (is_active (parents_of parents))) (all : group ≡ inferiors (parents_of parents) o) where
  -- the group has just the inferiors
  in_group : (x : ℕ) → list_any (eqb x) group ≡ is_inferior (parents_of parents) x o
  in_group x = ap (list_any (eqb x)) all ∙ list_any-inferiors (parents_of parents) tree x o

  -- each of the group is active
  pub group_active : (k d : ℕ) → k < length group → is_active (parents_of parents) (get_or group k d) ≡ true
  group_active k d within =
      let x : ℕ = get_or group k d in
      let there : list_any (eqb x) group ≡ true = list_any_at (eqb x) group k d within (eq-eqb x x refl) in
      inferior_active (parents_of parents) (is_active (parents_of parents)) tree x o (sym (in_group x) ∙ there)

  module _ (after : List (Option ℕ)) (many : length after ≡ length parents) (forgot : (q : ℕ) → get_or after q None ≡ cond (list_any (eqb q) group) None (get_or parents q None)) where
    turned : (b : Bool) (e : Option ℕ) → cond b None e ≡ cond (not b) e None
    turned true e = refl
    turned false e = refl

    -- the map without the group
    pub parents_of-retain : parents_of after ≡ map.retain_keys (parents_of parents) (λ x. not (is_inferior (parents_of parents) x o))
    parents_of-retain = map.same_map nat_cmp_total nat_cmp-IsAntisymmetric _ _ (λ q.
        get-numbered-option after q ∙ forgot q ∙ (λ i. cond (in_group q i) None (sym (get-numbered-option parents q) i))
        ∙ turned (is_inferior (parents_of parents) q o) (map.get (parents_of parents) q)
        ∙ sym (get-kept (parents_of parents) (λ x. not (is_inferior (parents_of parents) x o)) q))

    module _ (lists left : List (List ℕ)) (numbers fewer : FinSet nat_cmp) (kept : IsKept parents lists numbers) (other : o ≡ 0 → ⊥) (longer : length left ≡ length lists)
        (discards : (q : ℕ) → get_or left q [] ≡ filter (stays_listed parents group q) (cond (list_any (eqb q) group) [] (get_or lists q [])))
        (frees : fewer ≡ without_numbers numbers group) where
      abbrev m : FinMap nat_cmp ℕ
      m = parents_of parents

      abbrev stays : ℕ → Bool
      stays x = not (is_inferior m x o)

      -- a child stays where it is not in the group
      child_left : (c q : ℕ) → is_child (map.retain_keys m stays) c q ≡ (is_child m c q && stays c)
      child_left c q = ap (holds_of (λ p. eqb p q)) (get-kept m stays c) ∙ from (stays c) (map.get m c) where
        from : (b : Bool) (e : Option ℕ) → holds_of (λ p. eqb p q) (cond b e None) ≡ (holds_of (λ p. eqb p q) e && b)
        from true e = sym (and-true (holds_of (λ p. eqb p q) e))
        from false e = sym (and-false (holds_of (λ p. eqb p q) e))

      -- the children of an object that stays
      kept_children : (q : ℕ) → filter (stays_listed parents group q) (children m q) ≡ children (map.retain_keys m stays) q
      unfolding listed
      kept_children q =
          filter-twice (stays_listed parents group q) (λ c. is_child m c q) (range_with_len 0 MAX_OBJECTS) ∙ filter_agree _ _ at (range_with_len 0 MAX_OBJECTS) where
            merged : (a b : Bool) → (a && not (b && a)) ≡ (a && not b)
            merged true true = refl
            merged true false = refl
            merged false b = refl

            at : (c : ℕ) → (is_child m c q && stays_listed parents group q c) ≡ is_child (map.retain_keys m stays) c q
            at c =
                (λ i. is_child m c q && not (in_group c i && holds_of (λ p. eqb p q) (sym (get-numbered-option parents c) i)))
                ∙ merged (is_child m c q) (is_inferior m c o) ∙ sym (child_left c q)

      -- an object of the group has no child that stays
      group_children : (q : ℕ) → is_inferior m q o ≡ true → children (map.retain_keys m stays) q ≡ []
      unfolding listed
      group_children q is = filter_range_none _ 0 MAX_OBJECTS (λ c low high. child_left c q ∙ from c (cases_Bool (is_child m c q))) where
        from : (c : ℕ) → (is_child m c q ≡ true) ⊎ (is_child m c q ≡ false) → (is_child m c q && stays c) ≡ false
        from c (inl below) =
            (λ i. below i && not (inferior_below m (is_active m) tree c q o (parent_from_child m c q below) is i))
        from c (inr out) = ap (λ b. b && stays c) out

      rows_left : (q : ℕ) → get_or left q [] ≡ children (map.retain_keys m stays) q
      rows_left q = discards q ∙ from (cases_Bool (list_any (eqb q) group)) where
        from : (list_any (eqb q) group ≡ true) ⊎ (list_any (eqb q) group ≡ false) → filter (stays_listed parents group q) (cond (list_any (eqb q) group) [] (get_or lists q [])) ≡ children (map.retain_keys m stays) q
        from (inl there) = ap (λ b. filter (stays_listed parents group q) (cond b [] (get_or lists q []))) there ∙ sym (group_children q (sym (in_group q) ∙ there))
        from (inr out) = (λ i. filter (stays_listed parents group q) (cond (out i) [] (kept.rows q i))) ∙ kept_children q

      left_active : (q : ℕ) → is_active (map.retain_keys m stays) q ≡ (is_active m q && stays q)
      left_active q = is_active-retain m o tree other q

      -- the fields without the group
      pub IsKept-retain : IsKept after left fewer
      IsKept-retain = record {
        tree = rw parents_of-retain (IsTree-retain m (is_active m) tree o other (is_active (map.retain_keys m stays)) left_active);
        few = let most : length parents ≤ MAX_OBJECTS = kept.few in omega (arith, many);
        below = λ q is. let low : q < length parents = kept.below q (and_parts (is_active m q) (stays q) (sym (left_active q) ∙ ap (λ l. is_active l q) (sym parents_of-retain) ∙ is)).0 in omega (arith, many, low);
        as_many = let few : length parents ≤ length lists = kept.as_many in omega (arith, many, longer);
        rows = λ q. rows_left q ∙ ap (λ l. children l q) (sym parents_of-retain);
        active = λ q. ap (λ s. finset.contains s q) frees ∙ contains_without numbers group q ∙ (λ i. cond (in_group q i) false (kept.active q i)) ∙ freed (is_inferior m q o) (is_active m q) ∙ sym (left_active q) ∙ ap (λ l. is_active l q) (sym parents_of-retain);
      } where
        freed : (b a : Bool) → cond b false a ≡ (a && not b)
        freed true true = refl
        freed true false = refl
        freed false true = refl
        freed false false = refl

-- the next number after a parent is placed at it
pub placed_next : (profile : Profile) (parents : List (Option ℕ)) (n p : ℕ) → n ≡ next_number profile (length parents) (is_active (parents_of parents)) → n ≤ length parents
    → next_number profile (length (placed parents n (Some p))) (is_active (parents_of (placed parents n (Some p)))) ≡ next_number profile (n + 1) (is_active (map.insert (parents_of parents) n p))
placed_next One parents n p is within =
    (length-placed parents n (Some p) within).2 ∙ ap (λ b. cond b (length parents + 1) (length parents)) (eq-eqb n (length parents) is) ∙ ap (λ k. k + 1) (sym is)
placed_next Two parents n p is within = ap (λ m. least_failing (is_active m) MAX_OBJECTS 0) (parents_of-placed parents n p within)

-- the next number after some parents were taken away
pub removed_next : (profile : Profile) (parents after : List (Option ℕ)) (m : FinMap nat_cmp ℕ) → length after ≡ length parents → parents_of after ≡ m
    → next_number profile (length after) (is_active (parents_of after)) ≡ next_number profile (next_number profile (length parents) (is_active (parents_of parents))) (is_active m)
removed_next One parents after m many is = many
removed_next Two parents after m many is = ap (λ l. least_failing (is_active l) MAX_OBJECTS 0) is

-- a parent that stands in the list has a list of children
pub parent_within : (parents : List (Option ℕ)) (lists now : List (List ℕ)) (n : ℕ) (parent : Option ℕ) → ((x p : ℕ) → get_or parents x None ≡ Some p → p < length lists)
    → length now ≡ length lists → n < length parents → parent ≡ get_or parents n parent → IfSome parent (λ p. p < length now)
parent_within parents lists now n parent listed many within is = from parent is where
  from : (e : Option ℕ) → e ≡ get_or parents n e → IfSome e (λ p. p < length now)
  from None is = tt
  from (Some p) is = let below : p < length lists = listed n p (sym (get_or_default parents n (Some p) None within) ∙ sym is) in omega arith

-- one object is taken out of the list of its parent, if it has one
pub discarded_one : (lists after : List (List ℕ)) (parent : Option ℕ) (x : ℕ) → IfSome parent (λ p. p < length lists)
    → IfSome parent (λ p. after ≡ set lists p (filter (λ y. not (eqb y x)) (get_or lists p []))) → IfNone parent (after ≡ lists)
    → (length after ≡ length lists) × ((q : ℕ) → get_or after q [] ≡ filter (λ c. not (eqb c x && holds_of (λ p. eqb p q) parent)) (get_or lists q []))
discarded_one lists after (Some p) x within listed root = (ap length listed ∙ length-set lists p _, λ q. ap (λ l. get_or l q []) listed ∙ discarded lists p x q within)
discarded_one lists after None x within listed root =
    (ap length root, λ q. ap (λ l. get_or l q []) root ∙ sym (filter_all _ (get_or lists q []) (λ c. ap not (and-false (eqb c x)))))
