-- Places behind the others at which nothing has a parent.
use Rattle.std.proofs.Common.{◌≡◌, ℕ, zero, suc, ◌+◌, ◌<◌, ◌≤◌, ◌⊎◌, inl, inr, cond, eqb, IsTrue, List, [], ◌∷◌, ◌++◌, length, take, get_or, replicate, Option, Some, None, refl, sym, ap, subst, ◌∙◌, arith, length-append}
use Rattle.std.specs.Prelude.{max}
use Rattle.std.proofs.lemmas.Bool.{cases_lt, ne_eqb}
use Rattle.std.proofs.lemmas.List.{get_or-replicate, get_or_past, length-replicate, take_all, take_at}
use Rattle.std.specs.Cmp.{nat_cmp_total}
use Rattle.std.specs.Ordering.{nat_cmp}
use Rattle.std.specs.FinMap as map
use Rattle.std.specs.FinMap.{nat_cmp-IsAntisymmetric}
use Rattle.std.specs.FinSet.{FinSet}
use Rattle.mls_tables.specs.declared.limits.TheConstants.{MAX_OBJECTS}
use Rattle.mls_facts.specs.Least.{least_failing}
use Rattle.mls_facts.specs.Places.{placed}
use Rattle.mls_facts.proofs.Places.{length-placed}
use Rattle.mls_facts.proofs.Numbered.{get-numbered-option}
use Rattle.mls_tree.specs.Tree.{IsTree, is_active, children, next_number, with_parents}
use Rattle.mls_tree.specs.Kept.{parents_of, hierarchy_of, IsKept}
use Rattle.mls_tree.specs.declared.profile.Profile.{Profile}
use Rattle.mls_tree.specs.declared.profile.Profile.TheVariants.{One, Two}
use Rattle.mls_tree.proofs.Kept.{parents_of-placed}

-- what stands for a missing item is seen nowhere
pub get_or-missing : {X : Type 0} (xs : List X) (k q : ℕ) (d : X) → get_or (xs ++ replicate k d) q d ≡ get_or xs q d
get_or-missing [] k q d = from (cases_lt q k) where
  from : (q < k) ⊎ (k ≤ q) → get_or (replicate k d) q d ≡ d
  from (inl h) = get_or-replicate k q d d h
  from (inr h) = let many : length (replicate k d) ≡ k = length-replicate k d in get_or_past (replicate k d) q d (omega (arith, many, h))
get_or-missing (x ∷ xs) k zero d = refl
get_or-missing (x ∷ xs) k (suc q) d = get_or-missing xs k q d

module _ (parents more : List (Option ℕ)) (same : (q : ℕ) → get_or more q None ≡ get_or parents q None) where
  pub padded_map : parents_of more ≡ parents_of parents
  padded_map = map.same_map nat_cmp_total nat_cmp-IsAntisymmetric _ _ (λ q. get-numbered-option more q ∙ same q ∙ sym (get-numbered-option parents q))

  -- the fields with more places
  pub IsKept-padded : (lists after : List (List ℕ)) (numbers : FinSet nat_cmp) → IsKept parents lists numbers → length parents ≤ length more → length more ≤ MAX_OBJECTS
      → length more ≤ length after → ((q : ℕ) → get_or after q [] ≡ get_or lists q []) → IsKept more after numbers
  IsKept-padded lists after numbers kept longer few many listed = record {
    tree = subst (λ m. IsTree m (is_active m)) (sym padded_map) kept.tree;
    few = few;
    below = λ o is. let old : o < length parents = kept.below o (ap (λ m. is_active m o) (sym padded_map) ∙ is) in omega (arith, old, longer);
    as_many = many;
    rows = λ o. listed o ∙ kept.rows o ∙ ap (λ m. children m o) (sym padded_map);
    active = λ o. kept.active o ∙ ap (λ m. is_active m o) (sym padded_map);
  }

  pub padded_view : (profile : Profile) (n : ℕ) → length more ≡ max (length parents) n
      → hierarchy_of profile more ≡ with_parents (hierarchy_of profile parents) (parents_of parents) (max (next_number profile (length parents) (is_active (parents_of parents))) n)
  padded_view profile n many = (λ i. record { profile = profile; parent = padded_map i; next = at profile i }) where
    at : (p : Profile) → next_number p (length more) (is_active (parents_of more)) ≡ next_number p (max (next_number p (length parents) (is_active (parents_of parents))) n) (is_active (parents_of parents))
    at One = many
    at Two = ap (λ m. least_failing (is_active m) MAX_OBJECTS 0) padded_map

  -- and with an object at one of them
  pub placed_view : (profile : Profile) (o p : ℕ) → length more ≡ max (length parents) (o + 1)
      → hierarchy_of profile (placed more o (Some p)) ≡ with_parents (hierarchy_of profile parents) (map.insert (parents_of parents) o p) (max (next_number profile (length parents) (is_active (parents_of parents))) (o + 1))
  placed_view profile o p many = (λ i. record { profile = profile; parent = map_is i; next = at profile i }) where
    place : o ≤ length more
    place = omega (arith, many)

    map_is : parents_of (placed more o (Some p)) ≡ map.insert (parents_of parents) o p
    map_is = parents_of-placed more o p place ∙ ap (λ m. map.insert m o p) padded_map

    size : length (placed more o (Some p)) ≡ length more
    size = (length-placed more o (Some p) place).2 ∙ ap (λ b. cond b (length more + 1) (length more)) (ne_eqb o (length more) (λ end. omega (arith, many, end)))

    at : (q : Profile) → next_number q (length (placed more o (Some p))) (is_active (parents_of (placed more o (Some p)))) ≡ next_number q (max (next_number q (length parents) (is_active (parents_of parents))) (o + 1)) (is_active (map.insert (parents_of parents) o p))
    at One = size ∙ many
    at Two = ap (λ m. least_failing (is_active m) MAX_OBJECTS 0) map_is
