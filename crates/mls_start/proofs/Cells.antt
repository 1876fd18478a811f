-- Lists of triples as sets: with the same members, and with each member once.
use Rattle.std.proofs.Common.{◌≡◌, ℕ, ◌+◌, ◌<◌, ◌≤◌, ◌⊎◌, ⊎_elim, Result, Ok, Err, get_or, Bool, true, false, cond, ◌||◌, List, [], ◌∷◌, ◌++◌, length, Contains, refl, sym, ap, subst, ◌∙◌, arith}
use Rattle.std.specs.List.{list_any, list_all, dedup, AllByRecursion}
use Rattle.std.specs.List.Sorted.{IsSorted, IsStrictlySortedBy, IsPermutation, IsSearchInRange, IsBinarySearchResult}
use Rattle.std.specs.Ordering.{eq_by_cmp, is_eq, is_lt, ordering_reverse}
use Rattle.std.specs.Result.{is_ok}
use Rattle.std.specs.declared.cmp.Ordering.{Ordering}
use Rattle.std.specs.Cmp.{IsEquivalence, Equal-is, eq_by_cmp_equiv}
use Rattle.std.specs.declared.cmp.Ordering.TheVariants.{Less, Equal, Greater}
use Rattle.std.specs.FinSet as set
use Rattle.std.proofs.lemmas.List.Kept.{Contains-dedup, Contains-from_dedup, IsStrictlySortedBy-dedup}
use Rattle.std.proofs.lemmas.List.Sorted.{Contains-permutation, IsPermutation-sym, searchable_from_sorted}
use Rattle.std.proofs.lemmas.List.Folds.{list_any_at, list_any_none}
use Rattle.std.proofs.lemmas.Map.Keys.{Less-from_sorted}
use Rattle.std.proofs.lemmas.Bool.{cases_lt}
use Rattle.std.proofs.lemmas.Map.Views.{list_any-from_Contains, Contains-from_any}
use Rattle.mls_tables.specs.Triples.{Triple, triple_cmp, is_triple}
use Rattle.mls_tables.proofs.Laws.{triples_total, same_triple, same_triples, is_triple-true, eq_by_cmp-triple, contains-from_list-triple}
use Rattle.mls_facts.specs.Each.{each}
use Rattle.mls_facts.proofs.Each.{each-from_list}
use Rattle.mls_facts.proofs.Passing.{same_tests}

-- a triple is in a list where it is in the list's set
in_set : (ts : List Triple) (t : Triple) → Contains ts t → set.contains (set.from_list {R = triple_cmp} ts) t ≡ true
in_set ts t there = set.contains-from_list triples_total ts t ∙ list_any-from_Contains (eq_by_cmp_equiv triples_total) t ts there

in_list : (ts : List Triple) (t : Triple) → set.contains (set.from_list {R = triple_cmp} ts) t ≡ true → Contains ts t
in_list ts t there =
    Contains-from_any (λ (x y : Triple) tie. same_triple x y ((Equal-is (triple_cmp x y)).0 tie)) t ts (sym (set.contains-from_list triples_total ts t) ∙ there)

-- to test each triple of a list's set is to test all of the list
pub each_listed : (p : Triple → Bool) (ts : List Triple) → each (set.from_list {R = triple_cmp} ts) p ≡ list_all p ts
each_listed p ts = each-from_list triples_total same_triple p ts

-- to push a triple is to insert it
pub from_list_pushed : (ts : List Triple) (t : Triple) → set.from_list {R = triple_cmp} (ts ++ t ∷ []) ≡ set.insert (set.from_list ts) t
from_list_pushed ts t = set.from_list_push triples_total same_triple ts t

-- lists with the same members are of one set
pub same_members : (us ts : List Triple) → ((t : Triple) → Contains us t → Contains ts t) → ((t : Triple) → Contains ts t → Contains us t)
    → set.from_list {R = triple_cmp} us ≡ set.from_list ts
same_members us ts there back = same_triples _ _ (λ t. same_tests _ _ (λ h. in_set ts t (there t (in_list us t h))) (λ h. in_set us t (back t (in_list ts t h))))

-- a triple that is below all of a list is not in it
not_among : (t : Triple) (ts : List Triple) → AllByRecursion (λ u. triple_cmp t u ≡ Less) ts → list_any (eq_by_cmp triple_cmp t) ts ≡ false
not_among t [] h = refl
not_among t (u ∷ ts) h = λ i. is_eq (h.0 i) || not_among t ts h.1 i

-- a list in which each triple is below all later ones is as long as its set has triples
pub length-ascending : (ts : List Triple) → IsStrictlySortedBy triple_cmp ts → length ts ≡ set.len (set.from_list {R = triple_cmp} ts)
unfolding IsStrictlySortedBy
length-ascending [] h = sym (set.len-empty triple_cmp)
length-ascending (t ∷ ts) h =
    let new : set.contains (set.from_list {R = triple_cmp} ts) t ≡ false = set.contains-from_list triples_total ts t ∙ not_among t ts h.0 in
    let more : set.len (set.insert (set.from_list {R = triple_cmp} ts) t) ≡ set.len (set.from_list {R = triple_cmp} ts) + 1 =
    set.len-insert triples_total (set.from_list ts) t ∙ ap (λ b. cond b (set.len (set.from_list {R = triple_cmp} ts)) (set.len (set.from_list {R = triple_cmp} ts) + 1)) new in
    let rest : length ts ≡ set.len (set.from_list {R = triple_cmp} ts) = length-ascending ts h.1 in
    omega arith

is_equivalence : IsEquivalence is_triple
is_equivalence = subst (λ (e : Triple → Triple → Bool). IsEquivalence e) (λ i t u. eq_by_cmp-triple t u i) (eq_by_cmp_equiv triples_total)

module _ (ts sorted kept : List Triple) (moved : IsPermutation ts sorted) (once : kept ≡ dedup is_triple sorted) where
  -- a list of which each triple is left once is of the same set
  pub once-same : set.from_list {R = triple_cmp} kept ≡ set.from_list ts
  once-same = rw once (same_members (dedup is_triple sorted) ts
      (λ t h. Contains-permutation sorted ts t (IsPermutation-sym ts sorted moved) (Contains-from_dedup is_triple sorted t h))
      (λ t h. Contains-dedup is_equivalence is_triple-true sorted t (Contains-permutation ts sorted t moved h)))

  -- it ascends
  pub once-ascending : IsSorted triple_cmp sorted → IsStrictlySortedBy triple_cmp kept
  once-ascending ascending =
      rw once (IsStrictlySortedBy-dedup triples_total {E = is_triple} (λ t u. sym (eq_by_cmp-triple t u)) sorted ascending)

  -- and is as long as the set has triples
  pub once-length : IsSorted triple_cmp sorted → length kept ≡ set.len (set.from_list {R = triple_cmp} ts)
  once-length ascending = length-ascending kept (once-ascending ascending) ∙ ap set.len once-same

reversed_less : (a : Ordering) → a ≡ Less → is_lt (ordering_reverse a) ≡ false
reversed_less Less is = refl
reversed_less Equal is = refl
reversed_less Greater is = cc

-- a list in which each triple is below all later ones is sorted
sorted_from_strict : (ts : List Triple) → IsStrictlySortedBy triple_cmp ts → IsSorted triple_cmp ts
sorted_from_strict ts strict k d low within =
    ap is_lt (triples_total.antisymm (get_or ts (k + 1) d) (get_or ts k d))
    ∙ reversed_less _ (Less-from_sorted triple_cmp ts k (k + 1) d strict (omega arith) within)

-- a triple that is below or above another is not that one
apart : (t u : Triple) (o : Ordering) → triple_cmp t u ≡ o → is_eq o ≡ false → is_triple t u ≡ false
apart t u o is other = sym (eq_by_cmp-triple t u) ∙ ap is_eq is ∙ other

-- whether a search finds a triple in a list that ascends is whether the triple is in the list's set
pub found : (ts : List Triple) (t : Triple) (r : Result ℕ ℕ) → IsSearchInRange r (length ts)
    → IsBinarySearchResult (λ u. triple_cmp u t) ts r → IsStrictlySortedBy triple_cmp ts
    → is_ok r ≡ set.contains (set.from_list {R = triple_cmp} ts) t
found ts t (Ok k) within at strict =
    sym (contains-from_list-triple ts t
    ∙ list_any_at (λ u. is_triple u t) ts k t within (sym (eq_by_cmp-triple (get_or ts k t) t) ∙ ap is_eq (at t)))
found ts t (Err k) within at strict =
    let parts = at (searchable_from_sorted triples_total (λ u. u) ts t (sorted_from_strict ts strict)) in
    let none : (j : ℕ) (d : Triple) → j < length ts → (j < k) ⊎ (k ≤ j) → is_triple (get_or ts j d) t ≡ false =
    λ j d inside side. ⊎_elim
    (λ below. apart (get_or ts j d) t Less (parts.0 j d (omega arith) below) refl)
    (λ above. apart (get_or ts j d) t Greater (parts.1 j d above inside) refl) side in
    sym (contains-from_list-triple ts t
    ∙ list_any_none (λ u. is_triple u t) ts (λ j d inside. none j d inside (cases_lt j k)))
