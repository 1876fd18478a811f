use Rattle.std.proofs.Common.{rules, ℕ, ◌-◌, ◌≤◌, slice_index_or, subst, arith}
use Rattle.std.specs.List.Sorted.{IsPermutation}
use Rattle.std.proofs.lemmas.List.Sorted.{IsNonDecreasingBy-from_sort_by_key}
use Rattle.mls_groups.specs.Weights.{weight_at}
use Rattle.mls_groups.proofs.weight.by_weight.Goals as goal

pub returns : goal.returns
returns c =
    let weights = c.args.weights.now in
    let places = c.sort_by_key.new.self.items in
    let ordered = IsNonDecreasingBy-from_sort_by_key (λ (p : ℕ). 18446744073709551615 - weight_at weights p) places c.in_ok-sort_by_key.ensures.sorted (λ a r q k. search rules) in
    let few : (i : ℕ) → weight_at weights i ≤ 18446744073709551615 = λ i. omega (arith, c.type_inv.weights i) in
    record {
      all = subst (λ l. IsPermutation l places) c.in_ok-places.ensures c.sort_by_key.ensures.permutation;
      heaviest = λ i j le within. omega (arith, ordered i j 0 le within, few (slice_index_or places i 0), few (slice_index_or places j 0));
    }
