use Rattle.std.proofs.Common.{rules, subst, ℕ}
use Rattle.std.specs.Prelude.{map}
use Rattle.std.specs.List.Sorted.{IsPermutation}
use Rattle.std.proofs.lemmas.List.Sorted.{IsPermutation-map, IsNonDecreasingBy-from_sort_by_key}
use Rattle.mls_groups.proofs.Runs.{keys_in_order}
use Rattle.mls_groups.proofs.grouping.in_order.Goals as goal

pub returns-clause-same : goal.returns-clause-same
returns-clause-same c =
    subst (λ ks. IsPermutation ks (map (λ (m : ℕ × ℕ). m.0) c.sort_by_key.new.self.items)) c.in_ok-members.ensures
    (IsPermutation-map (λ (m : ℕ × ℕ). m.0) _ _ c.sort_by_key.ensures.permutation)

pub returns-clause-sorted : goal.returns-clause-sorted
returns-clause-sorted c =
    keys_in_order c.sort_by_key.new.self.items
    (IsNonDecreasingBy-from_sort_by_key (λ (m : ℕ × ℕ). m.0) c.sort_by_key.new.self.items c.in_ok-sort_by_key.ensures.sorted (λ a r q k. search rules))
