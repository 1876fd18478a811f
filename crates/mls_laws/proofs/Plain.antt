-- Labels without categories.
use Rattle.std.proofs.Common.{◌≡◌, ℕ, Bool, true, false, ◌&&◌, [], Some, nat_le, nat_lt, refl}
use Rattle.std.specs.Cmp.{nat_cmp_total}
use Rattle.std.specs.FinSet as set
use Rattle.std.specs.FinSet.{nat_cmp-IsAntisymmetric}
use Rattle.mls_facts.specs.Each.{each}
use Rattle.mls_facts.proofs.Each.{each-from_list}
use Rattle.mls_facts.proofs.Sets.{is_subset-itself}
use Rattle.mls_labels.specs.Label.{Bounds, dominates, has_label}
use Rattle.mls_state.specs.State.{is_above}
use Rattle.mls_laws.specs.Examples.{plain}

pub and_true : (b c : Bool) → c ≡ true → (b && c) ≡ b
and_true true c is = is
and_true false c is = refl

-- of labels without categories the levels decide
pub plain_dominates : (a b : ℕ) → dominates (plain a) (plain b) ≡ nat_le b a
plain_dominates a b = and_true (nat_le b a) (set.is_subset set.empty set.empty) (is_subset-itself nat_cmp_total set.empty)

pub plain_above : (a b : ℕ) → is_above (Some (plain a)) (Some (plain b)) ≡ nat_le b a
plain_above a b = plain_dominates a b

pub plain_within : (b : Bounds) (n : ℕ) → has_label b (plain n) ≡ nat_lt n b.levels
plain_within b n = and_true (nat_lt n b.levels) (each set.empty (λ k. nat_lt k b.categories)) (each-from_list nat_cmp_total nat_cmp-IsAntisymmetric (λ k. nat_lt k b.categories) [])
