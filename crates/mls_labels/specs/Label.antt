-- Labels, dominance and the bounds of a label scheme.
use Rattle.std.specs.Prelude.{ℕ, Bool, ◌&&◌, nat_le, nat_lt, refl}
use Rattle.std.specs.Ordering.{nat_cmp}
use Rattle.std.specs.FinSet as set
use Rattle.std.specs.Coded.{Coded, code_by, coded×, coded_ℕ}
use Rattle.mls_facts.specs.Each.{each}

-- A label: a level number, and a finite set of category numbers. (MTR-2997, classification and categories)
pub record Label : Type 0 where
  pub level : ℕ
  pub categories : set.FinSet nat_cmp

-- One label dominates another where its level is as high, and its categories contain the other's. (MTR-2997, dominance)
abbrev pub dominates : Label → Label → Bool
dominates a b = nat_le b.level a.level && set.is_subset b.categories a.categories

-- How many levels and how many categories a scheme of labels has. (own)
pub record Bounds : Type 0 where
  pub levels : ℕ
  pub categories : ℕ

-- A label is within the bounds where its level and each of its categories are below their counts. (own)
abbrev pub has_label : Bounds → Label → Bool
has_label b l = nat_lt l.level b.levels && each l.categories (λ n. nat_lt n b.categories)

-- A label is stored as the pair of its parts. (own)
abbrev pub label_code : Coded Label
label_code =
    code_by (ℕ × set.FinSet nat_cmp) (coded× coded_ℕ (set.code coded_ℕ)) (λ l. (l.level, l.categories))
    (λ p. record { level = p.0; categories = p.1 }) (λ _. refl)

-- Bounds are stored as the pair of their parts. (own)
abbrev pub bounds_code : Coded Bounds
bounds_code =
    code_by (ℕ × ℕ) (coded× coded_ℕ coded_ℕ) (λ b. (b.levels, b.categories))
    (λ p. record { levels = p.0; categories = p.1 }) (λ _. refl)
