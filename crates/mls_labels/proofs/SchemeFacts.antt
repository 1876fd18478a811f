-- What it says of a scheme that it has no fault.
use Rattle.std.specs.Prelude.{◌≡◌, ◌≤◌, Bool, true, false, cond, nat_eq, nat_lt, length, Option, None, Some, refl}
use Rattle.std.specs.List.{list_all}
use Rattle.std.proofs.Common.{arith}
use Rattle.std.proofs.lemmas.Bool.{not-false, or_parts}
use Rattle.std.proofs.lemmas.Bool.Decides.{nat_tests}
use Rattle.mls_labels.specs.declared.limits.TheConstants.{MAX_LEVELS, MAX_CATEGORIES}
use Rattle.mls_labels.specs.Names.{is_name, has_twice}
use Rattle.mls_labels.specs.Scheme.{Scheme, IsScheme}

-- what is true of a scheme's names
pub record Sound (s : Scheme) : Type 0 where
  pub some : 1 ≤ length s.levels
  pub levels : length s.levels ≤ MAX_LEVELS
  pub categories : length s.categories ≤ MAX_CATEGORIES
  pub level_names : list_all is_name s.levels ≡ true
  pub category_names : list_all is_name s.categories ≡ true
  pub levels_once : has_twice s.levels ≡ false
  pub categories_once : has_twice s.categories ≡ false

passed : {X : Type 0} (b : Bool) (x : X) (y : Option X) → cond b (Some x) y ≡ None → (b ≡ false) × (y ≡ None)
passed true x y h = cc
passed false x y h = (refl, h)

pub sound : (s : Scheme) → IsScheme s → Sound s
sound s h =
    let a = passed _ _ _ h in
    let b = passed _ _ _ a.1 in
    let c = passed _ _ _ b.1 in
    let d = passed _ _ _ c.1 in
    let e = passed _ _ _ d.1 in
    let names = or_parts _ _ d.0 in
    let once = or_parts _ _ e.0 in
    let none : nat_eq (length s.levels) 0 ≡ false = a.0 in
    let levels : nat_lt MAX_LEVELS (length s.levels) ≡ false = b.0 in
    let categories : nat_lt MAX_CATEGORIES (length s.categories) ≡ false = c.0 in
    record {
      some = grind (arith, nat_tests, none);
      levels = grind (arith, nat_tests, levels);
      categories = grind (arith, nat_tests, categories);
      level_names = not-false _ names.0;
      category_names = not-false _ names.1;
      levels_once = once.0;
      categories_once = once.1;
    }
