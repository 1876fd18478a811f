-- What a map from numbers has at a number, as the map changes.
use Rattle.std.proofs.Common.{◌≡◌, ℕ, Bool, true, false, cond, nat_eq, ◌&&◌, ◌||◌, Option, Some, None, is_some, refl, sym, ap, subst, ◌∙◌, arith}
use Rattle.std.proofs.lemmas.Bool.Decides.{nat_tests}
use Rattle.std.specs.Ordering.{nat_cmp}
use Rattle.std.specs.Cmp.{nat_cmp_total, unsigned_tied, nat_eq_equiv}
use Rattle.std.specs.FinMap as map
use Rattle.std.specs.FinMap.{FinMap, nat_cmp-IsAntisymmetric}

-- a statement at one number, and at each other
pub by_number : (n q : ℕ) (P : ℕ → Type 0) → P n → (nat_eq q n ≡ false → P q) → P q
by_number n q P here other = from (nat_eq q n) refl where
  from : (b : Bool) → nat_eq q n ≡ b → P q
  from true same = let is : q ≡ n = grind (arith, nat_tests, same) in subst P (sym is) here
  from false is_other = other is_other

has_already : (e c : Bool) → (e ≡ true → c ≡ true) → (e || c) ≡ c
has_already true c known = sym (known refl)
has_already false c known = refl

module _ {X : Type 0} where
  -- at any number
  pub get-inserted : (m : FinMap nat_cmp X) (n : ℕ) (x : X) (q : ℕ) → map.get (map.insert m n x) q ≡ cond (nat_eq q n) (Some x) (map.get m q)
  get-inserted m n x q = map.get-insert nat_cmp_total m n x q ∙ ap (λ b. cond b (Some x) (map.get m q)) (unsigned_tied q n)

  -- at the number of the new entry
  pub at_new : (m : FinMap nat_cmp X) (n : ℕ) (x : X) → map.get (map.insert m n x) n ≡ Some x
  at_new m n x = get-inserted m n x n ∙ ap (λ b. cond b (Some x) (map.get m n)) (nat_eq_equiv.refl n)

  -- at a number that is that of the new entry
  pub at_same : (m : FinMap nat_cmp X) (n : ℕ) (x : X) (q : ℕ) → nat_eq q n ≡ true → map.get (map.insert m n x) q ≡ Some x
  at_same m n x q same = get-inserted m n x q ∙ ap (λ b. cond b (Some x) (map.get m q)) same

  -- at any other number
  pub elsewhere : (m : FinMap nat_cmp X) (n : ℕ) (x : X) (q : ℕ) → nat_eq q n ≡ false → map.get (map.insert m n x) q ≡ map.get m q
  elsewhere m n x q other = get-inserted m n x q ∙ ap (λ b. cond b (Some x) (map.get m q)) other

  is_some-cond : (b : Bool) (x : X) (e : Option X) → is_some (cond b (Some x) e) ≡ (b || is_some e)
  is_some-cond true x e = refl
  is_some-cond false x e = refl

  -- which numbers the map has with one entry more
  pub has-inserted : (m : FinMap nat_cmp X) (n : ℕ) (x : X) (q : ℕ)
      → map.contains_key (map.insert m n x) q ≡ (nat_eq q n || map.contains_key m q)
  has-inserted m n x q = ap is_some (get-inserted m n x q) ∙ is_some-cond (nat_eq q n) x (map.get m q)

  -- which numbers the map has with another value for one that it has
  pub has-replaced : (m : FinMap nat_cmp X) (n : ℕ) (x : X) (q : ℕ) → map.contains_key m n ≡ true
      → map.contains_key (map.insert m n x) q ≡ map.contains_key m q
  has-replaced m n x q there =
      has-inserted m n x q ∙ has_already (nat_eq q n) (map.contains_key m q) (λ same. let is : q ≡ n = grind (arith, nat_tests, same) in rw is there)

  -- what the map has where just the numbers that pass a test stay
  pub get-kept : (m : FinMap nat_cmp X) (p : ℕ → Bool) (q : ℕ) → map.get (map.retain_keys m p) q ≡ cond (p q) (map.get m q) None
  get-kept m p q = map.get-retain_keys m p q (λ x tie. ap p (sym (nat_cmp-IsAntisymmetric q x tie)))

  -- at a number that stays
  pub at_kept : (m : FinMap nat_cmp X) (p : ℕ → Bool) (q : ℕ) → p q ≡ true → map.get (map.retain_keys m p) q ≡ map.get m q
  at_kept m p q passes = get-kept m p q ∙ ap (λ b. cond b (map.get m q) None) passes

  is_some-kept : (b : Bool) (e : Option X) → is_some (cond b e None) ≡ (is_some e && b)
  is_some-kept true (Some x) = refl
  is_some-kept true None = refl
  is_some-kept false (Some x) = refl
  is_some-kept false None = refl

  -- which numbers the map has where just those that pass a test stay
  pub has-kept : (m : FinMap nat_cmp X) (p : ℕ → Bool) (q : ℕ) → map.contains_key (map.retain_keys m p) q ≡ (map.contains_key m q && p q)
  has-kept m p q = ap is_some (get-kept m p q) ∙ is_some-kept (p q) (map.get m q)

  kept_twice : (b c : Bool) (e : Option X) → cond c (cond b e None) None ≡ cond (b && c) e None
  kept_twice true c e = refl
  kept_twice false true e = refl
  kept_twice false false e = refl

  -- to keep the numbers that pass a test, and of these those that pass another, is to keep those that pass both
  pub retain_keys-twice : (m : FinMap nat_cmp X) (p q : ℕ → Bool) → map.retain_keys (map.retain_keys m p) q ≡ map.retain_keys m (λ k. p k && q k)
  retain_keys-twice m p q = map.same_map nat_cmp_total nat_cmp-IsAntisymmetric _ _ (λ k.
      get-kept (map.retain_keys m p) q k
      ∙ ap (λ e. cond (q k) e None) (get-kept m p k)
      ∙ kept_twice (p k) (q k) (map.get m k)
      ∙ sym (get-kept m (λ k. p k && q k) k))

  -- to enter a value at a number that stays, before or after the others go
  pub retain_keys-insert : (m : FinMap nat_cmp X) (p : ℕ → Bool) (n : ℕ) (x : X) → p n ≡ true
      → map.retain_keys (map.insert m n x) p ≡ map.insert (map.retain_keys m p) n x
  retain_keys-insert m p n x passes = map.same_map nat_cmp_total nat_cmp-IsAntisymmetric _ _ (λ q.
      get-kept (map.insert m n x) p q
      ∙ by_number n q (λ k. cond (p k) (map.get (map.insert m n x) k) None ≡ map.get (map.insert (map.retain_keys m p) n x) k)
      ((λ i. cond (passes i) (at_new m n x i) None) ∙ sym (at_new (map.retain_keys m p) n x))
      (λ other. ap (λ e. cond (p q) e None) (elsewhere m n x q other) ∙ sym (get-kept m p q) ∙ sym (elsewhere (map.retain_keys m p) n x q other)))

  kept_entry : (b : Bool) (e : Option X) (x : X) → cond b e None ≡ Some x → (b ≡ true) × (e ≡ Some x)
  kept_entry true e x is = (refl, is)
  kept_entry false e x is = cc

  -- an entry that stays was there, and its number passes the test
  pub was_there : (m : FinMap nat_cmp X) (p : ℕ → Bool) (q : ℕ) (x : X) → map.get (map.retain_keys m p) q ≡ Some x
      → (p q ≡ true) × (map.get m q ≡ Some x)
  was_there m p q x is = kept_entry (p q) (map.get m q) x (sym (get-kept m p q) ∙ is)
