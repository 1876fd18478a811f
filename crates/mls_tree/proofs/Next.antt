-- The next number of a profile.
use Rattle.std.proofs.Common.{◌≡◌, ℕ, ◌+◌, ◌<◌, ◌≤◌, ◌⊎◌, inl, inr, Bool, true, false, nat_eq, ◌||◌, IsTrue, refl, sym, ap, subst, ◌∙◌, arith}
use Rattle.std.proofs.lemmas.Bool.{cases_Bool, cases_eq, cases_lt, ne_eqb, false_from_ne_true}
use Rattle.mls_tables.specs.declared.limits.TheConstants.{MAX_OBJECTS}
use Rattle.mls_facts.specs.Least.{least_failing}
use Rattle.mls_facts.proofs.Least.{least_failing-most, least_failing-fails, least_failing-passes, least_failing-is, least_failing-same}
use Rattle.mls_tree.specs.Tree.{is_active, next_number, HasNext}
use Rattle.mls_tree.proofs.Grown.{nobody, root_alone}
use Rattle.mls_tree.specs.declared.profile.Profile.{Profile}
use Rattle.mls_tree.specs.declared.profile.Profile.TheVariants.{One, Two}

-- the next number, where there is one, isn't active
pub next_free : (profile : Profile) (active : ℕ → Bool) (next : ℕ) → HasNext profile active next → next < MAX_OBJECTS → active next ≡ false
next_free One active next has room = false_from_ne_true _ (λ there. let below : next < next = has.right next there in absurd (omega arith))
next_free Two active next has room =
    let at : next ≡ least_failing active MAX_OBJECTS 0 = has.right in
    ap active at ∙ least_failing-fails active MAX_OBJECTS 0 (omega (arith, at, room))

-- in profile 2 all numbers below it are
pub next_above : (active : ℕ → Bool) (next q : ℕ) → HasNext Two active next → q < next → active q ≡ true
next_above active next q has low =
    let at : next ≡ least_failing active MAX_OBJECTS 0 = has.right in
    least_failing-passes active MAX_OBJECTS 0 q (omega arith) (omega (arith, at, low))

-- where a number is above all that are active, and at least the one that is given, the next number is at most that
pub next_most : (profile : Profile) (active : ℕ → Bool) (given n : ℕ) → given ≤ n → ((o : ℕ) → IsTrue (active o) → o < n) → next_number profile given active ≤ n
next_most One active given n few above = few
next_most Two active given n few above = from (cases_lt n (least_failing active MAX_OBJECTS 0)) where
  from : (n < least_failing active MAX_OBJECTS 0) ⊎ (least_failing active MAX_OBJECTS 0 ≤ n) → least_failing active MAX_OBJECTS 0 ≤ n
  from (inl past) = let low : n < n = above n (least_failing-passes active MAX_OBJECTS 0 n (omega arith) past) in absurd (omega arith)
  from (inr within) = within

-- a number above all that are active gives a next number
pub HasNext-above : (profile : Profile) (active : ℕ → Bool) (n : ℕ) → n ≤ MAX_OBJECTS → ((o : ℕ) → IsTrue (active o) → o < n) → HasNext profile active (next_number profile n active)
HasNext-above One active n few above = record { few = few; right = above }
HasNext-above Two active n few above = record { few = let most = least_failing-most active MAX_OBJECTS 0 in omega arith; right = refl }

-- the next number after it became active
pub HasNext-insert : (profile : Profile) (active more : ℕ → Bool) (next : ℕ) → HasNext profile active next → next < MAX_OBJECTS
    → ((o : ℕ) → more o ≡ (nat_eq o next || active o)) → HasNext profile more (next_number profile (next + 1) more)
HasNext-insert One active more next has room grows = record { few = omega arith; right = λ o is. from o is (cases_eq o next) } where
  from : (o : ℕ) → IsTrue (more o) → (o ≡ next) ⊎ (o ≡ next → ⊥) → o < next + 1
  from o is (inl same) = omega arith
  from o is (inr other) =
      let old : active o ≡ true = sym (grows o ∙ ap (λ b. b || active o) (ne_eqb o next other)) ∙ is in
      let below : o < next = has.right o old in
      omega arith
HasNext-insert Two active more next has room grows = record { few = let most = least_failing-most more MAX_OBJECTS 0 in omega arith; right = refl }

-- the next number after some became inactive
pub HasNext-retain : (profile : Profile) (active left : ℕ → Bool) (next : ℕ) → HasNext profile active next
    → ((o : ℕ) → left o ≡ true → active o ≡ true) → HasNext profile left (next_number profile next left)
HasNext-retain One active left next has was = record { few = has.few; right = λ o is. has.right o (was o is) }
HasNext-retain Two active left next has was = record { few = let most = least_failing-most left MAX_OBJECTS 0 in omega arith; right = refl }

-- tests that agree below 4,096 have one next number
pub next_number-same : (profile : Profile) (given : ℕ) (p q : ℕ → Bool) → ((o : ℕ) → p o ≡ q o) → next_number profile given p ≡ next_number profile given q
next_number-same One given p q same = refl
next_number-same Two given p q same = least_failing-same p q MAX_OBJECTS 0 (λ k low high. same k)

-- the next number of the root alone
pub next-root : (profile : Profile) → next_number profile 1 (is_active nobody) ≡ 1
next-root One = refl
next-root Two = least_failing-is (is_active nobody) MAX_OBJECTS 0 1 (omega arith) (omega arith) (λ q from below. let at : q ≡ 0 = omega arith in ap (is_active nobody) at) (λ within. none (cases_Bool (is_active nobody 1))) where
  none : (is_active nobody 1 ≡ true) ⊎ (is_active nobody 1 ≡ false) → is_active nobody 1 ≡ false
  none (inl is) = let at : 1 ≡ 0 = root_alone 1 is in absurd (omega (arith, at))
  none (inr out) = out

-- which is right
pub HasNext-root : (profile : Profile) → HasNext profile (is_active nobody) 1
HasNext-root profile =
    subst (HasNext profile (is_active nobody)) (next-root profile) (HasNext-above profile (is_active nobody) 1 (omega arith) (λ o is. let at : o ≡ 0 = root_alone o is in omega arith))
