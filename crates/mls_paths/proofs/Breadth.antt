-- A search that goes on, breadth first, and what it has found in the end.
use Rattle.std.proofs.Common.{◌≡◌, ℕ, zero, suc, ◌+◌, ◌<◌, ◌≤◌, Bool, true, false, ◌⊎◌, inl, inr, List, [], ◌∷◌, ◌++◌, length, Option, Some, None, refl, sym, ap, subst, ◌∙◌, arith}
use Rattle.std.specs.Prelude.{slice_get, set, replicate}
use Rattle.std.proofs.lemmas.Bool.{cases_lt}
use Rattle.std.proofs.lemmas.List.{length-set, length_push, length-replicate}
use Rattle.std.proofs.lemmas.Option.{slice_get_within}
use Rattle.mls_flows.specs.declared.place.Place.{Place}
use Rattle.mls_paths.specs.declared.numbering.TheConstants.{PLACES}
use Rattle.mls_paths.specs.declared.reached.Came.{Came}
use Rattle.mls_paths.specs.declared.reached.Hand.{Hand}
use Rattle.mls_paths.specs.declared.reached.Reached.{Reached}
use Rattle.mls_paths.specs.Found.{IsCome, IsComeBy, AreWays, ComesIn, here, on, IsListed, IsThere, at_first, IsFlow}
use Rattle.mls_paths.specs.Numbering.{place_of}
use Rattle.mls_paths.specs.Searching.{unmarked, IsNewSearch, IsSearch, IsUnderWay, Extends, IsPassed, Visits, Expands, IsDone}
use Rattle.mls_paths.proofs.Lists.{at_pushed, still_at, last_at, within_at, one_less, marked_at, none_marked, all_unmarked, unmarked_at}

-- the place of a number, to which content comes by one hand from the place at an index
abbrev pub next : Reached → ℕ → Hand → ℕ → Reached
next from at h n = record { place = place_of n; steps = from.steps + 1; came = Some (record { before = at; hand = h }) }

module _ (R : Place → Hand → Place → Type 0) where
  come_still : (xs ys : List Reached) (i : ℕ) (r : Reached) (came : Option Came) → Extends xs ys → IsComeBy R xs i r came → IsComeBy R ys i r came
  come_still xs ys i r None more is = is
  come_still xs ys i r (Some c) more is = record { earlier = is.earlier; from = is.from; at = more c.before is.from is.at; hand = is.hand; steps = is.steps }

  listed_still : (xs ys : List Reached) (m : ℕ) (p : Place) → Extends xs ys → IsListed xs m p → IsListed ys m p
  listed_still xs ys m p more l = record { index = l.index; item = l.item; at = more l.index l.item l.at; is = l.is; soon = l.soon }

  passed_still : (xs ys : List Reached) (from : Reached) (n : ℕ) → Extends xs ys → IsPassed R xs from n → IsPassed R ys from n
  passed_still xs ys from n more passed h by = listed_still xs ys (from.steps + 1) (place_of n) more (passed h by)

  -- with one place more
  module _ (xs : List Reached) (marks : List Bool) (at n : ℕ) (from : Reached) (h : Hand) (s : IsSearch R xs marks at from) (free : slice_get marks n ≡ Some false)
      (by : R from.place h (place_of n)) where
    more : Extends xs (xs ++ next from at h n ∷ [])
    more i r there = still_at xs (next from at h n ∷ []) i r there

    inside : at < length xs
    inside = slice_get_within xs at from s.here

    ways : AreWays R (xs ++ next from at h n ∷ [])
    ways i r there = by_case (at_pushed xs (next from at h n) i r there) where
      by_case : (slice_get xs i ≡ Some r) ⊎ ((i ≡ length xs) × (next from at h n ≡ r)) → IsComeBy R (xs ++ next from at h n ∷ []) i r r.came
      by_case (inl was) = come_still xs (xs ++ next from at h n ∷ []) i r r.came more (s.search.ways i r was)
      by_case (inr (is, same)) =
          subst (λ z. IsComeBy R (xs ++ next from at h n ∷ []) i z z.came) same
          (record { earlier = subst (λ k. at < k) (sym is) inside; from = from; at = more at from s.here; hand = by; steps = refl })

    few : length (xs ++ next from at h n ∷ []) + unmarked (set marks n true) ≡ PLACES
    few =
        let long = length_push xs (next from at h n) in
        let less = one_less marks n free in
        let all = s.search.few in
        omega (arith, long, less, all)

    marked : (k : ℕ) → slice_get (set marks n true) k ≡ Some true → IsThere (xs ++ next from at h n ∷ []) (place_of k)
    marked k there = by_case (marked_at marks n k there) where
      by_case : (k ≡ n) ⊎ (slice_get marks k ≡ Some true) → IsThere (xs ++ next from at h n ∷ []) (place_of k)
      by_case (inl is) = record { index = length xs; item = next from at h n; at = last_at xs (next from at h n); is = ap place_of (sym is) }
      by_case (inr was) =
          let old = s.search.marked k was in
          record { index = old.index; item = old.item; at = more old.index old.item old.at; is = old.is }

    below : (i : ℕ) (r : Reached) → slice_get (xs ++ next from at h n ∷ []) i ≡ Some r → r.steps ≤ i
    below i r there = by_case (at_pushed xs (next from at h n) i r there) where
      by_case : (slice_get xs i ≡ Some r) ⊎ ((i ≡ length xs) × (next from at h n ≡ r)) → r.steps ≤ i
      by_case (inl was) = s.search.below i r was
      by_case (inr (is, same)) =
          let low : from.steps ≤ at = s.search.below at from s.here in
          let high : at < length xs = inside in
          let most : from.steps + 1 ≤ i = omega (arith, low, high, is) in
          subst (λ (z : Reached). z.steps ≤ i) same most

    near : (i : ℕ) (r : Reached) → slice_get (xs ++ next from at h n ∷ []) i ≡ Some r → r.steps ≤ from.steps + 1
    near i r there = by_case (at_pushed xs (next from at h n) i r there) where
      by_case : (slice_get xs i ≡ Some r) ⊎ ((i ≡ length xs) × (next from at h n ≡ r)) → r.steps ≤ from.steps + 1
      by_case (inl was) = s.near i r was
      by_case (inr (is, same)) = let same_steps : from.steps + 1 ≤ from.steps + 1 = omega arith in subst (λ (z : Reached). z.steps ≤ from.steps + 1) same same_steps

    ordered : (i j : ℕ) (a b : Reached) → i ≤ j → slice_get (xs ++ next from at h n ∷ []) i ≡ Some a → slice_get (xs ++ next from at h n ∷ []) j ≡ Some b → a.steps ≤ b.steps
    ordered i j a b up first second = by_case (at_pushed xs (next from at h n) i a first) (at_pushed xs (next from at h n) j b second) where
      by_case : (slice_get xs i ≡ Some a) ⊎ ((i ≡ length xs) × (next from at h n ≡ a)) → (slice_get xs j ≡ Some b) ⊎ ((j ≡ length xs) × (next from at h n ≡ b))
          → a.steps ≤ b.steps
      by_case (inl one) (inl other) = s.search.ordered i j a b up one other
      by_case (inl one) (inr (is, same)) = subst (λ (z : Reached). a.steps ≤ z.steps) same (s.near i a one)
      by_case (inr (is, same)) (inl other) = let low = slice_get_within xs j b other in absurd (omega (arith, low, is, up))
      by_case (inr (is, same)) (inr (is_too, same_too)) =
          let equal : from.steps + 1 ≤ from.steps + 1 = omega arith in
          subst (λ (z : Reached). a.steps ≤ z.steps) same_too (subst (λ (z : Reached). z.steps ≤ from.steps + 1) same equal)

    grown : IsSearch R (xs ++ next from at h n ∷ []) (set marks n true) at from
    grown = record {
      search = record {
        ways = ways;
        many = length-set marks n true ∙ s.search.many;
        few = few;
        marked = marked;
        below = below;
        ordered = ordered;
      };
      here = more at from s.here;
      near = near;
    }

    visits_grown : Visits R xs (xs ++ next from at h n ∷ []) (set marks n true) at from n
    visits_grown = record {
      search = grown;
      extends = more;
      passed = λ k is. record { index = length xs; item = next from at h n; at = last_at xs (next from at h n); is = refl; soon = omega arith };
    }

  pub visits_new : (xs ys : List Reached) (marks after : List Bool) (at n : ℕ) (from : Reached) (h : Hand) → IsSearch R xs marks at from → slice_get marks n ≡ Some false
      → R from.place h (place_of n) → ys ≡ xs ++ next from at h n ∷ [] → after ≡ set marks n true → Visits R xs ys after at from n
  visits_new xs ys marks after at n from h s free by is is_after =
      subst (λ zs. Visits R xs zs after at from n) (sym is)
      (subst (λ m. Visits R xs (xs ++ next from at h n ∷ []) m at from n) (sym is_after) (visits_grown xs marks at n from h s free by))

  -- nothing is new
  pub visits_none : (xs : List Reached) (marks : List Bool) (at n : ℕ) (from : Reached) → IsSearch R xs marks at from → IsPassed R xs from n → Visits R xs xs marks at from n
  visits_none xs marks at n from s passed = record { search = s; extends = λ i r there. there; passed = passed }

  pub visits_marked : (xs : List Reached) (marks : List Bool) (at n : ℕ) (from : Reached) → IsSearch R xs marks at from → slice_get marks n ≡ Some true → Visits R xs xs marks at from n
  visits_marked xs marks at n from s there = visits_none xs marks at n from s (λ h by.
      let old = s.search.marked n there in
      record { index = old.index; item = old.item; at = old.at; is = old.is; soon = s.near old.index old.item old.at })

  -- one number after the other
  pub expands_first : (xs : List Reached) (marks : List Bool) (at : ℕ) (from : Reached) → IsSearch R xs marks at from → Expands R xs xs marks at from 0
  expands_first xs marks at from s = record { search = s; extends = λ i r there. there; passed = λ n low. absurd (omega (arith, low)) }

  pub expands_on : (xs ys zs : List Reached) (marks after : List Bool) (at k : ℕ) (from : Reached) → Expands R xs ys marks at from k → Visits R ys zs after at from k
      → Expands R xs zs after at from (k + 1)
  expands_on xs ys zs marks after at k from first second = record {
    search = second.search;
    extends = λ i r there. second.extends i r (first.extends i r there);
    passed = passed;
  } where
    passed : (n : ℕ) → n < k + 1 → IsPassed R zs from n
    passed n low = by_case (cases_lt n k) where
      by_case : (n < k) ⊎ (k ≤ n) → IsPassed R zs from n
      by_case (inl earlier) = passed_still ys zs from n second.extends (first.passed n earlier)
      by_case (inr late) = let is : k ≡ n = omega (arith, low, late) in subst (λ m. IsPassed R zs from m) is second.passed

  -- the search as it goes on
  pub at_head : (p : Place) (xs : List Reached) (marks : List Bool) (at : ℕ) (from : Reached) → IsUnderWay R p xs marks at → slice_get xs at ≡ Some from
      → IsSearch R xs marks at from
  at_head p xs marks at from u there = record { search = u.search; here = there; near = u.near from there }

  pub goes_on : (p : Place) (xs ys : List Reached) (marks after : List Bool) (at : ℕ) (from : Reached) → IsUnderWay R p xs marks at → slice_get xs at ≡ Some from
      → Expands R xs ys after at from PLACES → IsUnderWay R p ys after (at + 1)
  goes_on p xs ys marks after at from u there e = record {
    search = e.search.search;
    first = e.extends 0 (at_first p) u.first;
    near = near;
    done = done;
    inside = let low = slice_get_within ys at from e.search.here in omega (arith, low);
  } where
    near : (a : Reached) → slice_get ys (at + 1) ≡ Some a → (j : ℕ) (b : Reached) → slice_get ys j ≡ Some b → b.steps ≤ a.steps + 1
    near a here_is j b there_is =
        let up : at ≤ at + 1 = omega arith in
        let later : from.steps ≤ a.steps = e.search.search.ordered at (at + 1) from a up e.search.here here_is in
        let most : b.steps ≤ from.steps + 1 = e.search.near j b there_is in
        omega (arith, later, most)

    done : IsDone R ys (at + 1)
    done i a low there_is = by_case (cases_lt i at) where
      by_case : (i < at) ⊎ (at ≤ i) → (n : ℕ) → n < PLACES → IsPassed R ys a n
      by_case (inl earlier) n few =
          let inside = slice_get_within xs at from there in
          let old = within_at xs i (omega (arith, earlier, inside)) in
          let same : Some old.0 ≡ Some a = sym (e.extends i old.0 old.1) ∙ there_is in
          let is : old.0 ≡ a = cc in
          subst (λ z. IsPassed R ys z n) is (passed_still xs ys old.0 n e.extends (u.done i old.0 earlier old.1 n few))
      by_case (inr late) n few =
          let is : i ≡ at = omega (arith, low, late) in
          let same : Some from ≡ Some a = sym e.search.here ∙ ap (slice_get ys) (sym is) ∙ there_is in
          let equal : from ≡ a = cc in
          subst (λ z. IsPassed R ys z n) equal (e.passed n few)

  -- from one place
  pub begins : (n : ℕ) (p : Place) (xs : List Reached) (marks : List Bool) → n < PLACES → place_of n ≡ p → xs ≡ at_first p ∷ [] → marks ≡ set (replicate PLACES false) n true
      → IsUnderWay R p xs marks 0
  begins n p xs marks low is first marked =
      subst (λ zs. IsUnderWay R p zs marks 0) (sym first) (subst (λ m. IsUnderWay R p (at_first p ∷ []) m 0) (sym marked) start) where
        only : (i : ℕ) (r : Reached) → slice_get (at_first p ∷ []) i ≡ Some r → (i ≡ 0) × (at_first p ≡ r)
        only zero r there = (refl, cc)
        only (suc i) r there = cc

        marked_only : (k : ℕ) → slice_get (set (replicate PLACES false) n true) k ≡ Some true → IsThere (at_first p ∷ []) (place_of k)
        marked_only k there = by_case (marked_at (replicate PLACES false) n k there) where
          by_case : (k ≡ n) ⊎ (slice_get (replicate PLACES false) k ≡ Some true) → IsThere (at_first p ∷ []) (place_of k)
          by_case (inl same) = record { index = 0; item = at_first p; at = refl; is = sym is ∙ ap place_of (sym same) }
          by_case (inr was) = absurd (none_marked PLACES k was)

        start : IsUnderWay R p (at_first p ∷ []) (set (replicate PLACES false) n true) 0
        start = record {
          search = record {
            ways = λ i r there. let one = only i r there in subst (λ (z : Reached). IsComeBy R (at_first p ∷ []) i z z.came) one.1 (one.0, refl);
            many = length-set (replicate PLACES false) n true ∙ length-replicate PLACES false;
            few =
                let less = one_less (replicate PLACES false) n (unmarked_at PLACES n low) in
                let all = all_unmarked PLACES in
                omega (arith, less, all);
            marked = marked_only;
            below = λ i r there. subst (λ (z : Reached). z.steps ≤ i) ((only i r there).1) (omega arith);
            ordered = λ i j a b up one other. subst (λ (z : Reached). z.steps ≤ b.steps) ((only i a one).1) (omega arith);
          };
          first = refl;
          near = λ a at_head j b there. subst (λ (z : Reached). z.steps ≤ a.steps + 1) ((only j b there).1) (omega arith);
          done = λ i a under there. absurd (omega (arith, under));
          inside = omega arith;
        }

  -- in the end
  pub is_flow : (p : Place) (xs : List Reached) (marks : List Bool) (at : ℕ) → ((q r : Place) (h : Hand) → R q h r → (n : ℕ) × (n < PLACES) × (place_of n ≡ r))
      → IsUnderWay R p xs marks at → length xs ≤ at → IsFlow R p xs
  is_flow p xs marks at numbers u past = record { first = u.first; ways = u.search.ways; ordered = u.search.ordered; all = all } where
    all : (n : ℕ) (q : Place) → ComesIn R p n q → IsListed xs n q
    all n q here = record { index = 0; item = at_first p; at = u.first; is = refl; soon = omega arith }
    all n r (on m q s h by rest) =
        let l = all m q rest in
        let number = numbers q s h by in
        let low = slice_get_within xs l.index l.item l.at in
        let found = u.done l.index l.item (omega (arith, low, past)) l.at number.0 number.1 h (subst (λ z. R z h (place_of number.0)) (sym l.is) (subst (λ z. R q h z) (sym number.2) by)) in
        let soon = l.soon in
        let steps = found.soon in
        record { index = found.index; item = found.item; at = found.at; is = found.is ∙ number.2; soon = omega (arith, soon, steps) }

  pub few_places : (p : Place) (xs : List Reached) (marks : List Bool) (at : ℕ) → IsUnderWay R p xs marks at → length xs ≤ PLACES
  few_places p xs marks at u = let few = u.search.few in omega (arith, few)
