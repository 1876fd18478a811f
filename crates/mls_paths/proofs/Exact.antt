-- What the search finds is what the closure has.
use Rattle.std.proofs.Common.{◌≡◌, ◌↔◌, ℕ, zero, suc, ◌+◌, ◌<◌, Bool, List, Option, Some, None, Result, Ok, Err, refl, sym, ap, subst, ◌∙◌, arith}
use Rattle.std.specs.Prelude.{slice_get, IfOk}
use Rattle.mls_state.specs.State.{State}
use Rattle.mls_flows.specs.Reaching.{CouldReach, here as is_here, seen, altered, handed}
use Rattle.mls_flows.specs.declared.place.Place.{Place}
use Rattle.mls_flows.specs.declared.place.Place.TheVariants.{Subject, Object}
use Rattle.mls_paths.specs.declared.reached.Came.{Came}
use Rattle.mls_paths.specs.declared.reached.Hand.{Hand}
use Rattle.mls_paths.specs.declared.reached.Hand.TheVariants.{By, Made}
use Rattle.mls_paths.specs.declared.reached.Reached.{Reached}
use Rattle.mls_paths.specs.Found.{IsComeBy, ComesIn, here, on, at_first, IsFlow, IsThere}
use Rattle.mls_paths.specs.Hands.{IsHand}

module _ (v : State) (acts : ℕ → Bool) (room : Bool) where
  hand_reach : (from q p : Place) (h : Hand) → IsHand v acts room q h p → CouldReach v acts room from q → CouldReach v acts room from p
  hand_reach from (Object o) (Subject s) (By x) by reach = seen s o x by.0 by.1 reach
  hand_reach from (Subject s) (Object o) (By x) by reach = altered s o x by.0 by.1 reach
  hand_reach from (Subject s) (Subject t) (Made maker parent) by reach =
      handed s t by.free (record {
        hands = by.hands;
        takes = by.takes.takes;
        maker = maker;
        parent = parent;
        makes = by.takes.makes;
        lower = by.lower;
        fits = by.takes.fits;
        cleared = by.takes.cleared;
      }) reach
  hand_reach from (Subject s) (Subject t) (By x) by reach = absurd by
  hand_reach from (Subject s) (Object o) (Made maker parent) by reach = absurd by
  hand_reach from (Object o) (Object p) (By x) by reach = absurd by
  hand_reach from (Object o) (Object p) (Made maker parent) by reach = absurd by
  hand_reach from (Object o) (Subject s) (Made maker parent) by reach = absurd by

  comes_reach : (from : Place) (n : ℕ) (p : Place) → ComesIn (IsHand v acts room) from n p → CouldReach v acts room from p
  comes_reach from n p here = is_here
  comes_reach from n p (on m q r h by rest) = hand_reach from q r h by (comes_reach from m q rest)

  reach_comes : (from p : Place) → CouldReach v acts room from p → (n : ℕ) × ComesIn (IsHand v acts room) from n p
  reach_comes from p is_here = (0, here)
  reach_comes from p (seen s o x observe could rest) =
      let before = reach_comes from (Object o) rest in (suc before.0, on before.0 (Object o) (Subject s) (By x) (observe, could) before.1)
  reach_comes from p (altered s o x alter could rest) =
      let before = reach_comes from (Subject s) rest in (suc before.0, on before.0 (Subject s) (Object o) (By x) (alter, could) before.1)
  reach_comes from p (handed s t free hand rest) =
      let before = reach_comes from (Subject s) rest in (
        suc before.0,
        on before.0 (Subject s) (Subject t) (Made hand.maker hand.parent)
            (record {
              free = free;
              hands = hand.hands;
              lower = hand.lower;
              takes = record { takes = hand.takes; makes = hand.makes; fits = hand.fits; cleared = hand.cleared };
            })
            before.1,
      )

-- each place of the list has a way of so many hands
pub way_comes : (R : Place → Hand → Place → Type 0) (from : Place) (xs : List Reached) → IsFlow R from xs → (fuel i : ℕ) (r : Reached) → i < fuel
    → slice_get xs i ≡ Some r → ComesIn R from r.steps r.place
way_comes R from xs f zero i r low there = absurd (omega (arith, low))
way_comes R from xs f (suc fuel) i r low there = by_case (λ j q under at. way_comes R from xs f fuel j q under at) r.came (f.ways i r there) where
  by_case : ((j : ℕ) (q : Reached) → j < fuel → slice_get xs j ≡ Some q → ComesIn R from q.steps q.place) → (c : Option Came) → IsComeBy R xs i r c
      → ComesIn R from r.steps r.place
  by_case before None is =
      let at : Some (at_first from) ≡ Some r = sym f.first ∙ ap (slice_get xs) (sym is.0) ∙ there in
      let same : at_first from ≡ r = cc in
      subst (λ (z : Reached). ComesIn R from z.steps z.place) same here
  by_case before (Some c) is =
      let earlier = is.earlier in
      let steps = is.steps in
      let same : suc is.from.steps ≡ r.steps = omega (arith, steps) in
      subst (λ k. ComesIn R from k r.place) same
      (on is.from.steps is.from.place r.place c.hand is.hand (before c.before is.from (omega (arith, earlier, low)) is.at))

-- the list has just the places that the closure has
pub found_exact : (v : State) (acts : ℕ → Bool) (room : Bool) (from : Place) (xs : List Reached) → IsFlow (IsHand v acts room) from xs
    → (p : Place) → IsThere xs p ↔ CouldReach v acts room from p
found_exact v acts room from xs f p = (
  λ there. subst (CouldReach v acts room from) there.is
      (comes_reach v acts room from there.item.steps there.item.place
      (way_comes (IsHand v acts room) from xs f (suc there.index) there.index there.item (omega arith) there.at)),
  λ reach.
      let comes = reach_comes v acts room from p reach in
      let listed = f.all comes.0 p comes.1 in
      record { index = listed.index; item = listed.item; at = listed.at; is = listed.is },
)

-- the same of a result
pub told_reach : {A E : Type 0} (v : State) (acts : ℕ → Bool) (room : Bool) (from : Place) (result : Result A E) (items : A → List Reached)
    → IfOk result (λ x. IsFlow (IsHand v acts room) from (items x)) → IfOk result (λ x. (p : Place) → IsThere (items x) p ↔ CouldReach v acts room from p)
told_reach v acts room from (Ok x) items f = found_exact v acts room from (items x) f
told_reach v acts room from (Err e) items f = tt
