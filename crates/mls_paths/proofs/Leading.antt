-- Ways with one more hop, and ways that are shortest.
use Rattle.std.proofs.Common.{◌≡◌, ℕ, ◌+◌, ◌<◌, ◌≤◌, Bool, ◌⊎◌, inl, inr, List, [], ◌∷◌, ◌++◌, length, Option, Some, None, refl, sym, ap, subst, ◌∙◌, append-nil, arith}
use Rattle.std.specs.Prelude.{slice_get}
use Rattle.std.proofs.lemmas.Bool.{cases_lt}
use Rattle.std.proofs.lemmas.List.{append_assoc, length_push}
use Rattle.mls_state.specs.State.{State}
use Rattle.mls_flows.specs.declared.place.Place.{Place}
use Rattle.mls_paths.specs.declared.reached.Came.{Came}
use Rattle.mls_paths.specs.declared.reached.Hand.{Hand}
use Rattle.mls_paths.specs.declared.reached.Hop.{Hop}
use Rattle.mls_paths.specs.declared.reached.Reached.{Reached}
use Rattle.mls_paths.specs.Found.{IsComeBy, IsListed, at_first, IsFlow}
use Rattle.mls_paths.specs.Hands.{IsHand}
use Rattle.mls_paths.specs.Ways.{LeadsOn, IsShortest, IsAt, AddsWay, IsWayTo}

-- one hop more
leads_more : (R : Place → Hand → Place → Type 0) (q m : Place) (hops : List Hop) (hop : Hop) → LeadsOn R q hops m → R m hop.hand hop.place
    → LeadsOn R q (hops ++ hop ∷ []) hop.place
leads_more R q m [] hop same by = (subst (λ z. R z hop.hand hop.place) (sym same) by, refl)
leads_more R q m (one ∷ hops) hop leads by = (leads.0, leads_more R one.place m hops hop leads.1 by)

-- what is at an index is one thing
one_at : (xs : List Reached) (at : ℕ) (a b : Reached) → slice_get xs at ≡ Some a → slice_get xs at ≡ Some b → a ≡ b
one_at xs at a b is is_too = let same : Some a ≡ Some b = sym is ∙ is_too in cc

-- the first place is there without a hop
pub way_first : (xs : List Reached) (old : List Hop) (at : ℕ) (r : Reached) → slice_get xs at ≡ Some r → r.came ≡ None → AddsWay xs old old at
way_first xs old at r there none = record {
  hops = [];
  added = sym (append-nil old);
  leads = λ v acts room q s f is.
      let come : IsComeBy (IsHand v acts room) xs at r None = subst (IsComeBy (IsHand v acts room) xs at r) none (f.ways at r there) in
      let same : Some (at_first q) ≡ Some r = sym f.first ∙ ap (slice_get xs) (sym come.0) ∙ there in
      let equal : at_first q ≡ r = cc in
      let first : at_first q ≡ s = equal ∙ one_at xs at r s there is in
      (ap (λ (z : Reached). z.place) first, ap (λ (z : Reached). z.steps) first);
}

-- another one has a hop more than the one before
pub way_more : (xs : List Reached) (old mid new : List Hop) (at : ℕ) (r : Reached) (c : Came) → slice_get xs at ≡ Some r → r.came ≡ Some c
    → AddsWay xs old mid c.before → new ≡ mid ++ record { hand = c.hand; place = r.place } ∷ [] → AddsWay xs old new at
way_more xs old mid new at r c there came way pushed = record {
  hops = way.hops ++ record { hand = c.hand; place = r.place } ∷ [];
  added = pushed ∙ ap (λ hs. hs ++ record { hand = c.hand; place = r.place } ∷ []) way.added ∙ append_assoc old way.hops (record { hand = c.hand; place = r.place } ∷ []);
  leads = λ v acts room q s f is.
      let come : IsComeBy (IsHand v acts room) xs at r (Some c) = subst (IsComeBy (IsHand v acts room) xs at r) came (f.ways at r there) in
      let before = way.leads v acts room q come.from f come.at in
      subst (λ (z : Reached). LeadsOn (IsHand v acts room) q (way.hops ++ record { hand = c.hand; place = r.place } ∷ []) z.place × (length (way.hops ++ record { hand = c.hand; place = r.place } ∷ []) ≡ z.steps))
      (one_at xs at r s there is) (
        leads_more (IsHand v acts room) q come.from.place way.hops (record { hand = c.hand; place = r.place }) before.0 come.hand,
        length_push way.hops (record { hand = c.hand; place = r.place }) ∙ ap (λ k. k + 1) before.1 ∙ sym come.steps,
      );
}

-- a place that is said to come from a later one: there is none
pub way_wrong : (xs : List Reached) (old : List Hop) (at : ℕ) (r : Reached) (c : Came) → slice_get xs at ≡ Some r → r.came ≡ Some c → at ≤ c.before → AddsWay xs old old at
way_wrong xs old at r c there came late = record {
  hops = [];
  added = sym (append-nil old);
  leads = λ v acts room q s f is.
      let come : IsComeBy (IsHand v acts room) xs at r (Some c) = subst (IsComeBy (IsHand v acts room) xs at r) came (f.ways at r there) in
      let earlier = come.earlier in
      absurd (omega (arith, earlier, late));
}

-- the whole way
pub way_whole : (xs : List Reached) (p : Place) (hops : List Hop) (at : ℕ) → IsAt xs at p → AddsWay xs [] hops at → IsWayTo xs p hops
way_whole xs p hops at is way v acts room q f =
    record {
      leads = subst (λ hs. LeadsOn (IsHand v acts room) q hs p) (sym way.added) (subst (LeadsOn (IsHand v acts room) q way.hops) is.is ((way.leads v acts room q is.item f is.at).0));
      least = λ n comes. few n (f.all n p comes);
    } where
      few : (n : ℕ) → IsListed xs n p → length hops ≤ n
      few n l = by_case (cases_lt l.index at) where
        by_case : (l.index < at) ⊎ (at ≤ l.index) → length hops ≤ n
        by_case (inl earlier) = absurd (is.first l.index l.item earlier l.at l.is)
        by_case (inr late) =
            let up = f.ordered at l.index is.item l.item late is.at l.at in
            let soon = l.soon in
            let many : length hops ≡ is.item.steps = ap length way.added ∙ (way.leads v acts room q is.item f is.at).1 in
            omega (arith, many, up, soon)
