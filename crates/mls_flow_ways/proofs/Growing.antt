-- Content that is carried from place to place.
use Rattle.std.proofs.Common.{◌≡◌, ◌⊎◌, inl, inr, ℕ, Bool, true, false, not, List, [], ◌∷◌, nat_lt, refl, sym, ap, ◌∙◌, if◌then◌else◌}
use Rattle.std.proofs.lemmas.Bool.{and_parts}
use Rattle.std.specs.FinMap as map
use Rattle.mls_labels.specs.Label.{has_label}
use Rattle.mls_tables.specs.declared.limits.TheConstants.{MAX_OBJECTS}
use Rattle.mls_tables.specs.declared.mode.Mode.TheVariants.{Write}
use Rattle.mls_requests.specs.declared.request.Request.{Request}
use Rattle.mls_state.specs.State.{State, is_subject, is_active, is_above}
use Rattle.mls_state.specs.Properties.{IsSecure}
use Rattle.mls_futures.specs.Closure.{HasTrusted}
use Rattle.mls_futures.specs.Futures.{HasLabelsWithin, HoldsNothing}
use Rattle.mls_futures.proofs.Laws.{got_qualifies, trusted_still}
use Rattle.mls_paths.specs.Hands.{IsHand, CouldMake, has_room}
use Rattle.mls_paths.specs.Ways.{LeadsOn}
use Rattle.mls_paths.specs.declared.reached.Hand.{Hand}
use Rattle.mls_paths.specs.declared.reached.Hand.TheVariants.{By, Made}
use Rattle.mls_paths.specs.declared.reached.Hop.{Hop}
use Rattle.mls_flows.specs.Arriving.{HasIntegrityWithin}
use Rattle.mls_flows.specs.Ways.{Grown}
use Rattle.mls_flows.specs.declared.place.Place.{Place}
use Rattle.mls_flows.specs.declared.place.Place.TheVariants.{Subject, Object}
use Rattle.mls_flows.proofs.Laws.{could_grown}
use Rattle.mls_flow_ways.specs.Carries.{CarriesTo, StaysIdle, is_made, makes, makes_once}
use Rattle.mls_flow_ways.proofs.Carried.{carries_nowhere, carries_so, carries_then}

-- integrity labels stay within the bounds
pub bounds_grown : (acts : ℕ → Bool) (v w : State) → Grown acts v w → HasIntegrityWithin v → HasIntegrityWithin w
bounds_grown acts v w f own s l at = ap (λ b. has_label b l) f.bounds ∙ own s l (ap (λ m. map.get m s) (sym f.subject_integrity) ∙ at)

-- what could be made still could, where a number is free
make_grown : (acts : ℕ → Bool) (v w : State) → Grown acts v w → has_room w ≡ true → (s t maker p : ℕ) → CouldMake v acts (has_room v) s t maker p → CouldMake w acts (has_room w) s t maker p
make_grown acts v w f free s t maker p could = record {
  free = free;
  hands = could.hands;
  lower = ap (λ m. is_above (map.get m s) (map.get m t)) f.subject_integrity ∙ could.lower;
  takes = record {
    takes = could.takes.takes;
    makes = could_grown acts v w f maker p Write could.takes.makes;
    fits = (λ i. is_above (f.integrity p there i) (map.get (f.subject_integrity i) t)) ∙ could.takes.fits;
    cleared = from could.takes.cleared (f.label p there);
  };
} where
  there : is_active v p ≡ true
  there = (and_parts (is_subject v maker) (is_active v p) ((got_qualifies v acts maker p Write could.takes.makes).known)).1

  from : (is_above (map.get v.maximum t) (map.get v.object_label p) ≡ true) ⊎ HasTrusted v acts
      → (map.get w.object_label p ≡ map.get v.object_label p) ⊎ HasTrusted v acts
      → (is_above (map.get w.maximum t) (map.get w.object_label p) ≡ true) ⊎ HasTrusted w acts
  from (inl above) (inl same) = inl ((λ i. is_above (map.get (f.maximum i) t) (same i)) ∙ above)
  from (inl above) (inr trusted) = inr (trusted_still acts v w f.trusted trusted)
  from (inr trusted) same = inr (trusted_still acts v w f.trusted trusted)

-- a hand is one still
pub hand_grown : (acts : ℕ → Bool) (v w : State) → Grown acts v w → (q p : Place) (h : Hand) → (is_made h ≡ true → has_room w ≡ true) → IsHand v acts (has_room v) q h p
    → IsHand w acts (has_room w) q h p
hand_grown acts v w f (Object o) (Subject s) (By x) free hand = (hand.0, could_grown acts v w f s o x hand.1)
hand_grown acts v w f (Subject s) (Object o) (By x) free hand = (hand.0, could_grown acts v w f s o x hand.1)
hand_grown acts v w f (Subject s) (Subject t) (Made maker parent) free hand = make_grown acts v w f (free refl) s t maker parent hand
hand_grown acts v w f (Subject s) (Subject t) (By x) free hand = absurd hand
hand_grown acts v w f (Object o) (Object p) (By x) free hand = absurd hand
hand_grown acts v w f (Object o) p (Made maker parent) free hand = absurd hand
hand_grown acts v w f (Subject s) (Object o) (Made maker parent) free hand = absurd hand

-- where none is made, no more than one is
once_of : (hops : List Hop) → makes hops ≡ false → makes_once hops ≡ true
once_of [] none = refl
once_of (hop ∷ hops) none = from (once_of hops) (is_made hop.hand) none where
  from : (makes hops ≡ false → makes_once hops ≡ true) → (b : Bool) → (if b then true else makes hops) ≡ false → (if b then not (makes hops) else makes_once hops) ≡ true
  from later true is = cc
  from later false is = later is

-- what is so while hands are passed: content has come to a place, and hands lead on from there; where an object is
-- still to be made, it is the only one, and the next number is the first one still
pub record IsOnWay (acts : ℕ → Bool) (v w : State) (old new : List Request) (q p to : Place) (hops : List Hop) : Type 0 where
  pub carried : CarriesTo acts v w old new q p HoldsNothing
  pub leads : LeadsOn (IsHand v acts (has_room v)) p hops to
  pub once : makes_once hops ≡ true
  pub next : makes hops ≡ true → w.next ≡ v.next

-- an object is made for a hand only where a number is free
free_of : (v : State) (acts : ℕ → Bool) (room : Bool) (q p : Place) (h : Hand) → IsHand v acts room q h p → is_made h ≡ true → room ≡ true
free_of v acts room (Object o) (Subject s) (By x) hand made = cc
free_of v acts room (Subject s) (Object o) (By x) hand made = cc
free_of v acts room (Subject s) (Subject t) (Made maker parent) hand made = hand.free
free_of v acts room (Subject s) (Subject t) (By x) hand made = absurd hand
free_of v acts room (Object o) (Object p) (By x) hand made = absurd hand
free_of v acts room (Object o) p (Made maker parent) hand made = absurd hand
free_of v acts room (Subject s) (Object o) (Made maker parent) hand made = absurd hand

-- hands that lead on do so in a later state with the same next number
pub leads_grown : (acts : ℕ → Bool) (v w : State) → Grown acts v w → w.next ≡ v.next → (q p : Place) (hops : List Hop) → LeadsOn (IsHand v acts (has_room v)) q hops p
    → LeadsOn (IsHand w acts (has_room w)) q hops p
leads_grown acts v w f same q p [] leads = leads
leads_grown acts v w f same q p (hop ∷ hops) leads = (
  hand_grown acts v w f q hop.place hop.hand
      (λ made. ap (λ n. nat_lt n MAX_OBJECTS) same ∙ free_of v acts (has_room v) q hop.place hop.hand leads.0 made) leads.0,
  leads_grown acts v w f same hop.place p hops leads.1,
)

-- none is passed
pub way_first : (acts : ℕ → Bool) (v : State) (old : List Request) (q to : Place) (hops : List Hop) → IsSecure v → HasLabelsWithin v → HoldsNothing v
    → LeadsOn (IsHand v acts (has_room v)) q hops to → makes_once hops ≡ true → IsOnWay acts v v old old q q to hops
way_first acts v old q to hops h within nothing leads once = record {
  carried = carries_nowhere acts v old q HoldsNothing h within nothing;
  leads = leads;
  once = once;
  next = λ some. refl;
}

-- what is asked of the next hand
pub way_hand : (acts : ℕ → Bool) (v w : State) (old new : List Request) (q p to : Place) (hop : Hop) (hops : List Hop) → IsOnWay acts v w old new q p to (hop ∷ hops)
    → IsHand w acts (has_room w) p hop.hand hop.place
way_hand acts v w old new q p to hop hops on =
    hand_grown acts v w on.carried.grown p hop.place hop.hand
    (λ made. ap (λ n. nat_lt n MAX_OBJECTS) (on.next (ap (λ b. if b then true else makes hops) made)) ∙ free_of v acts (has_room v) p hop.place hop.hand on.leads.0 made)
    on.leads.0

-- and when it is passed
pub way_next : (acts : ℕ → Bool) (v w u : State) (old mid new : List Request) (q p to : Place) (hop : Hop) (hops : List Hop) → IsOnWay acts v w old mid q p to (hop ∷ hops)
    → CarriesTo acts w u mid new p hop.place (StaysIdle hop.hand w.next) → IsOnWay acts v u old new q hop.place to hops
way_next acts v w u old mid new q p to hop hops on passed = from hop.hand on.once on.next passed where
  from : (h : Hand) → makes_once (record { hand = h; place = hop.place } ∷ hops) ≡ true → (makes (record { hand = h; place = hop.place } ∷ hops) ≡ true → w.next ≡ v.next)
      → CarriesTo acts w u mid new p hop.place (StaysIdle h w.next) → IsOnWay acts v u old new q hop.place to hops
  from (By x) once next passed = record {
    carried =
        carries_then acts v w u old mid new q p hop.place HoldsNothing HoldsNothing on.carried
        (carries_so acts w u mid new p hop.place (StaysIdle (By x) w.next) HoldsNothing (λ idle. idle.0) passed);
    leads = on.leads.1;
    once = once;
    next = λ some. passed.now.1 ∙ next some;
  }
  from (Made maker parent) once next passed = record {
    carried = carries_then acts v w u old mid new q p hop.place HoldsNothing HoldsNothing on.carried passed;
    leads = on.leads.1;
    once = once_of hops (is_none (makes hops) once);
    next = λ some. let no : true ≡ false = sym some ∙ is_none (makes hops) once in cc;
  } where
    is_none : (b : Bool) → not b ≡ true → b ≡ false
    is_none true is = cc
    is_none false is = refl
