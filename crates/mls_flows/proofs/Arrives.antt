-- Content arrives wherever the closure has it.
use Rattle.std.proofs.Common.{◌≡◌, ℕ, ◌<◌, Bool, true, false, ◌⊎◌, inl, inr, List, ◌++◌, refl, sym, ap, subst, ◌∙◌}
use Rattle.std.proofs.lemmas.Bool.{and_parts}
use Rattle.std.specs.FinMap as map
use Rattle.std.specs.FinSet as set
use Rattle.mls_tables.specs.Triples.{TripleSet}
use Rattle.mls_tables.specs.declared.limits.TheConstants.{MAX_OBJECTS}
use Rattle.mls_tables.specs.declared.mode.Mode.TheVariants.{Write}
use Rattle.mls_requests.specs.declared.request.Request.{Request}
use Rattle.mls_requests.specs.declared.entry.Entry.{Entry}
use Rattle.mls_state.specs.State.{State, is_subject, is_active, is_above}
use Rattle.mls_state.specs.Properties.{IsSecure, HasWholeTables}
use Rattle.mls_monitor.specs.Journal.{fold, IsLegal}
use Rattle.mls_laws.specs.Journals.{StaysActive}
use Rattle.mls_laws.proofs.Laws.{fold_secure, fold-append}
use Rattle.mls_futures.specs.Closure.{HasTrusted}
use Rattle.mls_futures.specs.Futures.{HasLabelsWithin, HoldsNothing}
use Rattle.mls_futures.proofs.Laws.{entries_of, number_after, entries-append, entries_legal, releases_of, are_releases, releases_lead, releases_keep, without, none_left, all_known, stays_both, got_qualifies, trusted_still}
use Rattle.mls_flows.specs.Arriving.{StaysThere, IsAt, CouldArrive, HasIntegrityWithin}
use Rattle.mls_flows.specs.Reaching.{CouldReach, here, seen, altered, handed, CouldHand, HasRoom}
use Rattle.mls_flows.specs.declared.place.Place.{Place}
use Rattle.mls_flows.specs.declared.place.Place.TheVariants.{Subject, Object}
use Rattle.mls_flows.proofs.Before.{IsIn, reached_in}
use Rattle.mls_flows.proofs.Spreading.{carried_both, carried_still}
use Rattle.mls_flows.proofs.Passing.{Grown, grown_on, Carries, carries_on, requests_on, way_leads, way_by, way_keeps, carried_of}
use Rattle.mls_flows.proofs.Getting.{could_grown, known_grown, in_grown, IsIdle, carries_as, arrive_plain}
use Rattle.mls_flows.proofs.Handed.{HasSubjects, subjects_grown, hand_over}
use Rattle.mls_flows.proofs.Once.{Once, plain, with_one, once}

-- what could be handed on and reached still could in a later state that has all that there was
hand_grown : (acts : ℕ → Bool) (v w : State) → Grown acts v w → (s t : ℕ) → CouldHand v acts s t → CouldHand w acts s t
hand_grown acts v w f s t hand = record {
  hands = hand.hands;
  takes = hand.takes;
  maker = hand.maker;
  parent = hand.parent;
  makes = could_grown acts v w f hand.maker hand.parent Write hand.makes;
  lower = ap (λ m. is_above (map.get m s) (map.get m t)) f.subject_integrity ∙ hand.lower;
  fits = (λ i. is_above (f.integrity hand.parent there i) (map.get (f.subject_integrity i) t)) ∙ hand.fits;
  cleared = from hand.cleared (f.label hand.parent there);
} where
  there : is_active v hand.parent ≡ true
  there = (and_parts (is_subject v hand.maker) (is_active v hand.parent) ((got_qualifies v acts hand.maker hand.parent Write hand.makes).known)).1

  from : (is_above (map.get v.maximum t) (map.get v.object_label hand.parent) ≡ true) ⊎ HasTrusted v acts
      → (map.get w.object_label hand.parent ≡ map.get v.object_label hand.parent) ⊎ HasTrusted v acts
      → (is_above (map.get w.maximum t) (map.get w.object_label hand.parent) ≡ true) ⊎ HasTrusted w acts
  from (inl above) (inl same) = inl ((λ i. is_above (map.get (f.maximum i) t) (same i)) ∙ above)
  from (inl above) (inr trusted) = inr (trusted_still acts v w f.trusted trusted)
  from (inr trusted) same = inr (trusted_still acts v w f.trusted trusted)

reach_grown : (acts : ℕ → Bool) (v w : State) → Grown acts v w → (room : Bool) (q p : Place) → CouldReach v acts room q p → CouldReach w acts room q p
reach_grown acts v w f room q p here = here
reach_grown acts v w f room q p (seen s o x observe could rest) = seen s o x observe (could_grown acts v w f s o x could) (reach_grown acts v w f room q (Object o) rest)
reach_grown acts v w f room q p (altered s o x alter could rest) = altered s o x alter (could_grown acts v w f s o x could) (reach_grown acts v w f room q (Subject s) rest)
reach_grown acts v w f room q p (handed s t free hand rest) = handed s t free (hand_grown acts v w f s t hand) (reach_grown acts v w f room q (Subject s) rest)

-- where nobody holds anything, content is brought there
module _ (acts : ℕ → Bool) (v : State) (h : IsSecure v) (within : HasLabelsWithin v) (subjects : HasSubjects v) (nothing : HoldsNothing v) where
  by_once : (room : Bool) (q p : Place) → HasRoom v room → IsIn v q → Once v acts room q p → Carries acts v q p HoldsNothing
  by_once room q p rooms there (plain way) = carries_as acts v q p (IsIdle v.next) HoldsNothing (λ w idle. idle.0) (arrive_plain acts v h within subjects.trusted nothing q p there way)
  by_once room q p rooms there (with_one s t free first hand second) =
      carries_on acts v q (Subject s) p (IsIdle v.next) HoldsNothing (arrive_plain acts v h within subjects.trusted nothing q (Subject s) there first)
      (λ w f k inside idle.
      carries_on acts w (Subject s) (Subject t) p HoldsNothing HoldsNothing
      (hand_over acts w k inside (subjects_grown acts v w f subjects) s t (hand_grown acts v w f s t hand) idle.0 (subst (λ n. n < MAX_OBJECTS) (sym idle.1) (room_of room free rooms)))
      (λ u g m within_u empty.
      carries_as acts u (Subject t) p (IsIdle u.next) HoldsNothing (λ z now. now.0)
      (arrive_plain acts u m within_u ((subjects_grown acts v u (grown_on acts v w u f g) subjects).trusted) empty (Subject t) p tt
      (reach_grown acts v u (grown_on acts v w u f g) false (Subject t) p second)))) where
        room_of : (b : Bool) → b ≡ true → HasRoom v b → v.next < MAX_OBJECTS
        room_of true is free = free
        room_of false is full = cc

-- all that is held is released first
pub arrives : (v : State) (acts : ℕ → Bool) (room : Bool) (from : ℕ) (p : Place) → IsSecure v → HasWholeTables v → HasLabelsWithin v → HasIntegrityWithin v → HasRoom v room
    → is_active v from ≡ true → CouldReach v acts room (Object from) p → CouldArrive v acts from p
arrives v acts room from p h whole within own rooms active reach = record {
  releases = releases;
  requests = requests;
  legal = subst (IsLegal v) (entries-append v 0 asked (requests_on acts w goes.last goes.way)) (entries_legal v (asked ++ requests_on acts w goes.last goes.way));
  releasing = are_releases v 0 (set.items v.accesses);
  released = subst HoldsNothing (sym free) (λ u. none_left v.accesses u);
  by_actors = way_by acts w goes.last (number_after 0 asked) goes.way;
  stays = stays_all p (reached_in v acts room (Object from) p reach active);
  carried = carried_both releases requests v acts (IsAt (Object from)) (Object from) p
      (carried_still releases v acts (IsAt (Object from)) (Object from) refl (releases_keep v 0 (set.items v.accesses) from active))
      (carried_of acts w goes.last (number_after 0 asked) goes.way (IsAt (Object from)) p goes.along);
} where
  asked : List Request
  asked = releases_of (set.items v.accesses)

  releases : List Entry
  releases = entries_of v 0 asked

  w : State
  w = fold v releases

  free : w ≡ record v { accesses = without v.accesses (set.items v.accesses) }
  free = releases_lead v 0 (set.items v.accesses) (all_known v h.tree.accesses_known)

  grown : Grown acts v w
  grown = subst (Grown acts v) (sym free) (record {
    maximum = refl;
    subject_integrity = refl;
    trusted = refl;
    bounds = refl;
    active = λ o there. there;
    integrity = λ o there. refl;
    parent = λ o there. refl;
    label = λ o there. inl refl;
    matrix = λ t there. there;
  })

  rooms_then : HasRoom w room
  rooms_then = subst (λ u. HasRoom u room) (sym free) (same room rooms) where
    same : (b : Bool) → HasRoom v b → HasRoom (record v { accesses = without v.accesses (set.items v.accesses) }) b
    same true room = room
    same false full = record { profile = full.profile; none = full.none }

  goes : Carries acts w (Object from) p HoldsNothing
  goes =
      by_once acts w (fold_secure v releases h) (subst HasLabelsWithin (sym free) within)
      (subjects_grown acts v w grown (record { own = whole.subject_integrity; trusted = whole.trusted; bound = own }))
      (subst HoldsNothing (sym free) (λ u. none_left v.accesses u)) room (Object from) p rooms_then (grown.active from active)
      (once w acts room (Object from) p (reach_grown acts v w grown room (Object from) p reach))

  requests : List Entry
  requests = entries_of w (number_after 0 asked) (requests_on acts w goes.last goes.way)

  stays_all : (p : Place) → IsIn v p → StaysThere v (releases ++ requests) p
  stays_all (Subject s) there = tt
  stays_all (Object o) there =
      stays_both v releases requests o (releases_keep v 0 (set.items v.accesses) o there)
      (way_keeps acts w goes.last (number_after 0 asked) goes.way o (grown.active o there))
