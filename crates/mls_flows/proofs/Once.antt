-- Content that could be handed on many times could be handed on once at most: integrity only falls on its way.
use Rattle.std.proofs.Common.{◌≡◌, ℕ, Bool, true, false, ◌&&◌, Option, sym, ◌∙◌}
use Rattle.std.specs.FinMap as map
use Rattle.mls_labels.specs.Label.{Label}
use Rattle.mls_state.specs.State.{State, is_above}
use Rattle.mls_laws.proofs.Laws.{above_trans}
use Rattle.mls_futures.proofs.Laws.{got_qualifies}
use Rattle.mls_flows.specs.Reaching.{CouldReach, here, seen, altered, handed, CouldHand}
use Rattle.mls_flows.specs.declared.place.Place.{Place}
use Rattle.mls_flows.specs.declared.place.Place.TheVariants.{Subject, Object}
use Rattle.mls_flows.proofs.Handing.{altered_below, observed_above}

-- the integrity label of a place
abbrev integrity_at : State → Place → Option Label
integrity_at v (Subject s) = map.get v.subject_integrity s
integrity_at v (Object o) = map.get v.object_integrity o

-- it falls on the way of content
sinks : (v : State) (acts : ℕ → Bool) (room : Bool) (e : Option Label) (q p : Place) → is_above e (integrity_at v q) ≡ true → CouldReach v acts room q p
    → is_above e (integrity_at v p) ≡ true
sinks v acts room e q p above here = above
sinks v acts room e q p above (seen s o x observe could rest) =
    above_trans e (map.get v.object_integrity o) (map.get v.subject_integrity s) (sinks v acts room e q (Object o) above rest)
    (observed_above (map.get v.subject_integrity s) (map.get v.object_integrity o) x observe ((got_qualifies v acts s o x could).integrity))
sinks v acts room e q p above (altered s o x alter could rest) =
    above_trans e (map.get v.subject_integrity s) (map.get v.object_integrity o) (sinks v acts room e q (Subject s) above rest)
    (altered_below (map.get v.subject_integrity s) (map.get v.object_integrity o) x alter ((got_qualifies v acts s o x could).integrity))
sinks v acts room e q p above (handed s t free hand rest) =
    above_trans e (map.get v.subject_integrity s) (map.get v.subject_integrity t) (sinks v acts room e q (Subject s) above rest) hand.lower

-- a way without an object that is made, or with one
pub data Once (v : State) (acts : ℕ → Bool) (room : Bool) (q p : Place) : Type 0 where
  plain : CouldReach v acts false q p → Once v acts room q p
  with_one : (s t : ℕ) → room ≡ true → CouldReach v acts false q (Subject s) → CouldHand v acts s t → CouldReach v acts false (Subject t) p → Once v acts room q p

module _ (v : State) (acts : ℕ → Bool) (room : Bool) (q : Place) where
  -- a step on
  then_on : (m p : Place) → ((n : Place) → CouldReach v acts false n m → CouldReach v acts false n p) → Once v acts room q m → Once v acts room q p
  then_on m p step (plain way) = plain (step q way)
  then_on m p step (with_one s t free first hand second) = with_one s t free first hand (step (Subject t) second)

  hand_on : (s t : ℕ) → room ≡ true → CouldHand v acts s t → Once v acts room q (Subject s) → Once v acts room q (Subject t)
  hand_on s t free hand (plain way) = with_one s t free way hand here
  hand_on s t free hand (with_one a b room first other second) = with_one a t free first (record {
    hands = other.hands;
    takes = hand.takes;
    maker = hand.maker;
    parent = hand.parent;
    makes = hand.makes;
    lower = above_trans (map.get v.subject_integrity a) (map.get v.subject_integrity s) (map.get v.subject_integrity t)
        (sinks v acts false (map.get v.subject_integrity a) (Subject b) (Subject s) other.lower second) hand.lower;
    fits = hand.fits;
    cleared = hand.cleared;
  }) here

  pub once : (p : Place) → CouldReach v acts room q p → Once v acts room q p
  once p here = plain here
  once p (seen s o x observe could rest) = then_on (Object o) (Subject s) (λ n way. seen s o x observe could way) (once (Object o) rest)
  once p (altered s o x alter could rest) = then_on (Subject s) (Object o) (λ n way. altered s o x alter could way) (once (Subject s) rest)
  once p (handed s t free hand rest) = hand_on s t free hand (once (Subject s) rest)
