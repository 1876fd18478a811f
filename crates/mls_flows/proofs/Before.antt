-- What content could reach only shrinks with each request.
use Rattle.std.proofs.Common.{◌≡◌, ℕ, ◌<◌, ◌≤◌, Bool, true, false, ◌⊎◌, inl, inr, refl, sym, ◌∙◌, arith}
use Rattle.std.proofs.lemmas.Bool.{and_parts}
use Rattle.mls_tables.specs.Mode.{observes, alters}
use Rattle.mls_tables.specs.declared.limits.TheConstants.{MAX_OBJECTS}
use Rattle.mls_tables.specs.declared.mode.Mode.{Mode}
use Rattle.mls_requests.specs.declared.request.Request.{Request}
use Rattle.mls_state.specs.State.{State, is_subject, is_active}
use Rattle.mls_state.specs.Properties.{IsSecure}
use Rattle.mls_rules.specs.Rules.{after}
use Rattle.mls_futures.specs.Closure.{CouldGet}
use Rattle.mls_futures.proofs.Laws.{Follows, shrinks, got_qualifies}
use Rattle.mls_flows.specs.Reaching.{CouldReach, here, seen, altered, handed, IsFull}
use Rattle.mls_flows.specs.declared.place.Place.{Place}
use Rattle.mls_flows.specs.declared.place.Place.TheVariants.{Subject, Object}
use Rattle.mls_flows.proofs.Made.{after_room}
use Rattle.mls_flows.proofs.Handing.{hand_before, hand_through}

-- an object can be made, or none ever can
abbrev pub Rooms : State → Bool → Type 0
Rooms v room = (room ≡ true) ⊎ IsFull v

-- a place is in a state: a subject always, an object where it is active
abbrev pub IsIn : State → Place → Type 0
IsIn v (Subject s) = Unit {0}
IsIn v (Object o) = is_active v o ≡ true

-- what could be reached from a place that is there is there
pub reached_in : (v : State) (acts : ℕ → Bool) (room : Bool) (q p : Place) → CouldReach v acts room q p → IsIn v q → IsIn v p
reached_in v acts room q p here there = there
reached_in v acts room q p (seen s o x observe could rest) there = tt
reached_in v acts room q p (altered s o x alter could rest) there = (and_parts (is_subject v s) (is_active v o) ((got_qualifies v acts s o x could).known)).1
reached_in v acts room q p (handed s t free hand rest) there = tt

-- one way on behind another
pub reach_on : (v : State) (acts : ℕ → Bool) (room : Bool) (q m p : Place) → CouldReach v acts room q m → CouldReach v acts room m p → CouldReach v acts room q p
reach_on v acts room q m p first here = first
reach_on v acts room q m p first (seen s o x observe could rest) = seen s o x observe could (reach_on v acts room q m (Object o) first rest)
reach_on v acts room q m p first (altered s o x alter could rest) = altered s o x alter could (reach_on v acts room q m (Subject s) first rest)
reach_on v acts room q m p first (handed s t free hand rest) = handed s t free hand (reach_on v acts room q m (Subject s) first rest)

module _ (v : State) (r : Request) (acts : ℕ → Bool) (room : Bool) (h : IsSecure v) (f : Follows v (after v r) acts) (rooms : Rooms v room) (q : Place) (in_v : IsIn v q) where
  -- an object is new, and has the content from an actor that could alter it
  record IsNewFrom (o : ℕ) : Type 0 where
    pub new : is_active v o ≡ false
    pub subject : ℕ
    pub mode : Mode
    pub alter : alters mode ≡ true
    pub could : CouldGet (after v r) acts subject o mode
    pub reach : CouldReach v acts room q (Subject subject)

  -- a place could be reached before the request, or is an object that is new
  abbrev IsBefore : Place → Type 0
  IsBefore (Subject s) = CouldReach v acts room q (Subject s)
  IsBefore (Object o) = CouldReach v acts room q (Object o) ⊎ IsNewFrom o

  at_first : (p : Place) → q ≡ p → CouldReach v acts room q p → IsBefore p
  at_first (Subject s) is reach = reach
  at_first (Object o) is reach = inl reach

  -- where an object is new, a number was free
  is_free : (o : ℕ) → is_active v o ≡ false → is_active (after v r) o ≡ true → room ≡ true
  is_free o new there = from rooms (after_room v r o there) where
    from : Rooms v room → (is_active v o ≡ true) ⊎ (v.next < MAX_OBJECTS) → room ≡ true
    from rooms (inl was) = let no : true ≡ false = sym was ∙ new in cc
    from (inl is) (inr free) = is
    from (inr full) (inr free) = let none = full.none in absurd (omega (arith, free, none))

  before : (p : Place) → CouldReach (after v r) acts room q p → IsBefore p
  before p here = at_first q refl here
  before p (seen s o x observe could rest) = from (before (Object o) rest) where
    from : CouldReach v acts room q (Object o) ⊎ IsNewFrom o → CouldReach v acts room q (Subject s)
    from (inl reach) = seen s o x observe (shrinks v (after v r) acts f s o x could (reached_in v acts room q (Object o) reach in_v)) reach
    from (inr new) =
        let there = (and_parts (is_subject (after v r) s) (is_active (after v r) o) ((got_qualifies (after v r) acts s o x could).known)).1 in
        handed new.subject s (is_free o new.new there) (hand_through v r acts h f new.subject s o new.mode x new.new new.alter new.could observe could) new.reach
  before p (altered s o x alter could rest) = from (before (Subject s) rest) (is_active v o) refl where
    from : CouldReach v acts room q (Subject s) → (b : Bool) → is_active v o ≡ b → CouldReach v acts room q (Object o) ⊎ IsNewFrom o
    from reach true was = inl (altered s o x alter (shrinks v (after v r) acts f s o x could was) reach)
    from reach false new = inr (record { new = new; subject = s; mode = x; alter = alter; could = could; reach = reach })
  before p (handed s t free hand rest) = handed s t free (hand_before v r acts h f s t hand) (before (Subject s) rest)

  -- what could be reached after the request, of what was there before it, could be reached before it
  pub reach_before : (p : Place) → IsIn v p → CouldReach (after v r) acts room q p → CouldReach v acts room q p
  reach_before (Subject s) there reach = before (Subject s) reach
  reach_before (Object o) there reach = from (before (Object o) reach) where
    from : CouldReach v acts room q (Object o) ⊎ IsNewFrom o → CouldReach v acts room q (Object o)
    from (inl was) = was
    from (inr new) = let no : true ≡ false = sym there ∙ new.new in cc
