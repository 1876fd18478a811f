-- Content arrives nowhere but where the closure has it.
use Rattle.std.proofs.Common.{◌≡◌, ℕ, zero, suc, Bool, true, false, ◌⊎◌, inl, inr, List, [], ◌∷◌, ◌++◌, Some, refl, sym, ap, subst, ◌∙◌}
use Rattle.std.specs.Prelude.{slice_get}
use Rattle.mls_tables.specs.declared.mode.Mode.{Mode}
use Rattle.mls_requests.specs.declared.action.Action.TheVariants.{Release}
use Rattle.mls_requests.specs.declared.request.Request.{Request}
use Rattle.mls_requests.specs.declared.entry.Entry.{Entry}
use Rattle.mls_state.specs.State.{State, is_active}
use Rattle.mls_state.specs.Properties.{IsSecure}
use Rattle.mls_rules.specs.Rules.{after}
use Rattle.mls_rules.proofs.Laws.{after_secure}
use Rattle.mls_futures.specs.Futures.{IsByActors, AreReleases}
use Rattle.mls_futures.proofs.Laws.{Follows, follows_actor, follows_release, held_could}
use Rattle.mls_flows.specs.Arriving.{Spreads, was, saw, left, Keeps, IsCarried, StaysThere, IsAt, CouldArrive}
use Rattle.mls_flows.specs.Reaching.{CouldReach, here, seen, altered, HasRoom, IsFull}
use Rattle.mls_flows.specs.declared.place.Place.{Place}
use Rattle.mls_flows.specs.declared.place.Place.TheVariants.{Subject, Object}
use Rattle.mls_flows.proofs.Made.{after_full}
use Rattle.mls_flows.proofs.Before.{Rooms, IsIn, reached_in, reach_on, reach_before}

-- each entry is a request of an actor, or to release something
abbrev IsMove : (ℕ → Bool) → Request → Type 0
IsMove acts r = (acts r.subject ≡ true) ⊎ ((x : Mode) × (o : ℕ) × (r.action ≡ Release x o))

abbrev pub AreMoves : (ℕ → Bool) → List Entry → Type 0
AreMoves acts entries = (n : ℕ) (e : Entry) → slice_get entries n ≡ Some e → IsMove acts e.request

follows_move : (v : State) (r : Request) (acts : ℕ → Bool) → IsSecure v → IsMove acts r → Follows v (after v r) acts
follows_move v r acts h (inl actor) = follows_actor v r acts h actor
follows_move v r acts h (inr (x, o, is)) = follows_release v r acts x o h is

-- a place that has the content, from which another one could be reached
record IsReachedFrom (v : State) (acts : ℕ → Bool) (room : Bool) (has : Place → Type 0) (p : Place) : Type 0 where
  pub first : Place
  pub had : has first
  pub reach : CouldReach v acts room first p

-- where content spreads by the accesses that are held, it could reach
spread_reach : (v : State) (acts : ℕ → Bool) (room : Bool) (has : Place → Type 0) (p : Place) → IsSecure v → Spreads v acts has p → IsReachedFrom v acts room has p
spread_reach v acts room has p h (was q had) = record { first = q; had = had; reach = here }
spread_reach v acts room has p h (saw s o x observe actor held rest) =
    let before = spread_reach v acts room has (Object o) h rest in
    record { first = before.first; had = before.had; reach = seen s o x observe (held_could v acts s o x h actor held) before.reach }
spread_reach v acts room has p h (left s o x alter actor held rest) =
    let before = spread_reach v acts room has (Subject s) h rest in
    record { first = before.first; had = before.had; reach = altered s o x alter (held_could v acts s o x h actor held) before.reach }

rooms_after : (v : State) (r : Request) (room : Bool) → Rooms v room → Rooms (after v r) room
rooms_after v r room (inl is) = inl is
rooms_after v r room (inr full) = inr (after_full v r full)

-- what keeps content over a request had it, and is there after it
kept_had : (w : State) (has : Place → Type 0) (q : Place) → Keeps w has q → has q
kept_had w has (Subject s) kept = kept
kept_had w has (Object o) kept = kept.0

kept_in : (w : State) (has : Place → Type 0) (q : Place) → Keeps w has q → IsIn w q
kept_in w has (Subject s) kept = tt
kept_in w has (Object o) kept = kept.1

-- what is there all along is there at first, and all along the rest
there_first : (v : State) (entries : List Entry) (p : Place) → StaysThere v entries p → IsIn v p
there_first v entries (Subject s) stays = tt
there_first v entries (Object o) stays = stays zero

there_later : (v : State) (e : Entry) (entries : List Entry) (p : Place) → StaysThere v (e ∷ entries) p → StaysThere (after v e.request) entries p
there_later v e entries (Subject s) stays = tt
there_later v e entries (Object o) stays = λ n. stays (suc n)

-- where content is carried, it could reach
never_carried : (entries : List Entry) (v : State) (acts : ℕ → Bool) (room : Bool) (has : Place → Type 0) (p : Place) → IsSecure v → Rooms v room
    → AreMoves acts entries → ((q : Place) → has q → IsIn v q) → StaysThere v entries p → IsCarried v acts has entries p → IsReachedFrom v acts room has p
never_carried [] v acts room has p h rooms moves are stays carried = spread_reach v acts room has p h carried
never_carried (e ∷ entries) v acts room has p h rooms moves are stays carried =
    let w = after v e.request in
    let later = never_carried entries w acts room (Keeps w (Spreads v acts has)) p (after_secure v e.request h) (rooms_after v e.request room rooms)
    (λ n g at. moves (suc n) g at) (kept_in w (Spreads v acts has)) (there_later v e entries p stays) carried in
    let now = spread_reach v acts room has later.first h (kept_had w (Spreads v acts has) later.first later.had) in
    record {
      first = now.first;
      had = now.had;
      reach = reach_on v acts room now.first later.first p now.reach
          (reach_before v e.request acts room h (follows_move v e.request acts h (moves zero e refl)) rooms later.first
          (reached_in v acts room now.first later.first now.reach (are now.first now.had)) p (there_first v (e ∷ entries) p stays) later.reach);
    }

-- the same of the content of an object
pub never_moved : (v : State) (entries : List Entry) (acts : ℕ → Bool) (room : Bool) (from : ℕ) (p : Place) → IsSecure v → HasRoom v room → is_active v from ≡ true
    → AreMoves acts entries → StaysThere v entries p → IsCarried v acts (IsAt (Object from)) entries p → CouldReach v acts room (Object from) p
never_moved v entries acts room from p h has active moves stays carried =
    let one = never_carried entries v acts room (IsAt (Object from)) p h (rooms_of room has) moves (λ q is. subst (IsIn v) (sym is) active) stays carried in
    subst (λ q. CouldReach v acts room q p) one.had one.reach where
      rooms_of : (b : Bool) → HasRoom v b → Rooms v b
      rooms_of true free = inl refl
      rooms_of false full = inr full

moves_both : (acts : ℕ → Bool) (releases requests : List Entry) → AreReleases releases → IsByActors acts requests → AreMoves acts (releases ++ requests)
moves_both acts [] requests are by n e at = inl (by n e at)
moves_both acts (f ∷ releases) requests are by zero e at = inr (are zero e at)
moves_both acts (f ∷ releases) requests are by (suc n) e at = moves_both acts releases requests (λ k g there. are (suc k) g there) by n e at

pub never_arrives : (v : State) (acts : ℕ → Bool) (room : Bool) (from : ℕ) (p : Place) → IsSecure v → HasRoom v room → is_active v from ≡ true → CouldArrive v acts from p
    → CouldReach v acts room (Object from) p
never_arrives v acts room from p h has active c =
    never_moved v (c.releases ++ c.requests) acts room from p h has active (moves_both acts c.releases c.requests c.releasing c.by_actors) c.stays c.carried

pub never_brought : (v : State) (entries : List Entry) (acts : ℕ → Bool) (room : Bool) (from : ℕ) (p : Place) → IsSecure v → HasRoom v room → is_active v from ≡ true
    → IsByActors acts entries → StaysThere v entries p → IsCarried v acts (IsAt (Object from)) entries p → CouldReach v acts room (Object from) p
never_brought v entries acts room from p h has active by stays carried =
    never_moved v entries acts room from p h has active (λ n e at. inl (by n e at)) stays carried
