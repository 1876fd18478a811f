-- Requests that lead from one state to another, one after the other.
use Rattle.std.proofs.Common.{◌≡◌, ℕ, Bool, true, List, [], ◌∷◌, ◌++◌, refl, sym, ap, subst, ◌∙◌, append-nil}
use Rattle.std.proofs.lemmas.List.{append_assoc}
use Rattle.mls_requests.specs.declared.request.Request.{Request}
use Rattle.mls_state.specs.State.{State}
use Rattle.mls_state.specs.Properties.{IsSecure}
use Rattle.mls_rules.specs.Rules.{after}
use Rattle.mls_laws.specs.Journals.{run}
use Rattle.mls_futures.specs.Futures.{HasLabelsWithin}
use Rattle.mls_futures.specs.Scripts.{AreGranted, AreOfActors, Alike}
use Rattle.mls_futures.proofs.Laws.{IsStep, alike_itself, alike_on, granted_both, run_both, known_still}
use Rattle.mls_tables.specs.declared.mode.Mode.{Mode}
use Rattle.mls_state.specs.State.{is_subject}
use Rattle.std.specs.FinSet as set
use Rattle.mls_tables.specs.Triples.{Triple}
use Rattle.mls_tables.proofs.Laws.{is_triple-itself}
use Rattle.mls_ways.specs.Lean.{brings}
use Rattle.mls_ways.proofs.Lean.{brings-granted}
use Rattle.mls_ways.specs.Ways.{LeadsTo, LeavesObjects, IsLowered, IsCleared, HoldsOnly}
use Rattle.mls_ways.proofs.Making.{lowered_clears}

actors_both : (acts : ℕ → Bool) (rs qs : List Request) → AreOfActors acts rs → AreOfActors acts qs → AreOfActors acts (rs ++ qs)
actors_both acts [] qs first later = later
actors_both acts (r ∷ rs) qs first later = (first.0, actors_both acts rs qs first.1 later)

objects_both : (v : State) (rs qs : List Request) → LeavesObjects v rs → LeavesObjects (run v rs) qs → LeavesObjects v (rs ++ qs)
objects_both v [] qs first later = later
objects_both v (r ∷ rs) qs first later = (first.0, objects_both (after v r) rs qs first.1 later)

-- none
pub leads_nowhere : (acts : ℕ → Bool) (v : State) (old : List Request) (P : State → Type 0) → IsSecure v → HasLabelsWithin v → P v → LeadsTo acts v v old old P
leads_nowhere acts v old P secure within now = record {
  requests = [];
  added = sym (append-nil old);
  granted = tt;
  of_actors = tt;
  objects = tt;
  last = refl;
  alike = alike_itself acts v;
  secure = secure;
  within = within;
  now = now;
}

-- one
pub leads_by : (acts : ℕ → Bool) (v : State) (r : Request) (w : State) (old new : List Request) (P : State → Type 0) → IsStep acts v r P
    → w ≡ after v r → new ≡ old ++ r ∷ [] → LeadsTo acts v w old new P
leads_by acts v r w old new P one is added =
    subst (λ z. LeadsTo acts v z old new P) (sym is)
    (record {
      requests = r ∷ [];
      added = added;
      granted = (one.grant, tt);
      of_actors = (one.actor, tt);
      objects = (one.alike.active, tt);
      last = refl;
      alike = one.alike;
      secure = one.secure;
      within = one.within;
      now = one.now;
    })

-- some and then others
pub leads_on : (acts : ℕ → Bool) (v w u : State) (old mid new : List Request) (P Q : State → Type 0) → LeadsTo acts v w old mid P → LeadsTo acts w u mid new Q
    → LeadsTo acts v u old new Q
leads_on acts v w u old mid new P Q first second = record {
  requests = first.requests ++ second.requests;
  added = second.added ∙ ap (λ t. t ++ second.requests) first.added ∙ append_assoc old first.requests second.requests;
  granted = granted_both v first.requests second.requests first.granted (subst (λ z. AreGranted z second.requests) (sym first.last) second.granted);
  of_actors = actors_both acts first.requests second.requests first.of_actors second.of_actors;
  objects = objects_both v first.requests second.requests first.objects (subst (λ z. LeavesObjects z second.requests) (sym first.last) second.objects);
  last = run_both v first.requests second.requests ∙ ap (λ z. run z second.requests) first.last ∙ second.last;
  alike = alike_on acts v w u first.alike second.alike;
  secure = second.secure;
  within = second.within;
  now = second.now;
}

-- what is so then is so of another thing that follows from it
pub leads_so : (acts : ℕ → Bool) (v w : State) (old new : List Request) (P Q : State → Type 0) → (P w → Q w) → LeadsTo acts v w old new P → LeadsTo acts v w old new Q
leads_so acts v w old new P Q so first = record {
  requests = first.requests;
  added = first.added;
  granted = first.granted;
  of_actors = first.of_actors;
  objects = first.objects;
  last = first.last;
  alike = first.alike;
  secure = first.secure;
  within = first.within;
  now = so first.now;
}

-- a label that was lowered
pub leads_cleared : (acts : ℕ → Bool) (v w : State) (old new : List Request) (s o : ℕ) (x : Mode) → is_subject v s ≡ true → LeadsTo acts v w old new (IsLowered o)
    → LeadsTo acts v w old new (IsCleared s o x)
leads_cleared acts v w old new s o x known first =
    leads_so acts v w old new (IsLowered o) (IsCleared s o x) (lowered_clears w s o x (known_still acts v w first.alike s known)) first

-- requests behind none bring an access about
pub leads_brings : (acts : ℕ → Bool) (v w : State) (new : List Request) (t : Triple) → LeadsTo acts v w [] new (HoldsOnly t) → brings v t new ≡ true
leads_brings acts v w new t first =
    subst (λ rs. brings v t rs ≡ true) (sym first.added)
    (brings-granted v t first.requests first.granted (ap (λ (z : State). set.contains z.accesses t) first.last ∙ first.now t ∙ is_triple-itself t))

pub leads_actors : (acts : ℕ → Bool) (v w : State) (new : List Request) (t : Triple) → LeadsTo acts v w [] new (HoldsOnly t) → AreOfActors acts new
leads_actors acts v w new t first = subst (AreOfActors acts) (sym first.added) first.of_actors

-- the same from a state that is another one's copy
pub leads_from : (acts : ℕ → Bool) (f v w : State) (old new : List Request) (t : Triple) → v ≡ f → old ≡ [] → LeadsTo acts v w old new (HoldsOnly t)
    → (brings f t new ≡ true) × AreOfActors acts new
leads_from acts f v w old new t is none first = (subst (λ z. brings z t new ≡ true) is (leads_brings acts v w new t from_none), leads_actors acts v w new t from_none) where
  from_none : LeadsTo acts v w [] new (HoldsOnly t)
  from_none = subst (λ rs. LeadsTo acts v w rs new (HoldsOnly t)) none first
