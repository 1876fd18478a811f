-- States from which all that is held was released, and the script that carries content from there.
use Rattle.std.proofs.Common.{◌≡◌, ℕ, Bool, inl, List, [], ◌++◌, refl, sym, ap, subst, ◌∙◌}
use Rattle.mls_requests.specs.declared.request.Request.{Request}
use Rattle.mls_state.specs.State.{State}
use Rattle.mls_laws.specs.Journals.{run}
use Rattle.mls_futures.specs.Futures.{HoldsNothing}
use Rattle.mls_futures.specs.Scripts.{AreGranted, AreToRelease}
use Rattle.mls_ways.specs.Releases.{Releases}
use Rattle.mls_flows.specs.Arriving.{IsAt}
use Rattle.mls_flows.specs.Ways.{Way, requests_on, Along, Grown}
use Rattle.mls_flows.specs.declared.place.Place.{Place}
use Rattle.mls_flow_ways.specs.Carries.{CarriesTo}
use Rattle.mls_flow_ways.specs.Scripts.{CarriesContent}

-- all that there was is there still, and the next number is the same
pub freed_grown : (acts : ℕ → Bool) (v w : State) (old new : List Request) → Releases v w old new → Grown acts v w
freed_grown acts v w old new r =
    subst (Grown acts v) (sym r.same) (record {
      maximum = refl;
      subject_integrity = refl;
      trusted = refl;
      bounds = refl;
      active = λ o there. there;
      integrity = λ o there. refl;
      parent = λ o there. refl;
      label = λ o there. inl refl;
      matrix = λ t there. there;
    })

pub freed_next : (v w : State) (old new : List Request) → Releases v w old new → w.next ≡ v.next
freed_next v w old new r = ap (λ (z : State). z.next) r.same

-- a way carries content from a state where nobody holds anything
record IsCarriedFrom (acts : ℕ → Bool) (v : State) (q p : Place) (requests : List Request) : Type 0 where
  pub nothing : HoldsNothing v
  pub last : State
  pub way : Way acts v last
  pub behind : requests ≡ requests_on acts v last way
  pub along : Along acts v last way (IsAt q) p
  pub grown : Grown acts v last
  pub idle : HoldsNothing last

-- the whole script
pub carries_from : (f v w u : State) (acts : ℕ → Bool) (q p : Place) (none releases empty requests : List Request) → v ≡ f → none ≡ [] → Releases v w none releases → HoldsNothing w
    → empty ≡ [] → CarriesTo acts w u empty requests q p HoldsNothing → CarriesContent f acts q p releases requests
carries_from f v w u acts q p none releases empty requests is begun r nothing blank carried = record {
  releasing = subst AreToRelease (sym asked) r.releasing;
  granted = subst (λ z. AreGranted z releases) is (subst (AreGranted v) (sym asked) r.granted);
  released = found.nothing;
  last = found.last;
  way = found.way;
  behind = found.behind;
  along = found.along;
  grown = found.grown;
  idle = found.idle;
} where
  asked : releases ≡ r.requests
  asked = r.added ∙ ap (λ o. o ++ r.requests) begun

  leads : run f releases ≡ w
  leads = (λ i. run (sym is i) (asked i)) ∙ r.last

  found : IsCarriedFrom acts (run f releases) q p requests
  found =
      subst (λ z. IsCarriedFrom acts z q p requests) (sym leads) (record {
        nothing = nothing;
        last = u;
        way = carried.way;
        behind = carried.added ∙ ap (λ o. o ++ requests_on acts w u carried.way) blank;
        along = carried.along;
        grown = carried.grown;
        idle = carried.now;
      })
