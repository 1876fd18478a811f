-- Requests that carry content, one after the other.
use Rattle.std.proofs.Common.{◌≡◌, ℕ, Bool, true, List, [], ◌∷◌, ◌++◌, refl, sym, ap, subst, ◌∙◌, append-nil}
use Rattle.std.proofs.lemmas.Bool.{and_parts}
use Rattle.std.proofs.lemmas.List.{append_assoc}
use Rattle.std.specs.FinSet as set
use Rattle.mls_tables.specs.Mode.{observes, alters}
use Rattle.mls_tables.specs.declared.mode.Mode.{Mode}
use Rattle.mls_tables.proofs.Laws.{is_triple-itself}
use Rattle.mls_requests.specs.declared.request.Request.{Request}
use Rattle.mls_state.specs.State.{State, is_subject, is_active}
use Rattle.mls_state.specs.Properties.{IsSecure}
use Rattle.mls_rules.specs.Rules.{after}
use Rattle.mls_laws.specs.Journals.{run, is_grant}
use Rattle.mls_futures.specs.Closure.{CouldGet}
use Rattle.mls_futures.specs.Futures.{HasLabelsWithin, HoldsNothing}
use Rattle.mls_futures.specs.Scripts.{AreGranted, AreOfActors, Alike}
use Rattle.mls_futures.proofs.Laws.{Script, done, asks, IsStep, release, to_release, got_qualifies}
use Rattle.mls_ways.specs.Ways.{HoldsOnly, LeadsTo, LeavesObjects}
use Rattle.mls_flows.specs.Arriving.{Spreads, was, saw, left, IsAt}
use Rattle.mls_flows.specs.Ways.{Way, ends, goes, requests_on}
use Rattle.mls_flows.specs.declared.place.Place.{Place}
use Rattle.mls_flows.specs.declared.place.Place.TheVariants.{Subject, Object}
use Rattle.mls_flows.proofs.Laws.{IsIn, and_on, requests_both, way_of, along_both, along_last, grown_itself, grown_alike, grown_on, still_at, bounds_still, after_next, script_bounds, script_next, in_grown, known_grown}
use Rattle.mls_flow_ways.specs.Carries.{CarriesTo, IsIdleAt}

-- what granted requests of actors lead along
abbrev script_from : (acts : ℕ → Bool) (v : State) (rs : List Request) → AreGranted v rs → AreOfActors acts rs → LeavesObjects v rs → Script acts v (run v rs)
script_from acts v [] granted actors objects = done
script_from acts v (r ∷ rs) granted actors objects =
    asks r actors.0 granted.0 (λ o active. objects.0 o ∙ active) (script_from acts (after v r) rs granted.1 actors.1 objects.1)

requests_of : (acts : ℕ → Bool) (v : State) (rs : List Request) (g : AreGranted v rs) (a : AreOfActors acts rs) (k : LeavesObjects v rs)
    → requests_on acts v (run v rs) (way_of acts v (run v rs) (script_from acts v rs g a k)) ≡ rs
requests_of acts v [] granted actors objects = refl
requests_of acts v (r ∷ rs) granted actors objects = ap (λ qs. r ∷ qs) (requests_of acts (after v r) rs granted.1 actors.1 objects.1)

-- nothing is asked
pub carries_nowhere : (acts : ℕ → Bool) (v : State) (old : List Request) (q : Place) (P : State → Type 0) → IsSecure v → HasLabelsWithin v → P v → CarriesTo acts v v old old q q P
carries_nowhere acts v old q P secure within now = record {
  way = ends;
  added = sym (append-nil old);
  grown = grown_itself acts v;
  secure = secure;
  within = within;
  along = was q refl;
  now = now;
}

-- some and then others
pub carries_then : (acts : ℕ → Bool) (u v w : State) (old mid new : List Request) (q m p : Place) (P Q : State → Type 0) → CarriesTo acts u v old mid q m P
    → CarriesTo acts v w mid new m p Q → CarriesTo acts u w old new q p Q
carries_then acts u v w old mid new q m p P Q first second = record {
  way = and_on acts u v w first.way second.way;
  added = second.added ∙ ap (λ t. t ++ requests_on acts v w second.way) first.added
      ∙ append_assoc old (requests_on acts u v first.way) (requests_on acts v w second.way)
      ∙ ap (λ t. old ++ t) (sym (requests_both acts u v w first.way second.way));
  grown = grown_on acts u v w first.grown second.grown;
  secure = second.secure;
  within = second.within;
  along = along_both acts u v w first.way second.way (IsAt q) m p first.along second.along;
  now = second.now;
}

-- what is so then is so of another thing that follows from it
pub carries_so : (acts : ℕ → Bool) (v w : State) (old new : List Request) (q p : Place) (P Q : State → Type 0) → (P w → Q w) → CarriesTo acts v w old new q p P
    → CarriesTo acts v w old new q p Q
carries_so acts v w old new q p P Q so first = record {
  way = first.way;
  added = first.added;
  grown = first.grown;
  secure = first.secure;
  within = first.within;
  along = first.along;
  now = so first.now;
}

-- one request
pub carries_step : (acts : ℕ → Bool) (v : State) (r : Request) (w : State) (old new : List Request) (q : Place) (P : State → Type 0) → IsSecure v → IsIn v q → IsStep acts v r P
    → w ≡ after v r → new ≡ old ++ r ∷ [] → CarriesTo acts v w old new q q (λ u. P u × (u.next ≡ v.next))
carries_step acts v r w old new q P h there one is added =
    subst (λ z. CarriesTo acts v z old new q q (λ u. P u × (u.next ≡ v.next))) (sym is) (record {
      way = way;
      added = added;
      grown = grown_alike acts v (after v r) one.alike (bounds_still v r);
      secure = one.secure;
      within = one.within;
      along = still_at acts v (after v r) way q there;
      now = (one.now, after_next v r h.tree one.grant (λ o active. one.alike.active o ∙ active));
    }) where
      way : Way acts v (after v r)
      way = goes r one.actor (ap is_grant one.grant) (λ o active. one.alike.active o ∙ active) ends

-- an access was brought about, by which content spreads
pub carries_held : (acts : ℕ → Bool) (v w : State) (old new : List Request) (s o : ℕ) (x : Mode) (q p : Place) → IsSecure v → IsIn v q → LeadsTo acts v w old new (HoldsOnly (s, o, x))
    → ((u : State) → set.contains u.accesses (s, o, x) ≡ true → Spreads u acts (IsAt q) p)
    → CarriesTo acts v w old new q p (λ u. HoldsOnly (s, o, x) u × (u.next ≡ v.next))
carries_held acts v w old new s o x q p h there first spreads =
    subst (λ z. CarriesTo acts v z old new q p (λ u. HoldsOnly (s, o, x) u × (u.next ≡ v.next))) first.last (record {
      way = way_of acts v last script;
      added = first.added ∙ ap (λ t. old ++ t) (sym (requests_of acts v first.requests first.granted first.of_actors first.objects));
      grown = grown_alike acts v last (subst (λ z. Alike acts v z) (sym first.last) first.alike) (script_bounds acts v last script);
      secure = subst IsSecure (sym first.last) first.secure;
      within = subst HasLabelsWithin (sym first.last) first.within;
      along = along_last acts v last (way_of acts v last script) (IsAt q) q p (still_at acts v last (way_of acts v last script) q there) (spreads last (held (s, o, x) ∙ is_triple-itself (s, o, x)));
      now = (held, script_next acts v last h script);
    }) where
      last : State
      last = run v first.requests

      script : Script acts v last
      script = script_from acts v first.requests first.granted first.of_actors first.objects

      held : HoldsOnly (s, o, x) last
      held = subst (HoldsOnly (s, o, x)) (sym first.last) first.now

-- and it is released
pub carries_once : (acts : ℕ → Bool) (v w u : State) (old mid new : List Request) (s o : ℕ) (x : Mode) (q p : Place) → IsSecure v → CouldGet v acts s o x → IsIn v q → IsIn v p
    → LeadsTo acts v w old mid (HoldsOnly (s, o, x)) → u ≡ after w (release s o x) → new ≡ mid ++ release s o x ∷ []
    → ((z : State) → set.contains z.accesses (s, o, x) ≡ true → Spreads z acts (IsAt q) p) → CarriesTo acts v u old new q p (IsIdleAt v.next)
carries_once acts v w u old mid new s o x q p h could from_there there first is added spreads =
    carries_then acts v w u old mid new q p p (λ z. HoldsOnly (s, o, x) z × (z.next ≡ v.next)) (IsIdleAt v.next) held
    (carries_so acts w u mid new p p (λ z. HoldsNothing z × (z.next ≡ w.next)) (IsIdleAt v.next) (λ now. (now.0, now.1 ∙ held.now.1))
    (carries_step acts w (release s o x) u mid new p HoldsNothing held.secure (in_grown acts v w held.grown p there)
    (to_release acts w held.secure held.within s o x ((got_qualifies v acts s o x could).actor) (known_grown acts v w held.grown s both.0) (held.grown.active o both.1) held.now.0)
    is added)) where
      both : (is_subject v s ≡ true) × (is_active v o ≡ true)
      both = and_parts (is_subject v s) (is_active v o) ((got_qualifies v acts s o x could).known)

      held : CarriesTo acts v w old mid q p (λ z. HoldsOnly (s, o, x) z × (z.next ≡ v.next))
      held = carries_held acts v w old mid s o x q p h from_there first spreads

-- the subject sees what is in the object, or leaves there what it has
pub carries_seen : (acts : ℕ → Bool) (v w u : State) (old mid new : List Request) (s o : ℕ) (x : Mode) → IsSecure v → CouldGet v acts s o x
    → LeadsTo acts v w old mid (HoldsOnly (s, o, x)) → u ≡ after w (release s o x) → new ≡ mid ++ release s o x ∷ [] → observes x ≡ true
    → CarriesTo acts v u old new (Object o) (Subject s) (IsIdleAt v.next)
carries_seen acts v w u old mid new s o x h could first is added observe =
    carries_once acts v w u old mid new s o x (Object o) (Subject s) h could
    ((and_parts (is_subject v s) (is_active v o) ((got_qualifies v acts s o x could).known)).1) tt first is added
    (λ z held. saw s o x observe ((got_qualifies v acts s o x could).actor) held (was (Object o) refl))

pub carries_left : (acts : ℕ → Bool) (v w u : State) (old mid new : List Request) (s o : ℕ) (x : Mode) → IsSecure v → CouldGet v acts s o x
    → LeadsTo acts v w old mid (HoldsOnly (s, o, x)) → u ≡ after w (release s o x) → new ≡ mid ++ release s o x ∷ [] → alters x ≡ true
    → CarriesTo acts v u old new (Subject s) (Object o) (IsIdleAt v.next)
carries_left acts v w u old mid new s o x h could first is added alter =
    carries_once acts v w u old mid new s o x (Subject s) (Object o) h could tt
    ((and_parts (is_subject v s) (is_active v o) ((got_qualifies v acts s o x could).known)).1) first is added
    (λ z held. left s o x alter ((got_qualifies v acts s o x could).actor) held (was (Subject s) refl))
