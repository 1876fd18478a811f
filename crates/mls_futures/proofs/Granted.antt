-- The script of what the closure has: each of its requests is granted.
use Rattle.std.proofs.Common.{◌≡◌, ℕ, Bool, List, [], ◌∷◌, ◌++◌, refl, sym, ap, subst, ◌∙◌}
use Rattle.std.specs.FinSet as set
use Rattle.mls_tables.specs.Triples.{Triple}
use Rattle.mls_tables.specs.declared.mode.Mode.{Mode}
use Rattle.mls_requests.specs.declared.request.Request.{Request}
use Rattle.mls_state.specs.State.{State}
use Rattle.mls_state.specs.Properties.{IsSecure, HasWholeTables}
use Rattle.mls_rules.specs.Rules.{after}
use Rattle.mls_laws.specs.Journals.{run}
use Rattle.mls_laws.proofs.Laws.{grants}
use Rattle.mls_futures.specs.Closure.{CouldGet}
use Rattle.mls_futures.specs.Futures.{HasLabelsWithin, HoldsNothing}
use Rattle.mls_futures.specs.Scripts.{AreGranted, AreOfActors, AreToRelease, BringsAbout}
use Rattle.mls_futures.proofs.Scripts.{Script, done, asks, Goes}
use Rattle.mls_futures.proofs.Steps.{HoldsOnly}
use Rattle.mls_futures.proofs.Coming.{comes}
use Rattle.mls_futures.proofs.Journals.{without, AllKnown, release, released_one, known_after, requests_of, releases_of, none_left, all_known}
use Rattle.mls_futures.proofs.BothWays.{could_without, secure_without}

-- requests one after the other
pub granted_both : (v : State) (rs qs : List Request) → AreGranted v rs → AreGranted (run v rs) qs → AreGranted v (rs ++ qs)
granted_both v [] qs first later = later
granted_both v (r ∷ rs) qs first later = (first.0, granted_both (after v r) rs qs first.1 later)

pub run_both : (v : State) (rs qs : List Request) → run v (rs ++ qs) ≡ run (run v rs) qs
run_both v [] qs = refl
run_both v (r ∷ rs) qs = run_both (after v r) rs qs

-- the requests of a script
script_granted : (acts : ℕ → Bool) (v w : State) (script : Script acts v w) → AreGranted v (requests_of acts v w script)
script_granted acts v w done = tt
script_granted acts v w (asks r actor grant keeps rest) = (grant, script_granted acts (after v r) w rest)

script_of_actors : (acts : ℕ → Bool) (v w : State) (script : Script acts v w) → AreOfActors acts (requests_of acts v w script)
script_of_actors acts v w done = tt
script_of_actors acts v w (asks r actor grant keeps rest) = (actor, script_of_actors acts (after v r) w rest)

script_runs : (acts : ℕ → Bool) (v w : State) (script : Script acts v w) → run v (requests_of acts v w script) ≡ w
script_runs acts v w done = refl
script_runs acts v w (asks r actor grant keeps rest) = script_runs acts (after v r) w rest

-- the releases of accesses that are known
to_release : (ts : List Triple) → AreToRelease (releases_of ts)
to_release [] = tt
to_release (t ∷ ts) = ((t.2, t.1, refl), to_release ts)

releases_granted : (v : State) (ts : List Triple) → AllKnown v ts → AreGranted v (releases_of ts)
releases_granted v [] known = tt
releases_granted v (t ∷ ts) known = (
  grants v (release t) known.0 tt,
  subst (λ w. AreGranted w (releases_of ts)) (sym (released_one v t known.0))
      (releases_granted (record v { accesses = set.remove v.accesses t }) ts (known_after v t ts known.1)),
)

releases_run : (v : State) (ts : List Triple) → AllKnown v ts → run v (releases_of ts) ≡ record v { accesses = without v.accesses ts }
releases_run v [] known = refl
releases_run v (t ∷ ts) known =
    ap (λ w. run w (releases_of ts)) (released_one v t known.0)
    ∙ releases_run (record v { accesses = set.remove v.accesses t }) ts (known_after v t ts known.1)

pub brings_about : (v : State) (acts : ℕ → Bool) (s o : ℕ) (x : Mode) → IsSecure v → HasWholeTables v → HasLabelsWithin v → CouldGet v acts s o x
    → (script : List Request) × BringsAbout v acts (s, o, x) script
brings_about v acts s o x h whole within could = (
  releases ++ requests,
  record {
    releases = releases;
    requests = requests;
    both = refl;
    granted = granted_both v releases requests (releases_granted v (set.items v.accesses) known)
        (subst (λ u. AreGranted u requests) (sym free) (script_granted acts w way.last way.script));
    releasing = to_release (set.items v.accesses);
    released = subst HoldsNothing (sym free) (λ u. none_left v.accesses u);
    of_actors = script_of_actors acts w way.last way.script;
    held = λ u. ap (λ (z : State). set.contains z.accesses u)
        (run_both v releases requests ∙ ap (λ z. run z requests) free ∙ script_runs acts w way.last way.script)
        ∙ way.now u;
  },
) where
  releases : List Request
  releases = releases_of (set.items v.accesses)

  known : AllKnown v (set.items v.accesses)
  known = all_known v h.tree.accesses_known

  w : State
  w = record v { accesses = without v.accesses (set.items v.accesses) }

  free : run v releases ≡ w
  free = releases_run v (set.items v.accesses) known

  way : Goes acts w (HoldsOnly (s, o, x))
  way =
      comes acts w (secure_without v h) within whole.trusted (λ u. none_left v.accesses u) s o x
      (could_without v acts (without v.accesses (set.items v.accesses)) s o x could)

  requests : List Request
  requests = requests_of acts w way.last way.script
