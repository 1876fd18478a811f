-- Ways on: requests of actors that are granted one after the other, and delete nothing; and the content that they carry.
use Rattle.std.proofs.Common.{◌≡◌, ℕ, zero, suc, ◌+◌, Bool, true, ◌⊎◌, inl, inr, List, [], ◌∷◌, ◌++◌, Some, refl, sym, ap, subst, ◌∙◌}
use Rattle.std.specs.Prelude.{slice_get}
use Rattle.std.specs.FinMap as map
use Rattle.std.specs.FinSet as set
use Rattle.mls_tables.specs.Triples.{Triple}
use Rattle.mls_requests.specs.declared.request.Request.{Request}
use Rattle.mls_requests.specs.declared.entry.Entry.{Entry}
use Rattle.mls_state.specs.State.{State, is_active}
use Rattle.mls_state.specs.Properties.{IsSecure}
use Rattle.mls_rules.specs.Rules.{reply, after}
use Rattle.mls_monitor.specs.Journal.{fold}
use Rattle.mls_laws.specs.Journals.{is_grant, StaysActive}
use Rattle.mls_futures.specs.Closure.{HasTrusted}
use Rattle.mls_futures.specs.Futures.{IsByActors, HasLabelsWithin}
use Rattle.mls_futures.specs.Scripts.{Alike}
use Rattle.mls_futures.proofs.Laws.{Script, done, asks, entries_of, trusted_still}
use Rattle.mls_flows.specs.Arriving.{Spreads, was, Keeps, IsCarried, StaysThere, IsAt}
pub use Rattle.mls_flows.specs.Ways.{Way, ends, goes, requests_on, Along, Grown}
use Rattle.mls_flows.specs.declared.place.Place.{Place}
use Rattle.mls_flows.specs.declared.place.Place.TheVariants.{Subject, Object}
use Rattle.mls_flows.proofs.Spreading.{spreads_more, keeps_more}

pub and_on : (acts : ℕ → Bool) (u v w : State) → Way acts u v → Way acts v w → Way acts u w
and_on acts u v w ends second = second
and_on acts u v w (goes r actor grant keeps rest) second = goes r actor grant keeps (and_on acts (after u r) v w rest second)

abbrev pub way_of : (acts : ℕ → Bool) (v w : State) → Script acts v w → Way acts v w
way_of acts v w done = ends
way_of acts v w (asks r actor grant keeps rest) = goes r actor (ap is_grant grant) keeps (way_of acts (after v r) w rest)

pub requests_both : (acts : ℕ → Bool) (u v w : State) (first : Way acts u v) (second : Way acts v w)
    → requests_on acts u w (and_on acts u v w first second) ≡ requests_on acts u v first ++ requests_on acts v w second
unfolding and_on
requests_both acts u v w ends second = refl
requests_both acts u v w (goes r actor grant keeps rest) second = ap (λ rs. r ∷ rs) (requests_both acts (after u r) v w rest second)

-- its requests lead where the way does, are actors', and leave each object there
pub way_leads : (acts : ℕ → Bool) (v w : State) (n : ℕ) (way : Way acts v w) → fold v (entries_of v n (requests_on acts v w way)) ≡ w
way_leads acts v w n ends = refl
way_leads acts v w n (goes r actor grant keeps rest) = way_leads acts (after v r) w (n + 1) rest

pub way_by : (acts : ℕ → Bool) (v w : State) (n : ℕ) (way : Way acts v w) → IsByActors acts (entries_of v n (requests_on acts v w way))
way_by acts v w n ends k e at = cc
way_by acts v w n (goes r actor grant keeps rest) zero e at =
    let is : record { number = n; session = 0; reply = reply v r; request = r } ≡ e = cc in subst (λ (f : Entry). acts f.request.subject ≡ true) is actor
way_by acts v w n (goes r actor grant keeps rest) (suc k) e at = way_by acts (after v r) w (n + 1) rest k e at

pub way_keeps : (acts : ℕ → Bool) (v w : State) (n : ℕ) (way : Way acts v w) (o : ℕ) → is_active v o ≡ true → StaysActive v (entries_of v n (requests_on acts v w way)) o
way_keeps acts v w n ends o active zero = active
way_keeps acts v w n ends o active (suc k) = active
way_keeps acts v w n (goes r actor grant keeps rest) o active zero = active
way_keeps acts v w n (goes r actor grant keeps rest) o active (suc k) = way_keeps acts (after v r) w (n + 1) rest o (keeps o active) k

pub carried_of : (acts : ℕ → Bool) (v w : State) (n : ℕ) (way : Way acts v w) (has : Place → Type 0) (p : Place) → Along acts v w way has p
    → IsCarried v acts has (entries_of v n (requests_on acts v w way)) p
carried_of acts v w n ends has p along = along
carried_of acts v w n (goes r actor grant keeps rest) has p along = carried_of acts (after v r) w (n + 1) rest (Keeps (after v r) (Spreads v acts has)) p along

pub along_more : (acts : ℕ → Bool) (v w : State) (way : Way acts v w) (has more : Place → Type 0) (p : Place) → ((q : Place) → has q → Spreads v acts more q)
    → Along acts v w way has p → Along acts v w way more p
along_more acts v w ends has more p on along = spreads_more v acts has more p on along
along_more acts v w (goes r actor grant keeps rest) has more p on along =
    along_more acts (after v r) w rest (Keeps (after v r) (Spreads v acts has)) (Keeps (after v r) (Spreads v acts more)) p
    (λ q kept. was q (keeps_more (after v r) (Spreads v acts has) (Spreads v acts more) q (λ m had. spreads_more v acts has more m on had) kept)) along

pub along_both : (acts : ℕ → Bool) (u v w : State) (first : Way acts u v) (second : Way acts v w) (has : Place → Type 0) (q p : Place) → Along acts u v first has q
    → Along acts v w second (IsAt q) p → Along acts u w (and_on acts u v w first second) has p
unfolding and_on
along_both acts u v w ends second has q p one two = along_more acts u w second (IsAt q) has p (λ m is. subst (Spreads u acts has) (sym is) one) two
along_both acts u v w (goes r actor grant keeps rest) second has q p one two =
    along_both acts (after u r) v w rest second (Keeps (after u r) (Spreads u acts has)) q p one two

-- content spreads in the end by what is held then
pub along_last : (acts : ℕ → Bool) (v w : State) (way : Way acts v w) (has : Place → Type 0) (q p : Place) → Along acts v w way has q → Spreads w acts (IsAt q) p
    → Along acts v w way has p
along_last acts v w ends has q p one spreads = spreads_more v acts (IsAt q) has p (λ m is. subst (Spreads v acts has) (sym is) one) spreads
along_last acts v w (goes r actor grant keeps rest) has q p one spreads =
    along_last acts (after v r) w rest (Keeps (after v r) (Spreads v acts has)) q p one spreads

-- content stays where it is
pub stays_on : (acts : ℕ → Bool) (v w : State) (way : Way acts v w) (has : Place → Type 0) (s : ℕ) → has (Subject s) → Along acts v w way has (Subject s)
stays_on acts v w ends has s had = was (Subject s) had
stays_on acts v w (goes r actor grant keeps rest) has s had =
    stays_on acts (after v r) w rest (Keeps (after v r) (Spreads v acts has)) s (was (Subject s) had)

pub stays_in : (acts : ℕ → Bool) (v w : State) (way : Way acts v w) (has : Place → Type 0) (o : ℕ) → is_active v o ≡ true → has (Object o) → Along acts v w way has (Object o)
stays_in acts v w ends has o active had = was (Object o) had
stays_in acts v w (goes r actor grant keeps rest) has o active had =
    stays_in acts (after v r) w rest (Keeps (after v r) (Spreads v acts has)) o (keeps o active) (was (Object o) had, keeps o active)

pub grown_itself : (acts : ℕ → Bool) (v : State) → Grown acts v v
grown_itself acts v = record {
  maximum = refl;
  subject_integrity = refl;
  trusted = refl;
  bounds = refl;
  active = λ o there. there;
  integrity = λ o there. refl;
  parent = λ o there. refl;
  label = λ o there. inl refl;
  matrix = λ t there. there;
}

pub grown_alike : (acts : ℕ → Bool) (v w : State) → Alike acts v w → w.integrity ≡ v.integrity → Grown acts v w
grown_alike acts v w f bounds = record {
  maximum = f.maximum;
  subject_integrity = f.subject_integrity;
  trusted = f.trusted;
  bounds = bounds;
  active = λ o there. f.active o ∙ there;
  integrity = λ o there. ap (λ m. map.get m o) f.integrity;
  parent = λ o there. ap (λ m. map.get m o) f.parent;
  label = λ o there. f.label o;
  matrix = f.matrix;
}

pub grown_on : (acts : ℕ → Bool) (u v w : State) → Grown acts u v → Grown acts v w → Grown acts u w
grown_on acts u v w f g = record {
  maximum = g.maximum ∙ f.maximum;
  subject_integrity = g.subject_integrity ∙ f.subject_integrity;
  trusted = g.trusted ∙ f.trusted;
  bounds = g.bounds ∙ f.bounds;
  active = λ o there. g.active o (f.active o there);
  integrity = λ o there. g.integrity o (f.active o there) ∙ f.integrity o there;
  parent = λ o there. g.parent o (f.active o there) ∙ f.parent o there;
  label = λ o there. from o (g.label o (f.active o there)) (f.label o there);
  matrix = λ t there. g.matrix t (f.matrix t there);
} where
  from : (o : ℕ) → (map.get w.object_label o ≡ map.get v.object_label o) ⊎ HasTrusted v acts → (map.get v.object_label o ≡ map.get u.object_label o) ⊎ HasTrusted u acts
      → (map.get w.object_label o ≡ map.get u.object_label o) ⊎ HasTrusted u acts
  from o (inl later) (inl before) = inl (later ∙ before)
  from o (inl later) (inr t) = inr t
  from o (inr t) before = inr (trusted_still acts v u (sym f.trusted) t)

-- A way carries content from a place to another one, and leads to a state that has all that there was, secure, with
-- labels within the bounds, and of which this holds.
pub record Carries (acts : ℕ → Bool) (v : State) (q p : Place) (P : State → Type 0) : Type 0 where
  pub last : State
  pub way : Way acts v last
  pub grown : Grown acts v last
  pub secure : IsSecure last
  pub within : HasLabelsWithin last
  pub along : Along acts v last way (IsAt q) p
  pub now : P last

pub carries_on : (acts : ℕ → Bool) (v : State) (q m p : Place) (P Q : State → Type 0) → Carries acts v q m P
    → ((w : State) → Grown acts v w → IsSecure w → HasLabelsWithin w → P w → Carries acts w m p Q) → Carries acts v q p Q
carries_on acts v q m p P Q first later =
    let second = later first.last first.grown first.secure first.within first.now in
    record {
      last = second.last;
      way = and_on acts v first.last second.last first.way second.way;
      grown = grown_on acts v first.last second.last first.grown second.grown;
      secure = second.secure;
      within = second.within;
      along = along_both acts v first.last second.last first.way second.way (IsAt q) m p first.along second.along;
      now = second.now;
    }

-- nothing is asked, and content spreads by what is held
pub carries_here : (acts : ℕ → Bool) (v : State) (q p : Place) (P : State → Type 0) → IsSecure v → HasLabelsWithin v → P v → Spreads v acts (IsAt q) p → Carries acts v q p P
carries_here acts v q p P h within holds spreads = record {
  last = v;
  way = ends;
  grown = grown_itself acts v;
  secure = h;
  within = within;
  along = spreads;
  now = holds;
}
