-- Content that an access carries: the access is brought about where nobody holds anything, and released.
use Rattle.std.proofs.Common.{◌≡◌, ℕ, Bool, true, false, not, ◌&&◌, ◌⊎◌, inl, inr, Some, refl, sym, ap, subst, ◌∙◌}
use Rattle.std.proofs.lemmas.Bool.{and_parts, and_from}
use Rattle.std.specs.FinMap as map
use Rattle.std.specs.FinSet as set
use Rattle.mls_facts.proofs.Entries.{has-kept}
use Rattle.mls_tables.specs.Mode.{observes, alters}
use Rattle.mls_tables.specs.declared.mode.Mode.{Mode}
use Rattle.mls_tables.proofs.Laws.{is_triple-itself}
use Rattle.mls_tree.specs.Tree.{here, is_inferior}
use Rattle.mls_tree.proofs.Laws.{is_inferior-Reaches}
use Rattle.mls_requests.specs.declared.action.Action.{Action}
use Rattle.mls_requests.specs.declared.action.Action.TheVariants.{Get, Release, Give, Rescind, Create, Delete, SubjectLevel, ObjectLevel}
use Rattle.mls_requests.specs.declared.reply.Reply.TheVariants.{Yes}
use Rattle.mls_requests.specs.declared.request.Request.{Request}
use Rattle.mls_state.specs.State.{State, is_subject, is_active}
use Rattle.mls_state.specs.Properties.{IsSecure, HasTree, simple_between, simple_holds, integrity_between}
use Rattle.mls_state.specs.Changes.{stays}
use Rattle.mls_rules.specs.Rules.{granted, reply, change, after, names_known}
use Rattle.mls_rules.proofs.Laws.{after_secure}
use Rattle.mls_laws.specs.Journals.{is_grant}
use Rattle.mls_laws.proofs.Laws.{Fixed, after_fixed, granted_from, after_grant}
use Rattle.mls_futures.specs.Closure.{HasTrusted, Qualifies, CouldGet, permitted, given_at_root, given_below}
use Rattle.mls_futures.specs.Futures.{HasLabelsWithin, HoldsNothing}
use Rattle.mls_futures.proofs.Laws.{Script, done, asks, IsStep, Goes, HoldsOnly, TrustedKnown, comes, release, to_release, trusted_still, got_qualifies}
use Rattle.mls_flows.specs.Arriving.{Spreads, was, saw, left, IsAt}
use Rattle.mls_flows.specs.Reaching.{CouldReach, here as is_here, seen, altered, handed}
use Rattle.mls_flows.specs.declared.place.Place.{Place}
use Rattle.mls_flows.specs.declared.place.Place.TheVariants.{Subject, Object}
use Rattle.mls_flows.proofs.Before.{IsIn}
use Rattle.mls_flows.proofs.Passing.{Way, ends, goes, way_of, Along, along_last, stays_on, stays_in, Grown, grown_alike, Carries, carries_on, carries_here}

-- what could be got could be got in a later state that has all that there was
pub qualifies_grown : (acts : ℕ → Bool) (v w : State) → Grown acts v w → (s o : ℕ) (x : Mode) → Qualifies v acts s o x → Qualifies w acts s o x
qualifies_grown acts v w f s o x q = record {
  actor = q.actor;
  known = and_from (is_subject w s) (is_active w o) (ap (λ m. map.contains_key m s) f.maximum ∙ known.0) (f.active o known.1);
  integrity = (λ i. integrity_between (map.get (f.subject_integrity i) s) (f.integrity o known.1 i) x) ∙ q.integrity;
  simple = from q.simple (f.label o known.1);
} where
  known : (is_subject v s ≡ true) × (is_active v o ≡ true)
  known = and_parts (is_subject v s) (is_active v o) q.known

  from : (simple_holds v (s, o, x) ≡ true) ⊎ HasTrusted v acts → (map.get w.object_label o ≡ map.get v.object_label o) ⊎ HasTrusted v acts
      → (simple_holds w (s, o, x) ≡ true) ⊎ HasTrusted w acts
  from (inl holds) (inl same) = inl ((λ i. simple_between (map.get (f.maximum i) s) (same i) x) ∙ holds)
  from (inl holds) (inr t) = inr (trusted_still acts v w f.trusted t)
  from (inr t) same = inr (trusted_still acts v w f.trusted t)

pub could_grown : (acts : ℕ → Bool) (v w : State) → Grown acts v w → (s o : ℕ) (x : Mode) → CouldGet v acts s o x → CouldGet w acts s o x
could_grown acts v w f s o x (permitted has q) = permitted (f.matrix (s, o, x) has) (qualifies_grown acts v w f s o x q)
could_grown acts v w f s o x (given_at_root t q) = given_at_root (trusted_still acts v w f.trusted t) (qualifies_grown acts v w f s 0 x q)
could_grown acts v w f s o x (given_below giver p at could q) =
    given_below giver p (f.parent o ((and_parts (is_subject v s) (is_active v o) q.known).1) ∙ at) (could_grown acts v w f giver p _ could)
    (qualifies_grown acts v w f s o x q)

pub known_grown : (acts : ℕ → Bool) (v w : State) → Grown acts v w → (s : ℕ) → is_subject v s ≡ true → is_subject w s ≡ true
known_grown acts v w f s known = ap (λ m. map.contains_key m s) f.maximum ∙ known

pub trusted_grown : (acts : ℕ → Bool) (v w : State) → Grown acts v w → TrustedKnown v → TrustedKnown w
trusted_grown acts v w f trusted s is = known_grown acts v w f s (trusted s (ap (λ b. set.contains b s) (sym f.trusted) ∙ is))

pub in_grown : (acts : ℕ → Bool) (v w : State) → Grown acts v w → (p : Place) → IsIn v p → IsIn w p
in_grown acts v w f (Subject s) there = tt
in_grown acts v w f (Object o) there = f.active o there

-- no request changes the bounds of integrity, and what is answered yes and deletes nothing leaves the next number
pub bounds_still : (v : State) (r : Request) → (after v r).integrity ≡ v.integrity
bounds_still v r = ap (λ (f : Fixed). f.4) (after_fixed v r)

pub script_bounds : (acts : ℕ → Bool) (v w : State) → Script acts v w → w.integrity ≡ v.integrity
script_bounds acts v w done = refl
script_bounds acts v w (asks r actor grant keeps rest) = script_bounds acts (after v r) w rest ∙ bounds_still v r

change_next : (v : State) (s : ℕ) (a : Action) → HasTree v → (is_subject v s && names_known v a) ≡ true → granted v a ≡ Yes
    → ((o : ℕ) → is_active v o ≡ true → is_active (change v s a) o ≡ true) → (change v s a).next ≡ v.next
change_next v s (Get x o) h known is_yes keeps = refl
change_next v s (Release x o) h known is_yes keeps = refl
change_next v s (Give x t o) h known is_yes keeps = refl
change_next v s (Rescind x t o) h known is_yes keeps = refl
change_next v s (Create p l i) h known is_yes keeps = cc
change_next v s (Delete o) h known is_yes keeps =
    let active : is_active v o ≡ true = (and_parts (is_subject v s) (is_active v o) known).1 in
    let stay : not (is_inferior v.parent o o) ≡ true = (and_parts (is_active v o) (stays v o o) (sym (has-kept v.object_label (stays v o) o) ∙ keeps o active)).1 in
    let below : is_inferior v.parent o o ≡ true = (is_inferior-Reaches v.parent (is_active v) h.objects o o).1 (active, here) in
    let no : true ≡ false = sym stay ∙ ap not below in cc
change_next v s (SubjectLevel l) h known is_yes keeps = refl
change_next v s (ObjectLevel o l) h known is_yes keeps = refl

pub after_next : (v : State) (r : Request) → HasTree v → reply v r ≡ Yes → ((o : ℕ) → is_active v o ≡ true → is_active (after v r) o ≡ true) → (after v r).next ≡ v.next
after_next v r h is_yes keeps =
    let grant : is_grant (reply v r) ≡ true = ap is_grant is_yes in
    let told = granted_from v r grant in
    let is = after_grant v r grant in
    ap (λ (w : State). w.next) is
    ∙ change_next v r.subject r.action h told.0 (sym told.2 ∙ is_yes) (λ o active. subst (λ (w : State). is_active w o ≡ true) is (keeps o active))

pub script_next : (acts : ℕ → Bool) (v w : State) → IsSecure v → Script acts v w → w.next ≡ v.next
script_next acts v w h done = refl
script_next acts v w h (asks r actor grant keeps rest) = script_next acts (after v r) w (after_secure v r h) rest ∙ after_next v r h.tree grant keeps

-- content stays where it is, whatever is asked
pub still_at : (acts : ℕ → Bool) (v w : State) (way : Way acts v w) (q : Place) → IsIn v q → Along acts v w way (IsAt q) q
still_at acts v w way (Subject s) there = stays_on acts v w way (IsAt (Subject s)) s refl
still_at acts v w way (Object o) there = stays_in acts v w way (IsAt (Object o)) o there refl

-- what is so of the last state may be said otherwise
pub carries_as : (acts : ℕ → Bool) (v : State) (q p : Place) (P Q : State → Type 0) → ((w : State) → P w → Q w) → Carries acts v q p P → Carries acts v q p Q
carries_as acts v q p P Q on one = record {
  last = one.last;
  way = one.way;
  grown = one.grown;
  secure = one.secure;
  within = one.within;
  along = one.along;
  now = on one.last one.now;
}

-- nobody holds anything, and the next number is this one
abbrev pub IsIdle : ℕ → State → Type 0
IsIdle n w = HoldsNothing w × (w.next ≡ n)

-- one request
pub by_one : (acts : ℕ → Bool) (v : State) (r : Request) (P : State → Type 0) (q : Place) → IsSecure v → IsIn v q → IsStep acts v r P
    → Carries acts v q q (λ w. P w × (w.next ≡ v.next))
by_one acts v r P q h there one = record {
  last = after v r;
  way = way;
  grown = grown_alike acts v (after v r) one.alike (bounds_still v r);
  secure = one.secure;
  within = one.within;
  along = still_at acts v (after v r) way q there;
  now = (one.now, after_next v r h.tree one.grant (λ o active. one.alike.active o ∙ active));
} where
  way : Way acts v (after v r)
  way = goes r one.actor (ap is_grant one.grant) (λ o active. one.alike.active o ∙ active) ends

module _ (acts : ℕ → Bool) (v : State) (h : IsSecure v) (within : HasLabelsWithin v) (known : TrustedKnown v) (nothing : HoldsNothing v) where
  -- an access is brought about
  pub to_hold : (s o : ℕ) (x : Mode) (q p : Place) → CouldGet v acts s o x → IsIn v q → ((u : State) → set.contains u.accesses (s, o, x) ≡ true → Spreads u acts (IsAt q) p)
      → Carries acts v q p (λ w. HoldsOnly (s, o, x) w × (w.next ≡ v.next))
  to_hold s o x q p could there spreads = record {
    last = found.last;
    way = way_of acts v found.last found.script;
    grown = grown_alike acts v found.last found.alike (script_bounds acts v found.last found.script);
    secure = found.secure;
    within = found.within;
    along = along_last acts v found.last (way_of acts v found.last found.script) (IsAt q) q p
        (still_at acts v found.last (way_of acts v found.last found.script) q there)
        (spreads found.last (found.now (s, o, x) ∙ is_triple-itself (s, o, x)));
    now = (found.now, script_next acts v found.last h found.script);
  } where
    found : Goes acts v (HoldsOnly (s, o, x))
    found = comes acts v h within known nothing s o x could

  -- and released
  pub hold_once : (s o : ℕ) (x : Mode) (q p : Place) → CouldGet v acts s o x → IsIn v q → IsIn v p
      → ((u : State) → set.contains u.accesses (s, o, x) ≡ true → Spreads u acts (IsAt q) p) → Carries acts v q p (IsIdle v.next)
  hold_once s o x q p could from_there there spreads =
      carries_on acts v q p p (λ w. HoldsOnly (s, o, x) w × (w.next ≡ v.next)) (IsIdle v.next) (to_hold s o x q p could from_there spreads)
      (λ w f k inside now.
      let both = and_parts (is_subject v s) (is_active v o) ((got_qualifies v acts s o x could).known) in
      carries_as acts w p p (IsIdle w.next) (IsIdle v.next) (λ u idle. (idle.0, idle.1 ∙ now.1))
      (by_one acts w (release s o x) HoldsNothing p k (in_grown acts v w f p there)
      (to_release acts w k inside s o x ((got_qualifies v acts s o x could).actor) (known_grown acts v w f s both.0) (f.active o both.1) now.0)))

-- in a later state
pub moved : (acts : ℕ → Bool) (v w : State) → Grown acts v w → IsSecure w → HasLabelsWithin w → TrustedKnown v → IsIdle v.next w → (s o : ℕ) (x : Mode) (q p : Place)
    → CouldGet v acts s o x → IsIn v q → IsIn v p → ((u : State) → set.contains u.accesses (s, o, x) ≡ true → Spreads u acts (IsAt q) p) → Carries acts w q p (IsIdle v.next)
moved acts v w f k inside known idle s o x q p could from_there there spreads =
    carries_as acts w q p (IsIdle w.next) (IsIdle v.next) (λ u now. (now.0, now.1 ∙ idle.1))
    (hold_once acts w k inside (trusted_grown acts v w f known) idle.0 s o x q p (could_grown acts v w f s o x could) (in_grown acts v w f q from_there)
    (in_grown acts v w f p there) spreads)

-- what could be reached by what could be got
module _ (acts : ℕ → Bool) (v : State) (h : IsSecure v) (within : HasLabelsWithin v) (known : TrustedKnown v) (nothing : HoldsNothing v) where
  pub arrive_plain : (q p : Place) → IsIn v q → CouldReach v acts false q p → Carries acts v q p (IsIdle v.next)
  arrive_plain q p there is_here = carries_here acts v q q (IsIdle v.next) h within (nothing, refl) (was q refl)
  arrive_plain q p there (seen s o x observe could rest) =
      carries_on acts v q (Object o) (Subject s) (IsIdle v.next) (IsIdle v.next) (arrive_plain q (Object o) there rest)
      (λ w f k inside idle. moved acts v w f k inside known idle s o x (Object o) (Subject s) could
      ((and_parts (is_subject v s) (is_active v o) ((got_qualifies v acts s o x could).known)).1) tt
      (λ u held. saw s o x observe ((got_qualifies v acts s o x could).actor) held (was (Object o) refl)))
  arrive_plain q p there (altered s o x alter could rest) =
      carries_on acts v q (Subject s) (Object o) (IsIdle v.next) (IsIdle v.next) (arrive_plain q (Subject s) there rest)
      (λ w f k inside idle. moved acts v w f k inside known idle s o x (Subject s) (Object o) could tt
      ((and_parts (is_subject v s) (is_active v o) ((got_qualifies v acts s o x could).known)).1)
      (λ u held. left s o x alter ((got_qualifies v acts s o x could).actor) held (was (Subject s) refl)))
  arrive_plain q p there (handed s t free hand rest) = cc
