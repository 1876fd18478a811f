-- Content that is handed on through an object that is made for it.
use Rattle.std.proofs.Common.{◌≡◌, ℕ, ◌+◌, ◌<◌, Bool, true, false, not, ◌&&◌, ◌||◌, ◌⊎◌, inl, inr, nat_eq, nat_lt, Option, Some, None, is_some, refl, sym, ap, subst, ◌∙◌, arith}
use Rattle.std.proofs.lemmas.Bool.{and_parts, and_from, or_left, or_right}
use Rattle.std.proofs.lemmas.Bool.Decides.{nat_tests}
use Rattle.std.specs.FinMap as map
use Rattle.std.specs.FinSet as set
use Rattle.mls_facts.proofs.Entries.{at_new, elsewhere, has-inserted}
use Rattle.mls_labels.specs.Label.{Label, has_label}
use Rattle.mls_labels.proofs.Laws.{reflexive}
use Rattle.mls_tables.specs.declared.limits.TheConstants.{MAX_OBJECTS}
use Rattle.mls_tables.specs.declared.mode.Mode.{Mode}
use Rattle.mls_tables.specs.declared.mode.Mode.TheVariants.{Read, Append, Write}
use Rattle.mls_tables.proofs.Laws.{is_triple-itself}
use Rattle.mls_requests.specs.declared.request.Request.{Request}
use Rattle.mls_state.specs.State.{State, is_subject, is_active, is_above}
use Rattle.mls_state.specs.Properties.{IsSecure}
use Rattle.mls_state.specs.Changes.{with_object}
use Rattle.mls_rules.specs.Rules.{reply, after, conditions, AllHold, controls, is_defined, names_known}
use Rattle.mls_rules.proofs.Laws.{after_secure}
use Rattle.mls_laws.specs.Journals.{is_grant}
use Rattle.mls_laws.specs.NewObjects.{creates}
use Rattle.mls_laws.proofs.Laws.{grants, after_grant, not_new}
use Rattle.mls_futures.specs.Closure.{HasTrusted, Qualifies, CouldGet, permitted}
use Rattle.mls_futures.specs.Futures.{HasLabelsWithin, HoldsNothing}
use Rattle.mls_futures.proofs.Laws.{HoldsOnly, TrustedKnown, IsStep, give, release, to_give, to_release, parent_controls, trusted_still, label_there, got_qualifies, within_insert}
use Rattle.mls_flows.specs.Arriving.{was, saw, left, IsAt, HasIntegrityWithin}
use Rattle.mls_flows.specs.Reaching.{CouldHand}
pub use Rattle.mls_flows.specs.Ways.{IsBetween}
use Rattle.mls_flows.specs.declared.place.Place.{Place}
use Rattle.mls_flows.specs.declared.place.Place.TheVariants.{Subject, Object}
use Rattle.mls_flows.proofs.Before.{IsIn}
use Rattle.mls_flows.proofs.Passing.{Way, ends, goes, Grown, Carries, carries_on}
use Rattle.mls_flows.proofs.Getting.{known_grown, trusted_grown, still_at, carries_as, IsIdle, by_one, hold_once, to_hold}

-- each subject has an integrity label, which is within the bounds, and each trusted one is known
pub record HasSubjects (v : State) : Type 0 where
  pub own : (s : ℕ) → map.contains_key v.subject_integrity s ≡ is_subject v s
  pub trusted : TrustedKnown v
  pub bound : HasIntegrityWithin v

pub subjects_grown : (acts : ℕ → Bool) (v w : State) → Grown acts v w → HasSubjects v → HasSubjects w
subjects_grown acts v w f k = record {
  own = λ s. (λ i. map.contains_key (f.subject_integrity i) s) ∙ k.own s ∙ (λ i. map.contains_key (sym f.maximum i) s);
  trusted = trusted_grown acts v w f k.trusted;
  bound = λ s l at. ap (λ b. has_label b l) f.bounds ∙ k.bound s l (ap (λ m. map.get m s) (sym f.subject_integrity) ∙ at);
}

-- what is dominated is there
pub below_there : (a b : Option Label) → is_above a b ≡ true → is_some b ≡ true
below_there (Some a) (Some b) above = refl
below_there (Some a) None above = cc
below_there None b above = cc

pub above_there : (a b : Option Label) → is_above a b ≡ true → is_some a ≡ true
above_there (Some a) (Some b) above = refl
above_there (Some a) None above = cc
above_there None b above = cc

pub between_grown : (acts : ℕ → Bool) (s t n p : ℕ) (v w : State) → Grown acts v w → IsBetween acts s t n p v → IsBetween acts s t n p w
between_grown acts s t n p v w f b = record {
  active = f.active n b.active;
  parent = f.parent n b.active ∙ b.parent;
  above = (λ i. is_above (map.get (f.subject_integrity i) s) (f.integrity n b.active i)) ∙ b.above;
  below = (λ i. is_above (f.integrity n b.active i) (map.get (f.subject_integrity i) t)) ∙ b.below;
  cleared = from b.cleared (f.label n b.active);
} where
  from : (is_above (map.get v.maximum t) (map.get v.object_label n) ≡ true) ⊎ HasTrusted v acts → (map.get w.object_label n ≡ map.get v.object_label n) ⊎ HasTrusted v acts
      → (is_above (map.get w.maximum t) (map.get w.object_label n) ≡ true) ⊎ HasTrusted w acts
  from (inl above) (inl same) = inl ((λ i. is_above (map.get (f.maximum i) t) (same i)) ∙ above)
  from (inl above) (inr trusted) = inr (trusted_still acts v w f.trusted trusted)
  from (inr trusted) same = inr (trusted_still acts v w f.trusted trusted)

module _ (acts : ℕ → Bool) (s t maker p n : ℕ) (hands : acts s ≡ true) (takes : acts t ≡ true) (makes : acts maker ≡ true) where
  -- what is asked of each state on the way
  pub record IsWell (w : State) : Type 0 where
    pub secure : IsSecure w
    pub within : HasLabelsWithin w
    pub trusted : TrustedKnown w
    pub giver : is_subject w s ≡ true
    pub taker : is_subject w t ≡ true
    pub making : is_subject w maker ≡ true
    pub between : IsBetween acts s t n p w

  pub well_grown : (v w : State) → Grown acts v w → IsSecure w → HasLabelsWithin w → IsWell v → IsWell w
  well_grown v w f h within k = record {
    secure = h;
    within = within;
    trusted = trusted_grown acts v w f k.trusted;
    giver = known_grown acts v w f s k.giver;
    taker = known_grown acts v w f t k.taker;
    making = known_grown acts v w f maker k.making;
    between = between_grown acts s t n p v w f k.between;
  }

  pub could_append : (w : State) → IsWell w → set.contains w.matrix (s, n, Append) ≡ true → CouldGet w acts s n Append
  could_append w k has = permitted has (record {
    actor = hands;
    known = and_from (is_subject w s) (is_active w n) k.giver k.between.active;
    integrity = k.between.above;
    simple = inl refl;
  })

  pub could_read : (w : State) → IsWell w → set.contains w.matrix (t, n, Read) ≡ true → CouldGet w acts t n Read
  could_read w k has = permitted has (record {
    actor = takes;
    known = and_from (is_subject w t) (is_active w n) k.taker k.between.active;
    integrity = and_from (is_above (map.get w.object_integrity n) (map.get w.subject_integrity t)) true k.between.below refl;
    simple = k.between.cleared;
  })

  -- the other one reads it
  by_reading : (w : State) → IsWell w → HoldsNothing w → set.contains w.matrix (t, n, Read) ≡ true → Carries acts w (Object n) (Subject t) HoldsNothing
  by_reading w k free has =
      carries_as acts w (Object n) (Subject t) (IsIdle w.next) HoldsNothing (λ u idle. idle.0)
      (hold_once acts w k.secure k.within k.trusted free t n Read (Object n) (Subject t) (could_read w k has) k.between.active tt
      (λ u held. saw t n Read refl takes held (was (Object n) refl)))

  -- the first one appends to it before
  by_appending : (w : State) → IsWell w → HoldsNothing w → set.contains w.matrix (s, n, Append) ≡ true → set.contains w.matrix (t, n, Read) ≡ true
      → Carries acts w (Subject s) (Subject t) HoldsNothing
  by_appending w k free has reads =
      carries_on acts w (Subject s) (Object n) (Subject t) (IsIdle w.next) HoldsNothing
      (hold_once acts w k.secure k.within k.trusted free s n Append (Subject s) (Object n) (could_append w k has) tt k.between.active
      (λ u held. left s n Append refl hands held (was (Subject s) refl)))
      (λ u f h within idle. by_reading u (well_grown w u f h within k) idle.0 (f.matrix (t, n, Read) reads))

  -- the maker releases the parent before
  by_releasing : (w : State) → IsWell w → HoldsOnly (maker, p, Write) w → is_active w p ≡ true → set.contains w.matrix (s, n, Append) ≡ true
      → set.contains w.matrix (t, n, Read) ≡ true → Carries acts w (Subject s) (Subject t) HoldsNothing
  by_releasing w k only active appends reads =
      carries_on acts w (Subject s) (Subject s) (Subject t) HoldsNothing HoldsNothing
      (carries_as acts w (Subject s) (Subject s) (IsIdle w.next) HoldsNothing (λ u idle. idle.0)
      (by_one acts w (release maker p Write) HoldsNothing (Subject s) k.secure tt (to_release acts w k.secure k.within maker p Write makes k.making active only)))
      (λ u f h within free. by_appending u (well_grown w u f h within k) free (f.matrix (s, n, Append) appends) (f.matrix (t, n, Read) reads))

  pub controls_it : (w : State) → IsWell w → HoldsOnly (maker, p, Write) w → controls w maker n ≡ true
  controls_it w k only = parent_controls w maker n p k.secure k.between.parent (only (maker, p, Write) ∙ is_triple-itself (maker, p, Write))

  -- both permissions are given before
  by_giving_read : (w : State) → IsWell w → HoldsOnly (maker, p, Write) w → is_active w p ≡ true → set.contains w.matrix (s, n, Append) ≡ true
      → Carries acts w (Subject s) (Subject t) HoldsNothing
  by_giving_read w k only active appends =
      carries_on acts w (Subject s) (Subject s) (Subject t) (λ u. (u.accesses ≡ w.accesses) × (set.contains u.matrix (t, n, Read) ≡ true)) HoldsNothing
      (carries_as acts w (Subject s) (Subject s) (λ u. ((u.accesses ≡ w.accesses) × (set.contains u.matrix (t, n, Read) ≡ true)) × (u.next ≡ w.next)) (λ u. (u.accesses ≡ w.accesses) × (set.contains u.matrix (t, n, Read) ≡ true)) (λ u now. now.0)
      (by_one acts w (give maker t n Read) (λ u. (u.accesses ≡ w.accesses) × (set.contains u.matrix (t, n, Read) ≡ true)) (Subject s) k.secure tt
      (to_give acts w k.secure k.within maker t n Read makes k.making k.taker k.between.active (controls_it w k only))))
      (λ u f h within now. by_releasing u (well_grown w u f h within k) (λ a. ap (λ b. set.contains b a) now.0 ∙ only a) (f.active p active)
      (f.matrix (s, n, Append) appends) now.1)

  pub by_giving : (w : State) → IsWell w → HoldsOnly (maker, p, Write) w → is_active w p ≡ true → Carries acts w (Subject s) (Subject t) HoldsNothing
  by_giving w k only active =
      carries_on acts w (Subject s) (Subject s) (Subject t) (λ u. (u.accesses ≡ w.accesses) × (set.contains u.matrix (s, n, Append) ≡ true)) HoldsNothing
      (carries_as acts w (Subject s) (Subject s) (λ u. ((u.accesses ≡ w.accesses) × (set.contains u.matrix (s, n, Append) ≡ true)) × (u.next ≡ w.next)) (λ u. (u.accesses ≡ w.accesses) × (set.contains u.matrix (s, n, Append) ≡ true)) (λ u now. now.0)
      (by_one acts w (give maker s n Append) (λ u. (u.accesses ≡ w.accesses) × (set.contains u.matrix (s, n, Append) ≡ true)) (Subject s) k.secure tt
      (to_give acts w k.secure k.within maker s n Append makes k.making k.giver k.between.active (controls_it w k only))))
      (λ u f h within now. by_giving_read u (well_grown w u f h within k) (λ a. ap (λ b. set.contains b a) now.0 ∙ only a) (f.active p active) now.1)

-- an object is made below another one, with its label and an integrity label
module _ (acts : ℕ → Bool) (w : State) (maker p : ℕ) (l i : Label) (h : IsSecure w) (within : HasLabelsWithin w) (makes : acts maker ≡ true) (known : is_subject w maker ≡ true)
    (active : is_active w p ≡ true) (label : map.get w.object_label p ≡ Some l) (fits : is_above (map.get w.object_integrity p) (Some i) ≡ true)
    (bound : has_label w.integrity i ≡ true) (writes : set.contains w.accesses (maker, p, Write) ≡ true) (free : w.next < MAX_OBJECTS) where
  room : nat_lt w.next MAX_OBJECTS ≡ true
  room = grind (arith, nat_tests, free)

  abbrev asked : Request
  asked = creates maker p l i

  defined : is_defined w asked ≡ true
  defined =
      and_from (is_subject w maker) (is_active w p && (has_label w.security l && has_label w.integrity i)) known
      (and_from (is_active w p) (has_label w.security l && has_label w.integrity i) active (and_from (has_label w.security l) (has_label w.integrity i) (within p l label) bound))

  holds : AllHold (conditions w maker asked.action)
  holds = (
    or_right (set.contains w.accesses (maker, p, Append)) (set.contains w.accesses (maker, p, Write)) writes,
    (ap (is_above (Some l)) label ∙ reflexive l, (fits, (room, tt))),
  )

  pub grant_made : is_grant (reply w (creates maker p l i)) ≡ true
  grant_made = ap is_grant (grants w asked defined holds)

  pub is_made : after w (creates maker p l i) ≡ with_object w p l i
  is_made = after_grant w asked grant_made

  other : (o : ℕ) → is_active w o ≡ true → nat_eq o w.next ≡ false
  other o there = not_new w o h.tree there room

  there_still : (o : ℕ) → is_active w o ≡ true → is_active (with_object w p l i) o ≡ true
  there_still o there = has-inserted w.object_label w.next l o ∙ or_right (nat_eq o w.next) (is_active w o) there

  made_grown : Grown acts w (with_object w p l i)
  made_grown = record {
    maximum = refl;
    subject_integrity = refl;
    trusted = refl;
    bounds = refl;
    active = there_still;
    integrity = λ o there. elsewhere w.object_integrity w.next i o (other o there);
    parent = λ o there. elsewhere w.parent w.next p o (other o there);
    label = λ o there. inl (elsewhere w.object_label w.next l o (other o there));
    matrix = λ t there. there;
  }

  pub keeps_made : (o : ℕ) → is_active w o ≡ true → is_active (after w (creates maker p l i)) o ≡ true
  keeps_made o there = subst (λ (u : State). is_active u o ≡ true) (sym is_made) (there_still o there)

  pub grown_made : Grown acts w (after w (creates maker p l i))
  grown_made = subst (Grown acts w) (sym is_made) made_grown

  pub within_made : HasLabelsWithin (after w (creates maker p l i))
  within_made = subst HasLabelsWithin (sym is_made) (λ o k at. within_insert w.security w.object_label w.next l within (within p l label) o k at)

  way : Way acts w (after w asked)
  way = goes asked makes grant_made keeps_made ends

  pub make : (q : Place) → IsIn w q → Carries acts w q q (λ u. u ≡ with_object w p l i)
  make q there = record {
    last = after w asked;
    way = way;
    grown = grown_made;
    secure = after_secure w asked h;
    within = within_made;
    along = still_at acts w (after w asked) way q there;
    now = is_made;
  }

-- what is made so lies between the two
pub between_made : (acts : ℕ → Bool) (s t p : ℕ) (w : State) (l i : Label) → map.get w.object_label p ≡ Some l → is_above (map.get w.subject_integrity s) (Some i) ≡ true
    → map.get w.subject_integrity t ≡ Some i → (is_above (map.get w.maximum t) (map.get w.object_label p) ≡ true) ⊎ HasTrusted w acts
    → IsBetween acts s t w.next p (with_object w p l i)
between_made acts s t p w l i label above own clear = record {
  active = ap is_some (at_new w.object_label w.next l);
  parent = at_new w.parent w.next p;
  above = ap (is_above (map.get w.subject_integrity s)) (at_new w.object_integrity w.next i) ∙ above;
  below = (λ j. is_above (at_new w.object_integrity w.next i j) (own j)) ∙ reflexive i;
  cleared = from clear;
} where
  from : (is_above (map.get w.maximum t) (map.get w.object_label p) ≡ true) ⊎ HasTrusted w acts
      → (is_above (map.get w.maximum t) (map.get (map.insert w.object_label w.next l) w.next) ≡ true) ⊎ HasTrusted (with_object w p l i) acts
  from (inl clears) = inl (ap (is_above (map.get w.maximum t)) (at_new w.object_label w.next l ∙ sym label) ∙ clears)
  from (inr trusted) = inr (trusted_still acts w (with_object w p l i) refl trusted)

-- content is handed on
module _ (acts : ℕ → Bool) (v : State) (h : IsSecure v) (within : HasLabelsWithin v) (subjects : HasSubjects v) (s t : ℕ) (hand : CouldHand v acts s t) where
  giver_known : is_subject v s ≡ true
  giver_known = sym (subjects.own s) ∙ above_there (map.get v.subject_integrity s) (map.get v.subject_integrity t) hand.lower

  taker_known : is_subject v t ≡ true
  taker_known = sym (subjects.own t) ∙ below_there (map.get v.subject_integrity s) (map.get v.subject_integrity t) hand.lower

  q : Qualifies v acts hand.maker hand.parent Write
  q = got_qualifies v acts hand.maker hand.parent Write hand.makes

  both : (is_subject v hand.maker ≡ true) × (is_active v hand.parent ≡ true)
  both = and_parts (is_subject v hand.maker) (is_active v hand.parent) q.known

  label_of : (i : Label) × (map.get v.subject_integrity t ≡ Some i)
  label_of = label_there (map.get v.subject_integrity t) (below_there (map.get v.subject_integrity s) (map.get v.subject_integrity t) hand.lower)

  -- where its parent is written, the object is made
  made_where : (w : State) → Grown acts v w → IsSecure w → HasLabelsWithin w → TrustedKnown w → HoldsOnly (hand.maker, hand.parent, Write) w → w.next < MAX_OBJECTS
      → Carries acts w (Subject s) (Subject t) HoldsNothing
  made_where w f k inside trusted only free =
      carries_on acts w (Subject s) (Subject s) (Subject t) (λ u. u ≡ with_object w hand.parent l.0 label_of.0) HoldsNothing
      (make acts w hand.maker hand.parent l.0 label_of.0 k inside q.actor (known_grown acts v w f hand.maker both.0) active l.1
      ((λ i. is_above (f.integrity hand.parent both.1 i) (sym label_of.1 i)) ∙ hand.fits)
      (ap (λ b. has_label b label_of.0) f.bounds ∙ subjects.bound t label_of.0 label_of.1)
      (only (hand.maker, hand.parent, Write) ∙ is_triple-itself (hand.maker, hand.parent, Write)) free (Subject s) tt)
      (λ u g m within_u is.
      by_giving acts s t hand.maker hand.parent w.next hand.hands hand.takes q.actor u (record {
        secure = m;
        within = within_u;
        trusted = trusted_grown acts w u g trusted;
        giver = known_grown acts w u g s (known_grown acts v w f s giver_known);
        taker = known_grown acts w u g t (known_grown acts v w f t taker_known);
        making = known_grown acts w u g hand.maker (known_grown acts v w f hand.maker both.0);
        between = subst (IsBetween acts s t w.next hand.parent) (sym is)
            (between_made acts s t hand.parent w l.0 label_of.0 l.1
            ((λ i. is_above (map.get (f.subject_integrity i) s) (sym label_of.1 i)) ∙ hand.lower)
            (ap (λ m. map.get m t) f.subject_integrity ∙ label_of.1) (clears hand.cleared (f.label hand.parent both.1)));
      }) (λ a. ap (λ (z : State). set.contains z.accesses a) is ∙ only a) (g.active hand.parent active)) where
        active : is_active w hand.parent ≡ true
        active = f.active hand.parent both.1

        l : (l : Label) × (map.get w.object_label hand.parent ≡ Some l)
        l = label_there (map.get w.object_label hand.parent) active

        clears : (is_above (map.get v.maximum t) (map.get v.object_label hand.parent) ≡ true) ⊎ HasTrusted v acts
            → (map.get w.object_label hand.parent ≡ map.get v.object_label hand.parent) ⊎ HasTrusted v acts
            → (is_above (map.get w.maximum t) (map.get w.object_label hand.parent) ≡ true) ⊎ HasTrusted w acts
        clears (inl above) (inl same) = inl ((λ i. is_above (map.get (f.maximum i) t) (same i)) ∙ above)
        clears (inl above) (inr trusts) = inr (trusted_still acts v w f.trusted trusts)
        clears (inr trusts) same = inr (trusted_still acts v w f.trusted trusts)

  pub hand_over : HoldsNothing v → v.next < MAX_OBJECTS → Carries acts v (Subject s) (Subject t) HoldsNothing
  hand_over nothing free =
      carries_on acts v (Subject s) (Subject s) (Subject t) (λ w. HoldsOnly (hand.maker, hand.parent, Write) w × (w.next ≡ v.next)) HoldsNothing
      (to_hold acts v h within subjects.trusted nothing hand.maker hand.parent Write (Subject s) (Subject s) hand.makes tt (λ u held. was (Subject s) refl))
      (λ w f k inside now. made_where w f k inside (trusted_grown acts v w f subjects.trusted) now.0 (subst (λ n. n < MAX_OBJECTS) (sym now.1) free))
