-- Content that is handed on through an object that a request makes, or in the state after one, could be handed on in the
-- state before it.
use Rattle.std.proofs.Common.{◌≡◌, ℕ, Bool, true, false, not, ◌&&◌, ◌||◌, ◌⊎◌, inl, inr, Option, Some, refl, sym, ap, ◌∙◌}
use Rattle.std.proofs.lemmas.Bool.{and_parts}
use Rattle.std.specs.FinMap as map
use Rattle.std.specs.FinSet as set
use Rattle.mls_labels.specs.Label.{Label}
use Rattle.mls_tables.specs.Mode.{observes, alters, uses}
use Rattle.mls_tables.specs.declared.mode.Mode.{Mode}
use Rattle.mls_tables.specs.declared.mode.Mode.TheVariants.{Execute, Read, Append, Write}
use Rattle.mls_requests.specs.declared.request.Request.{Request}
use Rattle.mls_state.specs.State.{State, is_subject, is_active, is_above}
use Rattle.mls_state.specs.Properties.{IsSecure, simple_between, simple_holds, integrity_between}
use Rattle.mls_rules.specs.Rules.{after}
use Rattle.mls_rules.proofs.Laws.{after_secure}
use Rattle.mls_laws.proofs.Laws.{above_trans}
use Rattle.mls_futures.specs.Closure.{HasTrusted, Qualifies, CouldGet, permitted, given_at_root, given_below}
use Rattle.mls_futures.proofs.Laws.{Follows, shrinks, got_qualifies}
use Rattle.mls_flows.specs.Reaching.{CouldHand}
use Rattle.mls_flows.proofs.Made.{after_above, unpermitted}

-- strict integrity of a mode that alters, and of one that observes
pub altered_below : (own label : Option Label) (x : Mode) → alters x ≡ true → integrity_between own label x ≡ true → is_above own label ≡ true
altered_below own label Execute alter holds = cc
altered_below own label Read alter holds = cc
altered_below own label Append alter holds = (and_parts (not (uses Append) || is_above label own) (not (alters Append) || is_above own label) holds).1
altered_below own label Write alter holds = (and_parts (not (uses Write) || is_above label own) (not (alters Write) || is_above own label) holds).1

pub observed_above : (own label : Option Label) (x : Mode) → observes x ≡ true → integrity_between own label x ≡ true → is_above label own ≡ true
observed_above own label Execute observe holds = cc
observed_above own label Read observe holds = (and_parts (not (uses Read) || is_above label own) (not (alters Read) || is_above own label) holds).0
observed_above own label Append observe holds = cc
observed_above own label Write observe holds = (and_parts (not (uses Write) || is_above label own) (not (alters Write) || is_above own label) holds).0

-- simple security of a mode that observes
observed_cleared : (maximum label : Option Label) (x : Mode) → observes x ≡ true → simple_between maximum label x ≡ true → is_above maximum label ≡ true
observed_cleared maximum label Execute observe holds = cc
observed_cleared maximum label Read observe holds = holds
observed_cleared maximum label Append observe holds = cc
observed_cleared maximum label Write observe holds = holds

-- an object is below one that was there, and an actor could get write of that
record IsBelow (v w : State) (acts : ℕ → Bool) (o : ℕ) : Type 0 where
  pub maker : ℕ
  pub parent : ℕ
  pub at : map.get w.parent o ≡ Some parent
  pub makes : CouldGet w acts maker parent Write
  pub was : is_active v parent ≡ true

module _ (v : State) (r : Request) (acts : ℕ → Bool) (h : IsSecure v) (f : Follows v (after v r) acts) where
  there_of : (s o : ℕ) (x : Mode) → CouldGet (after v r) acts s o x → is_active (after v r) o ≡ true
  there_of s o x could = (and_parts (is_subject (after v r) s) (is_active (after v r) o) ((got_qualifies (after v r) acts s o x could).known)).1

  below : (s o : ℕ) (x : Mode) → CouldGet (after v r) acts s o x → is_active v o ≡ false → IsBelow v (after v r) acts o
  below s o x (permitted there q) new = absurd (unpermitted v h.tree o new r s x there)
  below s o x (given_at_root t q) new = let no : true ≡ false = sym h.tree.objects.root_active ∙ new in cc
  below s o x (given_below giver p at could q) new = record {
    maker = giver;
    parent = p;
    at = at;
    makes = could;
    was = after_above v r o p h.tree at;
  }

  trusted_before : HasTrusted (after v r) acts → HasTrusted v acts
  trusted_before t = record { subject = t.subject; actor = t.actor; trusted = ap (λ b. set.contains b t.subject) (sym f.trusted) ∙ t.trusted }

  -- an object that was there has a label that is no higher than before it, or a trusted actor could lower it
  cleared_before : (t p : ℕ) → is_active v p ≡ true → is_active (after v r) p ≡ true
      → (is_above (map.get (after v r).maximum t) (map.get (after v r).object_label p) ≡ true) ⊎ HasTrusted (after v r) acts
      → (is_above (map.get v.maximum t) (map.get v.object_label p) ≡ true) ⊎ HasTrusted v acts
  cleared_before t p was there (inr trusted) = inr (trusted_before trusted)
  cleared_before t p was there (inl above) = from (f.label p was there) where
    from : (is_above (map.get (after v r).object_label p) (map.get v.object_label p) ≡ true) ⊎ HasTrusted v acts
        → (is_above (map.get v.maximum t) (map.get v.object_label p) ≡ true) ⊎ HasTrusted v acts
    from (inr trusted) = inr trusted
    from (inl lower) =
        inl (above_trans (map.get v.maximum t) (map.get (after v r).object_label p) (map.get v.object_label p)
        (ap (λ m. is_above (map.get m t) (map.get (after v r).object_label p)) (sym f.maximum) ∙ above) lower)

  -- what an object below dominates, the one above it dominates, and the other way round
  cleared_above : (t o p : ℕ) → map.get (after v r).parent o ≡ Some p
      → (is_above (map.get (after v r).maximum t) (map.get (after v r).object_label o) ≡ true) ⊎ HasTrusted (after v r) acts
      → (is_above (map.get (after v r).maximum t) (map.get (after v r).object_label p) ≡ true) ⊎ HasTrusted (after v r) acts
  cleared_above t o p at (inr trusted) = inr trusted
  cleared_above t o p at (inl above) =
      inl (above_trans (map.get (after v r).maximum t) (map.get (after v r).object_label o) (map.get (after v r).object_label p) above
      ((and_parts (is_above (map.get (after v r).object_label o) (map.get (after v r).object_label p))
      (is_above (map.get (after v r).object_integrity p) (map.get (after v r).object_integrity o)) ((after_secure v r h).compatible o p at)).0))

  fits_above : (o p : ℕ) (own : Option Label) → map.get (after v r).parent o ≡ Some p → is_above (map.get (after v r).object_integrity o) own ≡ true
      → is_above (map.get (after v r).object_integrity p) own ≡ true
  fits_above o p own at fits =
      above_trans (map.get (after v r).object_integrity p) (map.get (after v r).object_integrity o) own
      ((and_parts (is_above (map.get (after v r).object_label o) (map.get (after v r).object_label p))
      (is_above (map.get (after v r).object_integrity p) (map.get (after v r).object_integrity o)) ((after_secure v r h).compatible o p at)).1) fits

  -- what could be handed on by an object that was there
  hand_at : (s t maker p : ℕ) → acts s ≡ true → acts t ≡ true → is_active v p ≡ true → CouldGet (after v r) acts maker p Write
      → is_above (map.get (after v r).subject_integrity s) (map.get (after v r).subject_integrity t) ≡ true
      → is_above (map.get (after v r).object_integrity p) (map.get (after v r).subject_integrity t) ≡ true
      → (is_above (map.get (after v r).maximum t) (map.get (after v r).object_label p) ≡ true) ⊎ HasTrusted (after v r) acts → CouldHand v acts s t
  hand_at s t maker p hands takes was makes lower fits cleared = record {
    hands = hands;
    takes = takes;
    maker = maker;
    parent = p;
    makes = shrinks v (after v r) acts f maker p Write makes was;
    lower = ap (λ m. is_above (map.get m s) (map.get m t)) (sym f.subject_integrity) ∙ lower;
    fits = (λ i. is_above (sym (f.integrity p was (there_of maker p Write makes)) i) (map.get (sym f.subject_integrity i) t)) ∙ fits;
    cleared = cleared_before t p was (there_of maker p Write makes) cleared;
  }

  -- what could be handed on after the request could be handed on before it
  pub hand_before : (s t : ℕ) → CouldHand (after v r) acts s t → CouldHand v acts s t
  hand_before s t hand = from (is_active v hand.parent) refl where
    from : (b : Bool) → is_active v hand.parent ≡ b → CouldHand v acts s t
    from true was = hand_at s t hand.maker hand.parent hand.hands hand.takes was hand.makes hand.lower hand.fits hand.cleared
    from false new =
        let old = below hand.maker hand.parent Write hand.makes new in
        hand_at s t old.maker old.parent hand.hands hand.takes old.was old.makes hand.lower
        (fits_above hand.parent old.parent (map.get (after v r).subject_integrity t) old.at hand.fits)
        (cleared_above t hand.parent old.parent old.at hand.cleared)

  -- what goes through an object that is new could be handed on before it
  pub hand_through : (s t o : ℕ) (x y : Mode) → is_active v o ≡ false → alters x ≡ true → CouldGet (after v r) acts s o x → observes y ≡ true
      → CouldGet (after v r) acts t o y → CouldHand v acts s t
  hand_through s t o x y new alter writes observe reads = hand_at s t old.maker old.parent q.actor e.actor old.was old.makes lower fits (cleared e.simple) where
    old : IsBelow v (after v r) acts o
    old = below s o x writes new

    q : Qualifies (after v r) acts s o x
    q = got_qualifies (after v r) acts s o x writes

    e : Qualifies (after v r) acts t o y
    e = got_qualifies (after v r) acts t o y reads

    used : is_above (map.get (after v r).object_integrity o) (map.get (after v r).subject_integrity t) ≡ true
    used = observed_above (map.get (after v r).subject_integrity t) (map.get (after v r).object_integrity o) y observe e.integrity

    lower : is_above (map.get (after v r).subject_integrity s) (map.get (after v r).subject_integrity t) ≡ true
    lower =
        above_trans (map.get (after v r).subject_integrity s) (map.get (after v r).object_integrity o) (map.get (after v r).subject_integrity t)
        (altered_below (map.get (after v r).subject_integrity s) (map.get (after v r).object_integrity o) x alter q.integrity) used

    fits : is_above (map.get (after v r).object_integrity old.parent) (map.get (after v r).subject_integrity t) ≡ true
    fits = fits_above o old.parent (map.get (after v r).subject_integrity t) old.at used

    cleared : (simple_holds (after v r) (t, o, y) ≡ true) ⊎ HasTrusted (after v r) acts
        → (is_above (map.get (after v r).maximum t) (map.get (after v r).object_label old.parent) ≡ true) ⊎ HasTrusted (after v r) acts
    cleared (inr trusted) = inr trusted
    cleared (inl holds) =
        cleared_above t o old.parent old.at
        (inl (observed_cleared (map.get (after v r).maximum t) (map.get (after v r).object_label o) y observe holds))
