-- Labels along flows.
use Rattle.std.proofs.Common.{◌≡◌, ℕ, Bool, true, false, not, ◌||◌, Option, Some, None, sym, ap, ◌∙◌}
use Rattle.std.proofs.lemmas.Bool.{and_parts}
use Rattle.std.specs.FinSet as set
use Rattle.std.specs.FinMap as map
use Rattle.mls_labels.specs.Label.{Label}
use Rattle.mls_labels.proofs.Laws.{transitive, antisymmetric}
use Rattle.mls_tables.specs.Mode.{observes, alters, uses}
use Rattle.mls_tables.specs.declared.mode.Mode.{Mode}
use Rattle.mls_tables.specs.declared.mode.Mode.TheVariants.{Execute, Read, Append, Write}
use Rattle.mls_state.specs.State.{State, is_above}
use Rattle.mls_state.specs.Properties.{IsSecure, star_between}
use Rattle.mls_laws.specs.Flow.{Flows, Feeds, Chain, one, more}

pub above_trans : (a b c : Option Label) → is_above a b ≡ true → is_above b c ≡ true → is_above a c ≡ true
above_trans (Some a) (Some b) (Some c) h k = transitive a b c h k
above_trans (Some a) (Some b) None h k = k
above_trans (Some a) None c h k = cc
above_trans None b c h k = cc

above_antisym : (a b : Option Label) → is_above a b ≡ true → is_above b a ≡ true → a ≡ b
above_antisym (Some a) (Some b) h k = ap Some (antisymmetric a b h k)
above_antisym (Some a) None h k = cc
above_antisym None b h k = cc

-- what is observed is dominated, what is altered dominates
observed_below : (c l : Option Label) (x : Mode) → star_between c l x ≡ true → observes x ≡ true → is_above c l ≡ true
observed_below c l Execute h o = cc
observed_below c l Read h o = h
observed_below c l Append h o = cc
observed_below c l Write h o = (and_parts (is_above l c) (is_above c l) h).1

altered_above : (c l : Option Label) (x : Mode) → star_between c l x ≡ true → alters x ≡ true → is_above l c ≡ true
altered_above c l Execute h o = cc
altered_above c l Read h o = cc
altered_above c l Append h o = h
altered_above c l Write h o = (and_parts (is_above l c) (is_above c l) h).0

unless : (b c : Bool) → b ≡ true → (not b || c) ≡ true → c ≡ true
unless true c is h = h
unless false c is h = cc

module _ (v : State) (h : IsSecure v) where
  star_of : (s o : ℕ) (x : Mode) → set.contains v.trusted s ≡ false → set.contains v.accesses (s, o, x) ≡ true
      → star_between (map.get v.current s) (map.get v.object_label o) x ≡ true
  star_of s o x untrusted there = ap (λ b. b || star_between (map.get v.current s) (map.get v.object_label o) x) (sym untrusted) ∙ h.star (s, o, x) there

  pub step_up : (a b : ℕ) → Flows v a b → is_above (map.get v.object_label b) (map.get v.object_label a) ≡ true
  step_up a b f =
      above_trans (map.get v.object_label b) (map.get v.current f.subject) (map.get v.object_label a)
      (altered_above (map.get v.current f.subject) (map.get v.object_label b) f.altered_in (star_of f.subject b f.altered_in f.untrusted f.holds_second) f.alters)
      (observed_below (map.get v.current f.subject) (map.get v.object_label a) f.seen_in (star_of f.subject a f.seen_in f.untrusted f.holds_first) f.observes)

  pub chain_up : (a b : ℕ) → Chain (Flows v) a b → is_above (map.get v.object_label b) (map.get v.object_label a) ≡ true
  chain_up a b (one f) = step_up a b f
  chain_up a b (more {b = m} f rest) = above_trans (map.get v.object_label b) (map.get v.object_label m) (map.get v.object_label a) (chain_up m b rest) (step_up a m f)

  -- what flows both ways has one label
  pub chain_level : (a b : ℕ) → Chain (Flows v) a b → Chain (Flows v) b a → map.get v.object_label a ≡ map.get v.object_label b
  chain_level a b there back = above_antisym (map.get v.object_label a) (map.get v.object_label b) (chain_up b a back) (chain_up a b there)

  -- what a subject observes, and what flows to that
  pub seen_below : (s b : ℕ) (x : Mode) → set.contains v.accesses (s, b, x) ≡ true → observes x ≡ true
      → is_above (map.get v.maximum s) (map.get v.object_label b) ≡ true
  seen_below s b x there sees = unless (observes x) (is_above (map.get v.maximum s) (map.get v.object_label b)) sees (h.simple (s, b, x) there)

  pub reached_below : (s a b : ℕ) (x : Mode) → Chain (Flows v) a b → set.contains v.accesses (s, b, x) ≡ true → observes x ≡ true
      → is_above (map.get v.maximum s) (map.get v.object_label a) ≡ true
  reached_below s a b x chain there sees =
      above_trans (map.get v.maximum s) (map.get v.object_label b) (map.get v.object_label a) (seen_below s b x there sees) (chain_up a b chain)

  -- integrity of what is used, and of what is altered
  pub used_above : (s o : ℕ) (x : Mode) → set.contains v.accesses (s, o, x) ≡ true → uses x ≡ true
      → is_above (map.get v.object_integrity o) (map.get v.subject_integrity s) ≡ true
  used_above s o x there is =
      unless (uses x) (is_above (map.get v.object_integrity o) (map.get v.subject_integrity s)) is
      ((and_parts _ (not (alters x) || is_above (map.get v.subject_integrity s) (map.get v.object_integrity o)) (h.integrity (s, o, x) there)).0)

  altered_below : (s o : ℕ) (x : Mode) → set.contains v.accesses (s, o, x) ≡ true → alters x ≡ true
      → is_above (map.get v.subject_integrity s) (map.get v.object_integrity o) ≡ true
  altered_below s o x there is =
      unless (alters x) (is_above (map.get v.subject_integrity s) (map.get v.object_integrity o)) is
      ((and_parts (not (uses x) || is_above (map.get v.object_integrity o) (map.get v.subject_integrity s)) _ (h.integrity (s, o, x) there)).1)

  pub step_down : (a b : ℕ) → Feeds v a b → is_above (map.get v.object_integrity a) (map.get v.object_integrity b) ≡ true
  step_down a b f =
      above_trans (map.get v.object_integrity a) (map.get v.subject_integrity f.subject) (map.get v.object_integrity b)
      (used_above f.subject a f.used_in f.holds_first f.uses) (altered_below f.subject b f.altered_in f.holds_second f.alters)

  pub chain_down : (a b : ℕ) → Chain (Feeds v) a b → is_above (map.get v.object_integrity a) (map.get v.object_integrity b) ≡ true
  chain_down a b (one f) = step_down a b f
  chain_down a b (more {b = m} f rest) =
      above_trans (map.get v.object_integrity a) (map.get v.object_integrity m) (map.get v.object_integrity b) (step_down a m f) (chain_down m b rest)

  pub chain_even : (a b : ℕ) → Chain (Feeds v) a b → Chain (Feeds v) b a → map.get v.object_integrity a ≡ map.get v.object_integrity b
  chain_even a b there back = above_antisym (map.get v.object_integrity a) (map.get v.object_integrity b) (chain_down a b there) (chain_down b a back)

  -- what a subject uses, and what feeds that
  pub fed_above : (s a b : ℕ) (x : Mode) → Chain (Feeds v) a b → set.contains v.accesses (s, b, x) ≡ true → uses x ≡ true
      → is_above (map.get v.object_integrity a) (map.get v.subject_integrity s) ≡ true
  fed_above s a b x chain there is =
      above_trans (map.get v.object_integrity a) (map.get v.object_integrity b) (map.get v.subject_integrity s) (chain_down a b chain) (used_above s b x there is)
