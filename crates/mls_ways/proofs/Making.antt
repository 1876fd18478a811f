-- The steps of scripts, as code makes them.
use Rattle.std.proofs.Common.{◌≡◌, ◌↔◌, ℕ, zero, suc, ◌+◌, ◌-◌, ◌<◌, Bool, true, false, ◌⊎◌, inl, inr, Option, Some, None, refl, sym, ap, subst, ◌∙◌, arith}
use Rattle.std.specs.Prelude.{MatchOption}
use Rattle.std.proofs.lemmas.Bool.{and_parts, and_from, or_right}
use Rattle.std.specs.FinMap as map
use Rattle.std.specs.FinSet as set
use Rattle.mls_labels.specs.Label.{Label, has_label}
use Rattle.mls_labels.proofs.Laws.{reflexive}
use Rattle.mls_tables.specs.declared.limits.TheConstants.{MAX_OBJECTS}
use Rattle.mls_tables.specs.declared.mode.Mode.{Mode}
use Rattle.mls_tables.specs.declared.mode.Mode.TheVariants.{Execute, Read, Append, Write}
use Rattle.mls_tables.proofs.Laws.{is_triple-itself}
use Rattle.mls_tree.specs.Tree.{reaches_within}
use Rattle.mls_requests.specs.declared.request.Request.{Request}
use Rattle.mls_state.specs.State.{State, is_subject, is_active, is_above}
use Rattle.mls_state.specs.Properties.{IsSecure, HasTree, HasWholeTables, simple_between, simple_holds, star_between, star_holds}
use Rattle.mls_rules.specs.Levels.{is_above_parent}
use Rattle.mls_rules.specs.Rules.{after, controls}
use Rattle.mls_futures.specs.Closure.{HasTrusted, Qualifies, CouldGet, permitted, given_at_root, given_below, CouldGive, by_trust, by_writing}
use Rattle.mls_futures.specs.Futures.{HasLabelsWithin, HoldsNothing}
use Rattle.mls_futures.specs.Scripts.{Alike}
use Rattle.mls_futures.proofs.Laws.{IsStep, trusted_still, above_least, label_there, has_least, give, release, level, get, lower, to_give, to_release, to_level, to_get, to_lower, parent_controls, actor_of, cleared, known_still, qualifies_still, got_qualifies, got_how, got_given, top_is_root, at_top, shut, open_here, through, way_begins, near_next, near_top}
use Rattle.mls_ways.specs.Ways.{least, IsTrustedActor, IsLowered, IsCleared, IsReady, IsPermitted, HoldsOnly, level_for, LeadsTo}

-- what is so after a step, and what follows from it
pub step_so : (acts : ℕ → Bool) (v : State) (r : Request) (P Q : State → Type 0) → (Alike acts v (after v r) → P (after v r) → Q (after v r)) → IsStep acts v r P → IsStep acts v r Q
step_so acts v r P Q so one = record {
  actor = one.actor;
  grant = one.grant;
  alike = one.alike;
  secure = one.secure;
  within = one.within;
  now = so one.alike one.now;
}

abbrev pub trusted_by : (v : State) (acts : ℕ → Bool) (s : ℕ) → IsTrustedActor v acts s → HasTrusted v acts
trusted_by v acts s is = record { subject = s; actor = is.0; trusted = is.1 }

pub by_trusted : (v : State) (acts : ℕ → Bool) → HasTrusted v acts → (s : ℕ) × IsTrustedActor v acts s
by_trusted v acts t = (t.subject, (t.actor, t.trusted))

module _ (acts : ℕ → Bool) (v : State) (h : IsSecure v) (within : HasLabelsWithin v) (whole : HasWholeTables v) where
  -- a label is lowered by a trusted actor
  pub lower_step : (s o : ℕ) → IsTrustedActor v acts s → is_active v o ≡ true → HoldsNothing v → is_above_parent v least (map.get v.parent o) ≡ true
      → IsStep acts v (lower s o) (IsLowered o)
  lower_step s o is object nothing above = to_lower acts v h within (trusted_by v acts s is) o (whole.trusted s is.1) object nothing above

  -- a permission of the root is given by a trusted actor
  pub root_step : (giver s o : ℕ) (x : Mode) → IsTrustedActor v acts giver → is_subject v s ≡ true → o ≡ 0 → HoldsNothing v → IsStep acts v (give giver s o x) (IsPermitted (s, o, x))
  root_step giver s o x is subject root nothing =
      subst (λ k. IsStep acts v (give giver s k x) (IsPermitted (s, k, x))) (sym root)
      (step_so acts v (give giver s 0 x) (λ w. (w.accesses ≡ v.accesses) × (set.contains w.matrix (s, 0, x) ≡ true)) (IsPermitted (s, 0, x))
      (λ f now. (λ u. ap (λ b. set.contains b u) now.0 ∙ nothing u, now.1))
      (to_give acts v h within giver s 0 x is.0 (whole.trusted giver is.1) subject h.tree.objects.root_active is.1))

-- a permission of another object is given by one that holds write of its parent, and that is released
module _ (acts : ℕ → Bool) (v : State) (h : IsSecure v) (within : HasLabelsWithin v) (giver p s o : ℕ) (x : Mode)
    (only : HoldsOnly (giver, p, Write) v) (actor : acts giver ≡ true) (at : map.get v.parent o ≡ Some p) (subject : is_subject v s ≡ true) (object : is_active v o ≡ true) where
  writes : set.contains v.accesses (giver, p, Write) ≡ true
  writes = only (giver, p, Write) ∙ is_triple-itself (giver, p, Write)

  hand : (is_subject v giver ≡ true) × (is_active v p ≡ true)
  hand = and_parts (is_subject v giver) (is_active v p) (h.tree.accesses_known (giver, p, Write) writes)

  pub give_step : IsStep acts v (give giver s o x) (λ w. (w.accesses ≡ v.accesses) × (set.contains w.matrix (s, o, x) ≡ true))
  give_step = to_give acts v h within giver s o x actor hand.0 subject object (parent_controls v giver o p h at writes)

  pub release_step : (w : State) → Alike acts v w → IsSecure w → HasLabelsWithin w → w.accesses ≡ v.accesses → set.contains w.matrix (s, o, x) ≡ true
      → IsStep acts w (release giver p Write) (IsPermitted (s, o, x))
  release_step w f k inside same has =
      step_so acts w (release giver p Write) HoldsNothing (IsPermitted (s, o, x)) (λ g free. (free, g.matrix (s, o, x) has))
      (to_release acts w k inside giver p Write actor (known_still acts v w f giver hand.0) (f.active p ∙ hand.1) (λ t. ap (λ b. set.contains b t) same ∙ only t))

  pub give_then : (w : State) → w ≡ after v (give giver s o x) → IsStep acts w (release giver p Write) (IsPermitted (s, o, x))
  give_then w is =
      subst (λ z. IsStep acts z (release giver p Write) (IsPermitted (s, o, x))) (sym is)
      (release_step (after v (give giver s o x)) give_step.alike give_step.secure give_step.within give_step.now.0 give_step.now.1)

-- star holds of an access at a current label
starred : (w : State) (s o : ℕ) (x : Mode) (l k : Label) → map.get w.current s ≡ Some l → map.get w.object_label o ≡ Some k → star_between (Some l) (Some k) x ≡ true
    → star_holds w (s, o, x) ≡ true
starred w s o x l k current label holds =
    or_right (set.contains w.trusted s) (star_between (map.get w.current s) (map.get w.object_label o) x) ((λ i. star_between (current i) (label i) x) ∙ holds)

module _ (acts : ℕ → Bool) (v : State) (h : IsSecure v) (within : HasLabelsWithin v) (s o : ℕ)
    (actor : acts s ≡ true) (known : is_subject v s ≡ true) (object : is_active v o ≡ true) where
  -- a level at which star holds is taken
  at_level : (x : Mode) (l k : Label) → IsCleared s o x v → map.get v.object_label o ≡ Some k → has_label v.security l ≡ true → is_above (map.get v.maximum s) (Some l) ≡ true
      → star_between (Some l) (Some k) x ≡ true → IsStep acts v (level s l) (IsReady s o x)
  at_level x l k clear label fits under star =
      step_so acts v (level s l) (λ w. HoldsNothing w × (map.get w.current s ≡ Some l) × (w.object_label ≡ v.object_label)) (IsReady s o x)
      (λ f now. (
        now.0,
        (λ i. simple_between (map.get (f.maximum i) s) (map.get (now.2 i) o) x) ∙ clear.1,
        starred (after v (level s l)) s o x l k now.1 (ap (λ m. map.get m o) now.2 ∙ label) star,
      ))
      (to_level acts v h within s l actor known fits under clear.0)

  pub level_step : (x : Mode) → IsCleared s o x v → star_holds v (s, o, x) ≡ false → IsStep acts v (level s (level_for (map.get v.object_label o) x)) (IsReady s o x)
  level_step x clear star = by_mode x clear star where
    at_object : (l : Label) × (map.get v.object_label o ≡ Some l)
    at_object = label_there (map.get v.object_label o) object

    l : Label
    l = at_object.0

    by_mode : (y : Mode) → IsCleared s o y v → star_holds v (s, o, y) ≡ false → IsStep acts v (level s (level_for (map.get v.object_label o) y)) (IsReady s o y)
    by_mode Execute clear star =
        let no : true ≡ false = sym (or_right (set.contains v.trusted s) (star_between (map.get v.current s) (map.get v.object_label o) Execute) refl) ∙ star in cc
    by_mode Read clear star =
        subst (λ e. IsStep acts v (level s (level_for e Read)) (IsReady s o Read)) (sym at_object.1)
        (at_level Read l l clear at_object.1 (within o l at_object.1) (ap (is_above (map.get v.maximum s)) (sym at_object.1) ∙ clear.1) (reflexive l))
    by_mode Append clear star =
        subst (λ e. IsStep acts v (level s (level_for e Append)) (IsReady s o Append)) (sym at_object.1)
        (at_level Append least l clear at_object.1 (has_least v h within) (above_least (map.get v.maximum s) known) (above_least (Some l) refl))
    by_mode Write clear star =
        subst (λ e. IsStep acts v (level s (level_for e Write)) (IsReady s o Write)) (sym at_object.1)
        (at_level Write l l clear at_object.1 (within o l at_object.1) (ap (is_above (map.get v.maximum s)) (sym at_object.1) ∙ clear.1) (and_from _ _ (reflexive l) (reflexive l)))

  -- an access that is permitted is got
  pub get_step : (x : Mode) → IsReady s o x v → set.contains v.matrix (s, o, x) ≡ true → Qualifies v acts s o x → IsStep acts v (get s o x) (HoldsOnly (s, o, x))
  get_step x ready has q = to_get acts v h within s o x actor known object ready.0 has ready.1 ready.2 q.integrity

-- simple security holds at the least label
pub lowered_clears : (w : State) (s o : ℕ) (x : Mode) → is_subject w s ≡ true → IsLowered o w → IsCleared s o x w
lowered_clears w s o x known low = (low.0, cleared (map.get w.maximum s) (map.get w.object_label o) x known low.1)

-- the way up to the root
module _ (v : State) (acts : ℕ → Bool) (h : HasTree v) where
  pub near_all : (o : ℕ) → is_active v o ≡ true → reaches_within v.parent MAX_OBJECTS o 0 ≡ true
  near_all o active =
      let way = way_begins v acts h o active in
      let all = way.all in
      let is : way.left ≡ MAX_OBJECTS = omega (arith, all) in
      subst (λ k. reaches_within v.parent k o 0 ≡ true) is way.near

  pub near_parent : (left o p : ℕ) → map.get v.parent o ≡ Some p → reaches_within v.parent left o 0 ≡ true → (0 < left) × (reaches_within v.parent (left - 1) p 0 ≡ true)
  near_parent zero o p at near = let no : Some p ≡ None = sym at ∙ ap (map.get v.parent) (near_top v acts h o near) ∙ h.objects.root_has_no_parent in cc
  near_parent (suc n) o p at near =
      let is : n ≡ suc n - 1 = omega arith in
      (omega arith, subst (λ k. reaches_within v.parent k p 0 ≡ true) is (near_next v acts h n o p at near))

-- who gives
pub giver_permitted : (v : State) (acts : ℕ → Bool) (s p : ℕ) → set.contains v.matrix (s, p, Write) ≡ true → Qualifies v acts s p Write → CouldGet v acts s p Write
giver_permitted v acts s p has q = permitted has q

pub giver_given : (v : State) (acts : ℕ → Bool) → HasTree v → (o p s : ℕ) → map.get v.parent o ≡ Some p → CouldGive v acts o
    → ((g : ℕ) × (set.contains v.matrix (g, p, Write) ≡ true) × Qualifies v acts g p Write → ⊥) → Qualifies v acts s p Write → CouldGet v acts s p Write
giver_given v acts h o p s at gives nobody q = got_given v acts s p Write ((through v acts h o p at nobody s q).0 gives) q

-- what isn't permitted could be given
pub could_be_given : (v : State) (acts : ℕ → Bool) (s o : ℕ) (x : Mode) → CouldGet v acts s o x → set.contains v.matrix (s, o, x) ≡ false → CouldGive v acts o
could_be_given v acts s o x could lacks = from (got_how v acts s o x could) where
  from : (set.contains v.matrix (s, o, x) ≡ true) ⊎ CouldGive v acts o → CouldGive v acts o
  from (inl has) = let no : true ≡ false = sym has ∙ lacks in cc
  from (inr gives) = gives

-- the closure of a state that is like another one
pub trusted_at_root : (v : State) (acts : ℕ → Bool) → HasTree v → (o : ℕ) → is_active v o ≡ true → map.get v.parent o ≡ None → CouldGive v acts o → (o ≡ 0) × HasTrusted v acts
trusted_at_root v acts h o active none gives =
    let root = top_is_root v acts h o active none in (root, (at_top v acts h o root).0 gives)

-- where simple security doesn't hold of what qualifies, an actor is trusted
pub trusted_where : (v : State) (acts : ℕ → Bool) (s o : ℕ) (x : Mode) → Qualifies v acts s o x → simple_holds v (s, o, x) ≡ false → HasTrusted v acts
trusted_where v acts s o x q fails = from q.simple where
  from : (simple_holds v (s, o, x) ≡ true) ⊎ HasTrusted v acts → HasTrusted v acts
  from (inl holds) = let no : true ≡ false = sym holds ∙ fails in cc
  from (inr t) = t

-- the least label is as low as that of the parent, where there is none, or its label was lowered
pub above_none : (v : State) (o : ℕ) → map.get v.parent o ≡ None → is_above_parent v least (map.get v.parent o) ≡ true
above_none v o none = ap (is_above_parent v least) none

pub above_lowered : (acts : ℕ → Bool) (v w : State) (o p : ℕ) → map.get v.parent o ≡ Some p → Alike acts v w → IsLowered p w → is_above_parent w least (map.get w.parent o) ≡ true
above_lowered acts v w o p at f low =
    ap (is_above_parent w least) (ap (λ m. map.get m o) f.parent ∙ at) ∙ ap (is_above (Some least)) low.1 ∙ reflexive least

-- what is so once write of the parent was brought about, or what follows from it
pub got_known : (v : State) (acts : ℕ → Bool) (s o : ℕ) (x : Mode) → CouldGet v acts s o x → (is_subject v s ≡ true) × (is_active v o ≡ true)
got_known v acts s o x could = and_parts (is_subject v s) (is_active v o) ((got_qualifies v acts s o x could).known)

-- an actor gives, where it could be given
pub giver_found : (v : State) (acts : ℕ → Bool) → HasTree v → (o p : ℕ) → map.get v.parent o ≡ Some p → CouldGive v acts o
    → ((g : ℕ) × (set.contains v.matrix (g, p, Write) ≡ true) × Qualifies v acts g p Write → ⊥)
    → (found : Option ℕ) → MatchOption found ((s : ℕ) × Qualifies v acts s p Write → ⊥) (λ s. Qualifies v acts s p Write) → MatchOption found ⊥ (λ s. CouldGet v acts s p Write)
giver_found v acts h o p at gives nobody None none = shut v acts h o p at none gives
giver_found v acts h o p at gives nobody (Some s) q = giver_given v acts h o p s at gives nobody q
