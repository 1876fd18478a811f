-- The way up from an object to the root, and what the closure says on it.
use Rattle.std.proofs.Common.{◌≡◌, ◌↔◌, ℕ, zero, suc, ◌+◌, ◌<◌, ◌≤◌, Bool, true, false, ◌&&◌, ◌⊎◌, inl, inr, Option, Some, None, nat_lt, refl, sym, ap, subst, ◌∙◌, arith}
use Rattle.std.specs.Prelude.{◌==◌}
use Rattle.std.proofs.lemmas.Bool.{and_parts, and_from, or_cases, eqb-true}
use Rattle.std.proofs.lemmas.Bool.Decides.{nat_tests}
use Rattle.std.specs.FinMap as map
use Rattle.std.specs.FinSet as set
use Rattle.mls_tables.specs.declared.limits.TheConstants.{MAX_OBJECTS}
use Rattle.mls_tables.specs.declared.mode.Mode.{Mode}
use Rattle.mls_tables.specs.declared.mode.Mode.TheVariants.{Write}
use Rattle.mls_tree.specs.Tree as tree
use Rattle.mls_tree.specs.Tree.{Reaches, here, up, is_inferior, reaches_within}
use Rattle.mls_tree.proofs.Laws.{is_inferior-Reaches}
use Rattle.mls_facts.specs.Numbered.{holds_of}
use Rattle.mls_state.specs.State.{State, is_subject, is_active}
use Rattle.mls_state.specs.Properties.{HasTree, HasWholeTables}
use Rattle.mls_futures.specs.Closure.{HasTrusted, Qualifies, CouldGet, permitted, given_at_root, given_below, CouldGive, by_trust, by_writing}

-- no trusted subject acts
pub no_trusted : (v : State) (acts : ℕ → Bool) (n : ℕ) → ((s : ℕ) → is_subject v s ≡ nat_lt s n) → HasWholeTables v
    → ((a : ℕ) → a < n → (acts a && set.contains v.trusted a) ≡ false) → HasTrusted v acts → ⊥
no_trusted v acts n count whole none t =
    let known : nat_lt t.subject n ≡ true = sym (count t.subject) ∙ whole.trusted t.subject t.trusted in
    let below : t.subject < n = grind (arith, nat_tests, known) in
    let is : (acts t.subject && set.contains v.trusted t.subject) ≡ true = and_from (acts t.subject) (set.contains v.trusted t.subject) t.actor t.trusted in
    let no : true ≡ false = sym is ∙ none t.subject below in cc

-- what could be got qualifies
pub got_qualifies : (v : State) (acts : ℕ → Bool) (s o : ℕ) (x : Mode) → CouldGet v acts s o x → Qualifies v acts s o x
got_qualifies v acts s o x (permitted has q) = q
got_qualifies v acts s o x (given_at_root t q) = q
got_qualifies v acts s o x (given_below giver p at could q) = q

-- what could be got is permitted, or could be given
pub got_how : (v : State) (acts : ℕ → Bool) (s o : ℕ) (x : Mode) → CouldGet v acts s o x → (set.contains v.matrix (s, o, x) ≡ true) ⊎ CouldGive v acts o
got_how v acts s o x (permitted has q) = inl has
got_how v acts s o x (given_at_root t q) = inr (by_trust refl t)
got_how v acts s o x (given_below giver p at could q) = inr (by_writing giver p at could)

pub got_given : (v : State) (acts : ℕ → Bool) (s o : ℕ) (x : Mode) → CouldGive v acts o → Qualifies v acts s o x → CouldGet v acts s o x
got_given v acts s o x (by_trust is t) q = subst (λ k. CouldGet v acts s k x) (sym is) (given_at_root t (subst (λ k. Qualifies v acts s k x) is q))
got_given v acts s o x (by_writing giver p at could) q = given_below giver p at could q

-- The way up: what could be given of the object is what could be given where the way has come to, from which the root
-- is met within the steps that are left.
pub record IsOnWay (v : State) (acts : ℕ → Bool) (o at step : ℕ) : Type 0 where
  pub active : is_active v at ≡ true
  pub left : ℕ
  pub all : left + step ≡ MAX_OBJECTS
  pub near : reaches_within v.parent left at 0 ≡ true
  pub same : CouldGive v acts o ↔ CouldGive v acts at

module _ (v : State) (acts : ℕ → Bool) (h : HasTree v) where
  same_parent : (p q : ℕ) (e : Option ℕ) → e ≡ Some p → e ≡ Some q → p ≡ q
  same_parent p q None is at = cc
  same_parent p q (Some k) is at = cc

  -- where nothing is above, the object is the root
  pub top_is_root : (o : ℕ) → is_active v o ≡ true → map.get v.parent o ≡ None → o ≡ 0
  top_is_root o active none = from o (h.objects.reaches_root o active) none where
    from : (o : ℕ) → Reaches v.parent o 0 → map.get v.parent o ≡ None → o ≡ 0
    from o here none = refl
    from o (up at rest) none = let no : None ≡ Some _ = sym none ∙ at in cc

  pub at_top : (o : ℕ) → o ≡ 0 → (CouldGive v acts o ↔ HasTrusted v acts)
  at_top o root = (from, by_trust root) where
    from : CouldGive v acts o → HasTrusted v acts
    from (by_trust is t) = t
    from (by_writing giver p at could) = let no : Some p ≡ None = sym at ∙ ap (map.get v.parent) root ∙ h.objects.root_has_no_parent in cc

  module _ (o p : ℕ) (at : map.get v.parent o ≡ Some p) where
    -- some actor could write the parent
    writes : CouldGive v acts o → (s : ℕ) × CouldGet v acts s p Write
    writes (by_trust is t) = let no : Some p ≡ None = sym at ∙ ap (map.get v.parent) is ∙ h.objects.root_has_no_parent in cc
    writes (by_writing giver q at_q could) = (giver, subst (λ k. CouldGet v acts giver k Write) (same_parent q p (map.get v.parent o) at_q at) could)

    pub shut : ((s : ℕ) × Qualifies v acts s p Write → ⊥) → CouldGive v acts o → ⊥
    shut nobody gives = let one = writes gives in nobody (one.0, got_qualifies v acts one.0 p Write one.1)

    pub open_here : (s : ℕ) → set.contains v.matrix (s, p, Write) ≡ true → Qualifies v acts s p Write → CouldGive v acts o
    open_here s has q = by_writing s p at (permitted has q)

    pub through : ((s : ℕ) × (set.contains v.matrix (s, p, Write) ≡ true) × Qualifies v acts s p Write → ⊥) → (s : ℕ) → Qualifies v acts s p Write
        → (CouldGive v acts o ↔ CouldGive v acts p)
    through nobody s q = (higher, λ gives. by_writing s p at (got_given v acts s p Write gives q)) where
      higher : CouldGive v acts o → CouldGive v acts p
      higher gives = from (got_how v acts (writes gives).0 p Write (writes gives).1) where
        from : (set.contains v.matrix ((writes gives).0, p, Write) ≡ true) ⊎ CouldGive v acts p → CouldGive v acts p
        from (inl has) = absurd (nobody ((writes gives).0, has, got_qualifies v acts (writes gives).0 p Write (writes gives).1))
        from (inr above) = above

  pub way_begins : (o : ℕ) → is_active v o ≡ true → IsOnWay v acts o o 0
  unfolding is_inferior
  way_begins o active =
      let below = is_inferior-Reaches v.parent (is_active v) h.objects o 0 in
      let is : is_inferior v.parent o 0 ≡ true = below.1 (active, h.objects.reaches_root o active) in
      record {
        active = active;
        left = MAX_OBJECTS;
        all = omega arith;
        near = (and_parts (tree.is_active v.parent o) (reaches_within v.parent MAX_OBJECTS o 0) is).1;
        same = (λ gives. gives, λ gives. gives);
      }

  pub near_top : (at : ℕ) → reaches_within v.parent zero at 0 ≡ true → at ≡ 0
  unfolding reaches_within
  near_top at near = eqb-true at 0 near

  pub near_next : (n at p : ℕ) → map.get v.parent at ≡ Some p → reaches_within v.parent (suc n) at 0 ≡ true → reaches_within v.parent n p 0 ≡ true
  unfolding reaches_within
  near_next n at p step near = from (or_cases (at == 0) (holds_of (λ q. reaches_within v.parent n q 0) (map.get v.parent at)) near) where
    from : ((at == 0) ≡ true) ⊎ (holds_of (λ q. reaches_within v.parent n q 0) (map.get v.parent at) ≡ true) → reaches_within v.parent n p 0 ≡ true
    from (inl is) = let no : Some p ≡ None = sym step ∙ ap (map.get v.parent) (eqb-true at 0 is) ∙ h.objects.root_has_no_parent in cc
    from (inr holds) = ap (holds_of (λ q. reaches_within v.parent n q 0)) (sym step) ∙ holds

  pub way_goes_on : (o at step p : ℕ) → IsOnWay v acts o at step → map.get v.parent at ≡ Some p → (CouldGive v acts at ↔ CouldGive v acts p) → IsOnWay v acts o p (step + 1)
  way_goes_on o at step p way is same = from way.left way.all way.near where
    from : (left : ℕ) → left + step ≡ MAX_OBJECTS → reaches_within v.parent left at 0 ≡ true → IsOnWay v acts o p (step + 1)
    from zero all near = let no : Some p ≡ None = sym is ∙ ap (map.get v.parent) (near_top at near) ∙ h.objects.root_has_no_parent in cc
    from (suc n) all near = record {
      active = (h.objects.children_active at p is).1;
      left = n;
      all = omega (arith, all);
      near = near_next n at p is near;
      same = (λ gives. same.0 (way.same.0 gives), λ gives. way.same.1 (same.1 gives));
    }

  pub way_ends : (o at step : ℕ) → MAX_OBJECTS ≤ step → IsOnWay v acts o at step → at ≡ 0
  way_ends o at step past way = from way.left way.all way.near where
    from : (left : ℕ) → left + step ≡ MAX_OBJECTS → reaches_within v.parent left at 0 ≡ true → at ≡ 0
    from zero all near = near_top at near
    from (suc n) all near = absurd (omega (arith, all, past))
