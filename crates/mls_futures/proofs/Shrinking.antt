-- What could come about only shrinks with each request.
use Rattle.std.proofs.Common.{◌≡◌, ℕ, Bool, true, false, ◌⊎◌, inl, inr, Option, Some, None, refl, sym, ap, subst, ◌∙◌, if◌then◌else◌}
use Rattle.std.specs.Prelude.{◌==◌}
use Rattle.std.proofs.lemmas.Bool.{and_parts, and_from, eqb-true}
use Rattle.std.specs.FinMap as map
use Rattle.std.specs.FinSet as set
use Rattle.mls_labels.specs.Label.{Label}
use Rattle.mls_tables.specs.Triples.{Triple}
use Rattle.mls_tables.specs.declared.mode.Mode.{Mode}
use Rattle.mls_tables.specs.declared.mode.Mode.TheVariants.{Execute, Read, Append, Write}
use Rattle.mls_requests.specs.declared.action.Action.TheVariants.{Release}
use Rattle.mls_requests.specs.declared.request.Request.{Request}
use Rattle.mls_state.specs.State.{State, is_subject, is_active, is_above}
use Rattle.mls_state.specs.Properties.{IsSecure, simple_between, simple_holds, integrity_between}
use Rattle.mls_rules.specs.Rules.{after, controls, writes_parent}
use Rattle.mls_laws.proofs.Laws.{Fixed, after_fixed, after_integrity, above_itself, step_up, above_trans}
use Rattle.mls_futures.specs.Closure.{HasTrusted, Qualifies, CouldGet, permitted, given_at_root, given_below, CouldGive, by_trust, by_writing}
use Rattle.mls_futures.proofs.Changing.{after_matrix, after_parent, after_release}

-- A state follows another one: of what is there in both, the later one permits no more than could be given in the first.
pub record Follows (v w : State) (acts : ℕ → Bool) : Type 0 where
  pub secure : IsSecure v
  pub maximum : w.maximum ≡ v.maximum
  pub subject_integrity : w.subject_integrity ≡ v.subject_integrity
  pub trusted : w.trusted ≡ v.trusted
  pub integrity : (o : ℕ) → is_active v o ≡ true → is_active w o ≡ true → map.get w.object_integrity o ≡ map.get v.object_integrity o
  pub parent : (o : ℕ) → is_active v o ≡ true → is_active w o ≡ true → map.get w.parent o ≡ map.get v.parent o
  pub label : (o : ℕ) → is_active v o ≡ true → is_active w o ≡ true
      → (is_above (map.get w.object_label o) (map.get v.object_label o) ≡ true) ⊎ HasTrusted v acts
  pub matrix : (t : Triple) → set.contains w.matrix t ≡ true → (set.contains v.matrix t ≡ true) ⊎ CouldGive v acts t.1

-- simple security holds at a lower label too
simple_lower : (m l k : Option Label) (x : Mode) → is_above l k ≡ true → simple_between m l x ≡ true → simple_between m k x ≡ true
simple_lower m l k Execute above holds = refl
simple_lower m l k Read above holds = above_trans m l k holds above
simple_lower m l k Append above holds = refl
simple_lower m l k Write above holds = above_trans m l k holds above

module _ (v w : State) (acts : ℕ → Bool) (f : Follows v w acts) where
  trusted_before : HasTrusted w acts → HasTrusted v acts
  trusted_before t = record {
    subject = t.subject;
    actor = t.actor;
    trusted = ap (λ b. set.contains b t.subject) (sym f.trusted) ∙ t.trusted;
  }

  qualified : (s o : ℕ) (x : Mode) → is_active v o ≡ true → Qualifies w acts s o x → Qualifies v acts s o x
  qualified s o x active q = record {
    actor = q.actor;
    known = and_from (is_subject v s) (is_active v o) (ap (λ m. map.contains_key m s) (sym f.maximum) ∙ (and_parts (is_subject w s) (is_active w o) q.known).0) active;
    integrity =
        ap (λ m. integrity_between (map.get m s) (map.get v.object_integrity o) x) (sym f.subject_integrity)
        ∙ ap (λ e. integrity_between (map.get w.subject_integrity s) e x) (sym (f.integrity o active there))
        ∙ q.integrity;
    simple = from q.simple;
  } where
    there : is_active w o ≡ true
    there = (and_parts (is_subject w s) (is_active w o) q.known).1

    by_label : simple_holds w (s, o, x) ≡ true → (is_above (map.get w.object_label o) (map.get v.object_label o) ≡ true) ⊎ HasTrusted v acts
        → (simple_holds v (s, o, x) ≡ true) ⊎ HasTrusted v acts
    by_label holds (inr t) = inr t
    by_label holds (inl above) =
        inl (simple_lower (map.get v.maximum s) (map.get w.object_label o) (map.get v.object_label o) x above
        (ap (λ m. simple_between (map.get m s) (map.get w.object_label o) x) (sym f.maximum) ∙ holds))

    from : (simple_holds w (s, o, x) ≡ true) ⊎ HasTrusted w acts → (simple_holds v (s, o, x) ≡ true) ⊎ HasTrusted v acts
    from (inl holds) = by_label holds (f.label o active there)
    from (inr t) = inr (trusted_before t)

  given : (s o : ℕ) (x : Mode) → CouldGive v acts o → Qualifies v acts s o x → CouldGet v acts s o x
  given s o x (by_trust is t) q = subst (λ k. CouldGet v acts s k x) (sym is) (given_at_root t (subst (λ k. Qualifies v acts s k x) is q))
  given s o x (by_writing giver p at could) q = given_below giver p at could q

  -- what could come about in the later state could in the first
  pub shrinks : (s o : ℕ) (x : Mode) → CouldGet w acts s o x → is_active v o ≡ true → CouldGet v acts s o x
  shrinks s o x (permitted there q) active = from (f.matrix (s, o, x) there) where
    from : (set.contains v.matrix (s, o, x) ≡ true) ⊎ CouldGive v acts o → CouldGet v acts s o x
    from (inl was) = permitted was (qualified s o x active q)
    from (inr gives) = given s o x gives (qualified s o x active q)
  shrinks s o x (given_at_root t q) active = given_at_root (trusted_before t) (qualified s 0 x active q)
  shrinks s o x (given_below giver p at could q) active =
      let before : map.get v.parent o ≡ Some p = sym (f.parent o active ((and_parts (is_subject w s) (is_active w o) q.known).1)) ∙ at in
      given_below giver p before (shrinks giver p Write could ((f.secure.tree.objects.children_active o p before).1)) (qualified s o x active q)

-- what an actor holds it could get
pub held_could : (v : State) (acts : ℕ → Bool) (s o : ℕ) (x : Mode) → IsSecure v → acts s ≡ true → set.contains v.accesses (s, o, x) ≡ true → CouldGet v acts s o x
held_could v acts s o x h actor there =
    permitted (h.discretionary (s, o, x) there)
    (record { actor = actor; known = h.tree.accesses_known (s, o, x) there; integrity = h.integrity (s, o, x) there; simple = inl (h.simple (s, o, x) there) })

module _ (v : State) (acts : ℕ → Bool) (giver : ℕ) (h : IsSecure v) (actor : acts giver ≡ true) where
  by_parent : (o : ℕ) (e : Option ℕ) → map.get v.parent o ≡ e → writes_parent v giver e ≡ true → CouldGive v acts o
  by_parent o None at writes = cc
  by_parent o (Some p) at writes = by_writing giver p at (held_could v acts giver p Write h actor writes)

  by_place : (o : ℕ) (b : Bool) → (o == 0) ≡ b → (if b then set.contains v.trusted giver else writes_parent v giver (map.get v.parent o)) ≡ true → CouldGive v acts o
  by_place o true is trusted = by_trust (eqb-true o 0 is) (record { subject = giver; actor = actor; trusted = trusted })
  by_place o false is writes = by_parent o (map.get v.parent o) refl writes

  gives : (o : ℕ) → controls v giver o ≡ true → CouldGive v acts o
  gives o has = by_place o (o == 0) refl has

-- the state after a request of an actor follows, and so does that after any release
pub follows_actor : (v : State) (r : Request) (acts : ℕ → Bool) → IsSecure v → acts r.subject ≡ true → Follows v (after v r) acts
follows_actor v r acts h actor = record {
  secure = h;
  maximum = ap (λ (f : Fixed). f.0) (after_fixed v r);
  subject_integrity = ap (λ (f : Fixed). f.1) (after_fixed v r);
  trusted = ap (λ (f : Fixed). f.2) (after_fixed v r);
  integrity = λ o active there. after_integrity v r o h.tree active there;
  parent = λ o active there. after_parent v r o h.tree active there;
  label = λ o active there. by_trust o active there (set.contains v.trusted r.subject) refl;
  matrix = λ t there. by_control t (after_matrix v r t there);
} where
  by_trust : (o : ℕ) → is_active v o ≡ true → is_active (after v r) o ≡ true → (b : Bool) → set.contains v.trusted r.subject ≡ b
      → (is_above (map.get (after v r).object_label o) (map.get v.object_label o) ≡ true) ⊎ HasTrusted v acts
  by_trust o active there true is = inr (record { subject = r.subject; actor = actor; trusted = is })
  by_trust o active there false is = inl (step_up v r o is h.tree active there)

  by_control : (t : Triple) → (set.contains v.matrix t ≡ true) ⊎ (controls v r.subject t.1 ≡ true) → (set.contains v.matrix t ≡ true) ⊎ CouldGive v acts t.1
  by_control t (inl was) = inl was
  by_control t (inr has) = inr (gives v acts r.subject h actor t.1 has)

pub follows_release : (v : State) (r : Request) (acts : ℕ → Bool) (x : Mode) (o : ℕ) → IsSecure v → r.action ≡ Release x o → Follows v (after v r) acts
follows_release v r acts x o h is =
    let only = after_release v r x o is in
    subst (λ w. Follows v w acts) (sym only.1) (record {
      secure = h;
      maximum = refl;
      subject_integrity = refl;
      trusted = refl;
      integrity = λ q active there. refl;
      parent = λ q active there. refl;
      label = λ q active there. inl (above_itself (map.get v.object_label q) active);
      matrix = λ t there. inl there;
    })
