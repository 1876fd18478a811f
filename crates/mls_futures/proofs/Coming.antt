-- What the closure has comes about, by a script.
use Rattle.std.proofs.Common.{◌≡◌, ℕ, Bool, true, false, ◌⊎◌, inl, inr, Option, Some, None, is_some, refl, sym, ap, ◌∙◌, if◌then◌else◌}
use Rattle.std.specs.Prelude.{◌==◌}
use Rattle.std.proofs.lemmas.Bool.{and_parts, and_from, or_right, ne_eqb}
use Rattle.std.specs.FinMap as map
use Rattle.std.specs.FinSet as set
use Rattle.mls_labels.specs.Label.{Label, has_label}
use Rattle.mls_labels.proofs.Laws.{reflexive}
use Rattle.mls_tables.specs.declared.mode.Mode.{Mode}
use Rattle.mls_tables.specs.declared.mode.Mode.TheVariants.{Execute, Read, Append, Write}
use Rattle.mls_tables.proofs.Laws.{is_triple-itself}
use Rattle.mls_tree.specs.Tree.{Reaches, here, up}
use Rattle.mls_state.specs.State.{State, is_subject, is_active, is_above}
use Rattle.mls_state.specs.Properties.{IsSecure, simple_between, simple_holds, star_between, star_holds, integrity_between}
use Rattle.mls_rules.specs.Levels.{is_above_parent}
use Rattle.mls_rules.specs.Rules.{controls, writes_parent}
use Rattle.mls_futures.specs.Closure.{HasTrusted, Qualifies, CouldGet, permitted, given_at_root, given_below}
use Rattle.mls_futures.specs.Futures.{HasLabelsWithin, HoldsNothing}
use Rattle.mls_futures.specs.Scripts.{Alike}
use Rattle.mls_futures.proofs.Scripts.{Goes, stay, goes_on, by_step, trusted_still}
use Rattle.mls_futures.proofs.Steps.{least, above_least, label_there, has_least, HoldsOnly, to_give, to_release, to_level, to_get, to_lower}

-- each trusted subject is known
abbrev pub TrustedKnown : State → Type 0
TrustedKnown v = (s : ℕ) → set.contains v.trusted s ≡ true → is_subject v s ≡ true

pub known_still : (acts : ℕ → Bool) (v w : State) → Alike acts v w → (s : ℕ) → is_subject v s ≡ true → is_subject w s ≡ true
known_still acts v w f s known = ap (λ m. map.contains_key m s) f.maximum ∙ known

pub trusted_known_still : (acts : ℕ → Bool) (v w : State) → Alike acts v w → TrustedKnown v → TrustedKnown w
trusted_known_still acts v w f trusted s is = known_still acts v w f s (trusted s (ap (λ b. set.contains b s) (sym f.trusted) ∙ is))

-- what qualifies still does in a state that is alike
pub qualifies_still : (acts : ℕ → Bool) (v w : State) → Alike acts v w → (s o : ℕ) (x : Mode) → Qualifies v acts s o x → Qualifies w acts s o x
qualifies_still acts v w f s o x q = record {
  actor = q.actor;
  known = and_from (is_subject w s) (is_active w o)
      (known_still acts v w f s ((and_parts (is_subject v s) (is_active v o) q.known).0)) (f.active o ∙ (and_parts (is_subject v s) (is_active v o) q.known).1);
  integrity = (λ i. integrity_between (map.get (f.subject_integrity i) s) (map.get (f.integrity i) o) x) ∙ q.integrity;
  simple = from q.simple (f.label o);
} where
  from : (simple_holds v (s, o, x) ≡ true) ⊎ HasTrusted v acts → (map.get w.object_label o ≡ map.get v.object_label o) ⊎ HasTrusted v acts
      → (simple_holds w (s, o, x) ≡ true) ⊎ HasTrusted w acts
  from (inl holds) (inl same) = inl ((λ i. simple_between (map.get (f.maximum i) s) (same i) x) ∙ holds)
  from (inl holds) (inr t) = inr (trusted_still acts v w f.trusted t)
  from (inr t) same = inr (trusted_still acts v w f.trusted t)

-- nobody holds anything, and the object has the least label
abbrev IsLowered : ℕ → State → Type 0
IsLowered o w = HoldsNothing w × (map.get w.object_label o ≡ Some least)

lower_path : (acts : ℕ → Bool) (v : State) → IsSecure v → HasLabelsWithin v → TrustedKnown v → HoldsNothing v → HasTrusted v acts
    → (o q : ℕ) → q ≡ 0 → Reaches v.parent o q → is_active v o ≡ true → Goes acts v (IsLowered o)
lower_path acts v h within known nothing t o q root (here) object =
    let none : map.get v.parent o ≡ None = ap (map.get v.parent) root ∙ h.tree.objects.root_has_no_parent in
    by_step _ _ _ _ (to_lower acts v h within t o (known t.subject t.trusted) object nothing (ap (is_above_parent v least) none))
lower_path acts v h within known nothing t o q root (up {p = p} at rest) object =
    goes_on acts v (IsLowered p) (IsLowered o)
    (lower_path acts v h within known nothing t p q root rest ((h.tree.objects.children_active o p at).1))
    (λ w f k inside low.
    let u : HasTrusted w acts = trusted_still acts v w f.trusted t in
    by_step _ _ _ _ (to_lower acts w k inside u o (trusted_known_still acts v w f known u.subject u.trusted) (f.active o ∙ object) low.0
    (ap (is_above_parent w least) (ap (λ m. map.get m o) f.parent ∙ at) ∙ ap (is_above (Some least)) low.1 ∙ reflexive least)))

-- simple security holds at the least label
pub cleared : (m e : Option Label) (x : Mode) → is_some m ≡ true → e ≡ Some least → simple_between m e x ≡ true
cleared m e Execute there is = refl
cleared m e Read there is = ap (is_above m) is ∙ above_least m there
cleared m e Append there is = refl
cleared m e Write there is = ap (is_above m) is ∙ above_least m there

module _ (acts : ℕ → Bool) (s o : ℕ) (x : Mode) where
  -- nobody holds anything, and simple security holds of the access, and then star too
  abbrev IsCleared : State → Type 0
  IsCleared w = HoldsNothing w × (simple_holds w (s, o, x) ≡ true)

  abbrev IsReady : State → Type 0
  IsReady w = HoldsNothing w × (simple_holds w (s, o, x) ≡ true) × (star_holds w (s, o, x) ≡ true)

  to_clear : (v : State) → IsSecure v → HasLabelsWithin v → TrustedKnown v → HoldsNothing v → Qualifies v acts s o x → Goes acts v IsCleared
  to_clear v h within known nothing q = from q.simple where
    object : is_active v o ≡ true
    object = (and_parts (is_subject v s) (is_active v o) q.known).1

    from : (simple_holds v (s, o, x) ≡ true) ⊎ HasTrusted v acts → Goes acts v IsCleared
    from (inl holds) = stay acts v IsCleared h within (nothing, holds)
    from (inr t) =
        goes_on acts v (IsLowered o) IsCleared (lower_path acts v h within known nothing t o 0 refl (h.tree.objects.reaches_root o object) object)
        (λ w f k inside low. stay acts w IsCleared k inside
        (low.0, cleared (map.get w.maximum s) (map.get w.object_label o) x (known_still acts v w f s ((and_parts (is_subject v s) (is_active v o) q.known).0)) low.1))

  -- star holds of an access at a current label
  starred : (w : State) (l k : Label) → map.get w.current s ≡ Some l → map.get w.object_label o ≡ Some k → star_between (Some l) (Some k) x ≡ true → star_holds w (s, o, x) ≡ true
  starred w l k current label holds =
      or_right (set.contains w.trusted s) (star_between (map.get w.current s) (map.get w.object_label o) x) ((λ i. star_between (current i) (label i) x) ∙ holds)

  to_ready : (v : State) → IsSecure v → HasLabelsWithin v → acts s ≡ true → is_subject v s ≡ true → is_active v o ≡ true → IsCleared v → Goes acts v IsReady
  to_ready v h within actor known object clear = by_mode x refl where
    at_object : (l : Label) × (map.get v.object_label o ≡ Some l)
    at_object = label_there (map.get v.object_label o) object

    at_level : (l : Label) → has_label v.security l ≡ true → is_above (map.get v.maximum s) (Some l) ≡ true → star_between (Some l) (Some at_object.0) x ≡ true → Goes acts v IsReady
    at_level l fits under star =
        goes_on acts v (λ w. HoldsNothing w × (map.get w.current s ≡ Some l) × (w.object_label ≡ v.object_label)) IsReady
        (by_step _ _ _ _ (to_level acts v h within s l actor known fits under clear.0))
        (λ w f k inside now. stay acts w IsReady k inside (
          now.0,
          (λ i. simple_between (map.get (f.maximum i) s) (map.get (now.2 i) o) x) ∙ clear.1,
          starred w l at_object.0 now.1 (ap (λ m. map.get m o) now.2 ∙ at_object.1) star,
        ))

    at_label : is_above (map.get v.maximum s) (map.get v.object_label o) ≡ true → star_between (Some at_object.0) (Some at_object.0) x ≡ true → Goes acts v IsReady
    at_label under star =
        at_level at_object.0 (within o at_object.0 at_object.1) (ap (is_above (map.get v.maximum s)) (sym at_object.1) ∙ under) star

    by_mode : (y : Mode) → x ≡ y → Goes acts v IsReady
    by_mode Execute is = stay acts v IsReady h within (
      clear.0,
      clear.1,
      or_right (set.contains v.trusted s) (star_between (map.get v.current s) (map.get v.object_label o) x) (ap (star_between (map.get v.current s) (map.get v.object_label o)) is),
    )
    by_mode Read is =
        at_label (ap (simple_between (map.get v.maximum s) (map.get v.object_label o)) (sym is) ∙ clear.1)
        (ap (star_between (Some at_object.0) (Some at_object.0)) is ∙ reflexive at_object.0)
    by_mode Append is =
        at_level least (has_least v h within) (above_least (map.get v.maximum s) known)
        (ap (star_between (Some least) (Some at_object.0)) is ∙ above_least (Some at_object.0) refl)
    by_mode Write is =
        at_label (ap (simple_between (map.get v.maximum s) (map.get v.object_label o)) (sym is) ∙ clear.1)
        (ap (star_between (Some at_object.0) (Some at_object.0)) is ∙ and_from _ _ (reflexive at_object.0) (reflexive at_object.0))

  -- an access that is permitted is got
  to_obtain : (v : State) → IsSecure v → HasLabelsWithin v → TrustedKnown v → HoldsNothing v → set.contains v.matrix (s, o, x) ≡ true → Qualifies v acts s o x
      → Goes acts v (HoldsOnly (s, o, x))
  to_obtain v h within known nothing has q =
      goes_on acts v IsCleared (HoldsOnly (s, o, x)) (to_clear v h within known nothing q)
      (λ w f k inside clear.
      let r = qualifies_still acts v w f s o x q in
      let there = and_parts (is_subject w s) (is_active w o) r.known in
      goes_on acts w IsReady (HoldsOnly (s, o, x)) (to_ready w k inside r.actor there.0 there.1 clear)
      (λ u g m within_u ready.
      let e = qualifies_still acts w u g s o x r in
      let both = and_parts (is_subject u s) (is_active u o) e.known in
      by_step _ _ _ _ (to_get acts u m within_u s o x e.actor both.0 both.1 ready.0 (g.matrix (s, o, x) (f.matrix (s, o, x) has)) ready.1 ready.2 e.integrity)))

-- who writes the parent controls the object, if that isn't the root
pub parent_controls : (v : State) (giver o p : ℕ) → IsSecure v → map.get v.parent o ≡ Some p → set.contains v.accesses (giver, p, Write) ≡ true → controls v giver o ≡ true
parent_controls v giver o p h at writes =
    ap (λ b. if b then set.contains v.trusted giver else writes_parent v giver (map.get v.parent o)) other ∙ ap (writes_parent v giver) at ∙ writes where
      other : (o == 0) ≡ false
      other = ne_eqb o 0 (λ is. let no : Some p ≡ None = sym at ∙ ap (map.get v.parent) is ∙ h.tree.objects.root_has_no_parent in cc)

-- who could get something acts
pub actor_of : (v : State) (acts : ℕ → Bool) (s o : ℕ) (x : Mode) → CouldGet v acts s o x → acts s ≡ true
actor_of v acts s o x (permitted has q) = q.actor
actor_of v acts s o x (given_at_root t q) = q.actor
actor_of v acts s o x (given_below giver p at could q) = q.actor

-- whatever the closure has comes about where nobody holds anything
pub comes : (acts : ℕ → Bool) (v : State) → IsSecure v → HasLabelsWithin v → TrustedKnown v → HoldsNothing v
    → (s o : ℕ) (x : Mode) → CouldGet v acts s o x → Goes acts v (HoldsOnly (s, o, x))
comes acts v h within known nothing s o x (permitted has q) = to_obtain acts s o x v h within known nothing has q
comes acts v h within known nothing s o x (given_at_root t q) =
    goes_on acts v (λ w. (w.accesses ≡ v.accesses) × (set.contains w.matrix (s, 0, x) ≡ true)) (HoldsOnly (s, 0, x))
    (by_step _ _ _ _ (to_give acts v h within t.subject s 0 x t.actor (known t.subject t.trusted) ((and_parts (is_subject v s) (is_active v 0) q.known).0) h.tree.objects.root_active t.trusted))
    (λ w f k inside now. to_obtain acts s 0 x w k inside (trusted_known_still acts v w f known) (λ u. ap (λ b. set.contains b u) now.0 ∙ nothing u) now.1 (qualifies_still acts v w f s 0 x q))
comes acts v h within known nothing s o x (given_below giver p at could q) =
    goes_on acts v (HoldsOnly (giver, p, Write)) (HoldsOnly (s, o, x)) (comes acts v h within known nothing giver p Write could)
    (λ w f k inside only.
    let r = qualifies_still acts v w f s o x q in
    let there = and_parts (is_subject w s) (is_active w o) r.known in
    let above : map.get w.parent o ≡ Some p = ap (λ m. map.get m o) f.parent ∙ at in
    let writes : set.contains w.accesses (giver, p, Write) ≡ true = only (giver, p, Write) ∙ is_triple-itself (giver, p, Write) in
    let hand = and_parts (is_subject w giver) (is_active w p) (k.tree.accesses_known (giver, p, Write) writes) in
    let actor : acts giver ≡ true = actor_of v acts giver p Write could in
    goes_on acts w (λ u. (u.accesses ≡ w.accesses) × (set.contains u.matrix (s, o, x) ≡ true)) (HoldsOnly (s, o, x))
    (by_step _ _ _ _ (to_give acts w k inside giver s o x actor hand.0 there.0 there.1 (parent_controls w giver o p k above writes)))
    (λ u g m within_u now.
    goes_on acts u HoldsNothing (HoldsOnly (s, o, x))
    (by_step _ _ _ _ (to_release acts u m within_u giver p Write actor (known_still acts w u g giver hand.0) (g.active p ∙ hand.1) (λ t. ap (λ b. set.contains b t) now.0 ∙ only t)))
    (λ z j n within_z free.
    to_obtain acts s o x z n within_z
    (trusted_known_still acts u z j (trusted_known_still acts w u g (trusted_known_still acts v w f known))) free (j.matrix (s, o, x) now.1)
    (qualifies_still acts u z j s o x (qualifies_still acts w u g s o x r)))))
