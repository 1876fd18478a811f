-- What a creation makes.
use Rattle.std.proofs.Common.{◌≡◌, ℕ, ◌<◌, Bool, true, false, ◌&&◌, Some, refl, sym, ap, subst, ◌∙◌, arith}
use Rattle.std.proofs.lemmas.Bool.{and_parts}
use Rattle.std.proofs.lemmas.Bool.Decides.{nat_tests}
use Rattle.std.specs.FinMap as map
use Rattle.std.specs.FinSet as set
use Rattle.mls_facts.proofs.Entries.{by_number, at_new, elsewhere}
use Rattle.mls_labels.specs.Label.{Label, has_label}
use Rattle.mls_tables.specs.declared.mode.Mode.{Mode}
use Rattle.mls_tables.specs.declared.limits.TheConstants.{MAX_OBJECTS}
use Rattle.mls_tables.specs.Triples.{TripleSet}
use Rattle.mls_tree.proofs.Laws.{next_free}
use Rattle.mls_requests.specs.declared.action.Action.TheVariants.{Create}
use Rattle.mls_requests.specs.declared.reply.Reply.TheVariants.{Created}
use Rattle.mls_state.specs.State.{State, is_subject, is_active}
use Rattle.mls_state.specs.Properties.{Each, IsSecure, HasTree, is_known}
use Rattle.mls_state.specs.Changes.{with_object}
use Rattle.mls_rules.specs.Rules.{reply, after, conditions, AllHold, names_known}
use Rattle.mls_laws.specs.Journals.{is_grant}
use Rattle.mls_laws.specs.NewObjects.{creates, IsAnew}
use Rattle.mls_laws.proofs.Answered.{granted_from, after_grant}
use Rattle.mls_laws.proofs.Kept.{created_next}

some_same : (a b : ℕ) → Some a ≡ Some b → a ≡ b
some_same a b e = cc

-- nothing that is known names a number that isn't active
unnamed : (v : State) (b : TripleSet) → Each b (is_known v) → (n : ℕ) → is_active v n ≡ false → (s : ℕ) (x : Mode) → set.contains b (s, n, x) ≡ false
unnamed v b known n free s x = from (set.contains b (s, n, x)) refl where
  from : (c : Bool) → set.contains b (s, n, x) ≡ c → set.contains b (s, n, x) ≡ false
  from true there = let no : true ≡ false = sym (and_parts (is_subject v s) (is_active v n) (known (s, n, x) there)).1 ∙ free in cc
  from false there = there

-- the next number makes a new object
made_anew : (v : State) (p : ℕ) (l i : Label) → HasTree v → is_active v p ≡ true → v.next < MAX_OBJECTS → IsAnew (with_object v p l i) v.next p l i
made_anew v p l i h above room = record {
  permissions = λ s x. unnamed v v.matrix h.matrix_known v.next free s x;
  accesses = λ s x. unnamed v v.accesses h.accesses_known v.next free s x;
  children = λ c step. by_number v.next c (λ k. map.get (map.insert v.parent v.next p) k ≡ Some v.next → ⊥)
      (λ at. let same : p ≡ v.next = some_same p v.next (sym (at_new v.parent v.next p) ∙ at) in let no : true ≡ false = sym above ∙ ap (is_active v) same ∙ free in cc)
      (λ other at. let no : true ≡ false = sym (h.objects.children_active c v.next (sym (elsewhere v.parent v.next p c other) ∙ at)).1 ∙ free in cc)
      step;
  label = at_new v.object_label v.next l;
  integrity = at_new v.object_integrity v.next i;
  parent = at_new v.parent v.next p;
} where
  free : is_active v v.next ≡ false
  free = next_free v.profile (is_active v) v.next h.next room

room_from : (v : State) (s p : ℕ) (l i : Label) → AllHold (conditions v s (Create p l i)) → v.next < MAX_OBJECTS
room_from v s p l i (authority, (compatible, (integrity, (room, u)))) = grind (arith, nat_tests, room)

pub created_anew : (v : State) (s p o : ℕ) (l i : Label) → IsSecure v → reply v (creates s p l i) ≡ Created o → IsAnew (after v (creates s p l i)) o p l i
created_anew v s p o l i h made =
    let grant = granted_from v (creates s p l i) (ap is_grant made) in
    let next : v.next ≡ o = created_next v (Create p l i) o (sym grant.2 ∙ made) in
    let above : is_active v p ≡ true = (and_parts (is_active v p) (has_label v.security l && has_label v.integrity i) ((and_parts (is_subject v s) (names_known v (Create p l i)) grant.0).1)).0 in
    subst (λ n. IsAnew (after v (creates s p l i)) n p l i) next
    (subst (λ w. IsAnew w v.next p l i) (sym (after_grant v (creates s p l i) (ap is_grant made)))
    (made_anew v p l i h.tree above (room_from v s p l i grant.1)))
