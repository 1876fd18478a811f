-- Who accesses what, as the set of triples changes.
use Rattle.std.specs.Prelude.{◌≡◌, ℕ, ◌<◌, ◌↔◌, Bool, true, false, not, ◌&&◌, ◌||◌, IsTrue, List, refl}
use Rattle.std.specs.List.{list_any}
use Rattle.std.specs.FinSet as set
use Rattle.std.proofs.Common.{◌⊎◌, inl, inr, sym, ap, subst, ◌∙◌, eqb}
use Rattle.std.proofs.lemmas.Bool.{cases_eq, cases_Bool, eq-eqb, ne_eqb, eqb-true, and_parts, false_from_ne_true, false≢true}
use Rattle.std.proofs.Math.Bool.{and-true, and-false}
use Rattle.mls_tables.specs.declared.mode.Mode.{Mode}
use Rattle.mls_tables.specs.declared.mode.Mode.TheVariants.{Execute, Read, Append, Write}
use Rattle.mls_tables.specs.Mode.{mode_cmp, ModeSet}
use Rattle.mls_tables.specs.Triples.{TripleSet, triple_cmp, is_triple}
use Rattle.mls_tables.specs.Table.{IsWithin, without_objects}
use Rattle.mls_tables.specs.Held.{is_held}
use Rattle.mls_tables.proofs.Laws.{held_at, held_in, same_modes, is_triple-itself, contains-insert-triple, contains-remove-triple, contains-without_objects}

-- two sets with the same modes there
pub held_alike : (b c : TripleSet) (s o : ℕ) → ((x : Mode) → set.contains b (s, o, x) ≡ set.contains c (s, o, x)) → is_held b s o ≡ is_held c s o
held_alike b c s o same i = same Execute i || (same Read i || (same Append i || same Write i))

pub held_empty : (s o : ℕ) → is_held set.empty s o ≡ false
held_empty s o i = none Execute i || (none Read i || (none Append i || none Write i)) where
  none : (x : Mode) → set.contains {R = triple_cmp} set.empty (s, o, x) ≡ false
  none x = set.contains-empty triple_cmp (s, o, x)

-- within the bounds of a table
pub held_within : (n m : ℕ) (b : TripleSet) (s o : ℕ) → IsWithin n m b → is_held b s o ≡ true → (s < n) × (o < m)
held_within n m b s o within held = let at = held_in b s o held in within (s, o, at.0) at.1

-- a triple of another pair is another
apart : (s o a c : ℕ) (x y : Mode) → ((a ≡ s) × (c ≡ o) → ⊥) → is_triple (a, c, y) (s, o, x) ≡ false
apart s o a c x y other = from (cases_eq a s) (cases_eq c o) where
  from : (a ≡ s) ⊎ (a ≡ s → ⊥) → (c ≡ o) ⊎ (c ≡ o → ⊥) → is_triple (a, c, y) (s, o, x) ≡ false
  from (inl one) (inl two) = absurd (other (one, two))
  from (inl one) (inr differ) = rw (ne_eqb c o differ) (and-false (eqb a s))
  from (inr differ) _ = rw (ne_eqb a s differ) refl

abbrev Is : ℕ → ℕ → ℕ → ℕ → Type 0
Is s o a c = (a ≡ s) × (c ≡ o)

cases_pair : (s o a c : ℕ) → Is s o a c ⊎ (Is s o a c → ⊥)
cases_pair s o a c = from (cases_eq a s) (cases_eq c o) where
  from : (a ≡ s) ⊎ (a ≡ s → ⊥) → (c ≡ o) ⊎ (c ≡ o → ⊥) → Is s o a c ⊎ (Is s o a c → ⊥)
  from (inl one) (inl two) = inl (one, two)
  from (inl one) (inr differ) = inr (λ h. differ h.1)
  from (inr differ) _ = inr (λ h. differ h.0)

-- the tests for a pair
itself : (s o : ℕ) → (eqb s s && eqb o o) ≡ true
itself s o = rw (eq-eqb s s refl, eq-eqb o o refl) refl

other_pair : (s o a c : ℕ) → (Is s o a c → ⊥) → (eqb a s && eqb c o) ≡ false
other_pair s o a c other = false_from_ne_true _ (λ both. let parts = and_parts (eqb a s) (eqb c o) both in other (eqb-true a s parts.0, eqb-true c o parts.1))

-- a triple more
pub held_insert : (b : TripleSet) (s o : ℕ) (x : Mode) (a c : ℕ) → is_held (set.insert b (s, o, x)) a c ≡ ((eqb a s && eqb c o) || is_held b a c)
held_insert b s o x a c = from (cases_pair s o a c) where
  from : Is s o a c ⊎ (Is s o a c → ⊥) → is_held (set.insert b (s, o, x)) a c ≡ ((eqb a s && eqb c o) || is_held b a c)
  from (inl same) =
      rw (same.0, same.1, itself s o) (held_at (set.insert b (s, o, x)) s o x (contains-insert-triple b (s, o, x) (s, o, x) ∙ ap (λ e. e || set.contains b (s, o, x)) (is_triple-itself (s, o, x))))
  from (inr other) =
      rw (other_pair s o a c other) (held_alike _ b a c (λ y. contains-insert-triple b (s, o, x) (a, c, y) ∙ ap (λ e. e || set.contains b (a, c, y)) (apart s o a c x y other)))

-- a triple less
pub held_remove : (b : TripleSet) (s o : ℕ) (x : Mode) (a c : ℕ) → is_held (set.remove b (s, o, x)) a c ≡ (is_held b a c && (is_held (set.remove b (s, o, x)) s o || not (eqb a s && eqb c o)))
held_remove b s o x a c = from (cases_pair s o a c) (cases_Bool (is_held (set.remove b (s, o, x)) s o)) where
  before : is_held (set.remove b (s, o, x)) s o ≡ true → is_held b s o ≡ true
  before held =
      let at = held_in (set.remove b (s, o, x)) s o held in
      held_at b s o at.0 (and_parts (not (is_triple (s, o, at.0) (s, o, x))) (set.contains b (s, o, at.0)) (sym (contains-remove-triple b (s, o, x) (s, o, at.0)) ∙ at.1)).1

  from : Is s o a c ⊎ (Is s o a c → ⊥) → (is_held (set.remove b (s, o, x)) s o ≡ true) ⊎ (is_held (set.remove b (s, o, x)) s o ≡ false) → is_held (set.remove b (s, o, x)) a c ≡ (is_held b a c && (is_held (set.remove b (s, o, x)) s o || not (eqb a s && eqb c o)))
  from (inl same) (inl held) = subst (λ k. is_held (set.remove b (s, o, x)) k c ≡ (is_held b k c && (is_held (set.remove b (s, o, x)) s o || not (eqb k s && eqb c o)))) (sym same.0) (subst (λ k. is_held (set.remove b (s, o, x)) s k ≡ (is_held b s k && (is_held (set.remove b (s, o, x)) s o || not (eqb s s && eqb k o)))) (sym same.1)
      (held ∙ sym ((λ i. before held i && (held i || not (eqb s s && eqb o o))))))
  from (inl same) (inr none) = subst (λ k. is_held (set.remove b (s, o, x)) k c ≡ (is_held b k c && (is_held (set.remove b (s, o, x)) s o || not (eqb k s && eqb c o)))) (sym same.0) (subst (λ k. is_held (set.remove b (s, o, x)) s k ≡ (is_held b s k && (is_held (set.remove b (s, o, x)) s o || not (eqb s s && eqb k o)))) (sym same.1)
      (none ∙ sym ((λ i. is_held b s o && (none i || not (itself s o i))) ∙ and-false (is_held b s o))))
  from (inr other) _ =
      held_alike (set.remove b (s, o, x)) b a c (λ y. contains-remove-triple b (s, o, x) (a, c, y) ∙ ap (λ e. not e && set.contains b (a, c, y)) (apart s o a c x y other))
      ∙ sym ((λ i. is_held b a c && (is_held (set.remove b (s, o, x)) s o || not (other_pair s o a c other i))) ∙ kept (is_held b a c) (is_held (set.remove b (s, o, x)) s o)) where
        kept : (p r : Bool) → (p && (r || true)) ≡ p
        kept true true = refl
        kept true false = refl
        kept false r = refl

four : (n p q r t : Bool) → ((p && n) || ((q && n) || ((r && n) || (t && n)))) ≡ ((p || (q || (r || t))) && n)
four true p q r t = (λ i. and-true p i || (and-true q i || (and-true r i || and-true t i))) ∙ sym (and-true _)
four false p q r t = (λ i. and-false p i || (and-false q i || (and-false r i || and-false t i))) ∙ sym (and-false (p || (q || (r || t))))

-- the triples of a group less
pub held_without_group : (b : TripleSet) (group : List ℕ) (a c : ℕ) → is_held (without_objects b group) a c ≡ (is_held b a c && not (list_any (λ o. eqb o c) group))
held_without_group b group a c =
    (λ i. at Execute i || (at Read i || (at Append i || at Write i))) ∙ four (not (list_any (λ o. eqb o c) group)) (set.contains b (a, c, Execute)) (set.contains b (a, c, Read)) (set.contains b (a, c, Append)) (set.contains b (a, c, Write)) where
      at : (x : Mode) → set.contains (without_objects b group) (a, c, x) ≡ (set.contains b (a, c, x) && not (list_any (λ o. eqb o c) group))
      at x = contains-without_objects b group (a, c, x)

-- a cell is empty where nothing is held
pub free_is : (modes : ModeSet) (b : TripleSet) (s o : ℕ) (r : Bool) → ((x : Mode) → set.contains modes x ≡ set.contains b (s, o, x)) → IsTrue r ↔ (modes ≡ set.empty) → r ≡ not (is_held b s o)
free_is modes b s o true cell empty = sym (ap not (held_none)) where
  held_none : is_held b s o ≡ false
  held_none = false_from_ne_true _ (λ held. let at = held_in b s o held in false≢true (sym (sym (cell at.0) ∙ ap (λ m. set.contains m at.0) (empty.0 refl) ∙ set.contains-empty mode_cmp at.0) ∙ at.1))
free_is modes b s o false cell empty = from (cases_Bool (is_held b s o)) where
  from : (is_held b s o ≡ true) ⊎ (is_held b s o ≡ false) → false ≡ not (is_held b s o)
  from (inl held) = sym (ap not held)
  from (inr none) = absurd (false≢true (empty.1 (same_modes modes set.empty (λ x. cell x ∙ false_from_ne_true _ (λ there. false≢true (sym none ∙ held_at b s o x there)) ∙ sym (set.contains-empty mode_cmp x)))))
