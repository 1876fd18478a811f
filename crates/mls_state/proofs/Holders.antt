-- Who accesses what is known.
use Rattle.std.proofs.Common.{◌≡◌, ℕ, ◌<◌, true, eqb, List, length, refl, sym, ◌∙◌, get_or}
use Rattle.std.specs.List.{list_any}
use Rattle.std.proofs.lemmas.Bool.{and_parts, eq-eqb}
use Rattle.std.proofs.lemmas.List.Folds.{list_any_at}
use Rattle.mls_tables.specs.Held.{is_held}
use Rattle.mls_tables.proofs.Laws.{held_in}
use Rattle.mls_state.specs.declared.state.State.TheInside.{Inside}
use Rattle.mls_state.specs.State.{is_subject, is_active}
use Rattle.mls_state.specs.StateView.{state_of, Agrees}

module _ {A : Type 0} (a : Inside A) (h : Agrees a) where
  held_known : (s o : ℕ) → is_held a.accesses.triples s o ≡ true → (is_subject (state_of a) s ≡ true) × (is_active (state_of a) o ≡ true)
  held_known s o held = let at = held_in a.accesses.triples s o held in and_parts (is_subject (state_of a) s) (is_active (state_of a) o) (h.accesses_known (s, o, at.0) at.1)

  item_listed : (xs : List ℕ) (k d : ℕ) → k < length xs → list_any (eqb (get_or xs k d)) xs ≡ true
  item_listed xs k d within = list_any_at (eqb (get_or xs k d)) xs k d within (eq-eqb (get_or xs k d) (get_or xs k d) refl)

  -- the objects of a subject are active
  pub active_listed : (s : ℕ) (os : List ℕ) → ((o : ℕ) → list_any (eqb o) os ≡ is_held a.accesses.triples s o) → (k d : ℕ) → k < length os → is_active (state_of a) (get_or os k d) ≡ true
  active_listed s os listed k d within = (held_known s (get_or os k d) (sym (listed (get_or os k d)) ∙ item_listed os k d within)).1

  -- the subjects of an object are known
  pub known_listed : (o : ℕ) (ss : List ℕ) → ((s : ℕ) → list_any (eqb s) ss ≡ is_held a.accesses.triples s o) → (k d : ℕ) → k < length ss → is_subject (state_of a) (get_or ss k d) ≡ true
  known_listed o ss listed k d within = (held_known (get_or ss k d) o (sym (listed (get_or ss k d)) ∙ item_listed ss k d within)).0
