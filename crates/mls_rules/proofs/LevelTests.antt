-- What the tests of the rules that change levels look at: the accesses of a subject, and those to an object.
use Rattle.std.proofs.Common.{◌≡◌, ℕ, ◌⊎◌, inl, inr, Bool, true, false, not, ◌||◌, nat_eq, ap, sym, ◌∙◌}
use Rattle.std.proofs.lemmas.Bool.{cases_eq, eq-eqb, ne_eqb, and_parts, false≢true}
use Rattle.std.specs.FinMap as map
use Rattle.std.specs.FinSet as set
use Rattle.mls_facts.specs.Each.{each}
use Rattle.mls_labels.specs.Label.{Label}
use Rattle.mls_tables.specs.Triples.{Triple}
use Rattle.mls_tables.proofs.Laws.{triples_total, same_triple}
use Rattle.mls_state.specs.State.{State, is_subject, is_active}
use Rattle.mls_state.specs.Changes.{with_current}
use Rattle.mls_state.specs.Properties.{Each, is_known, star_between, star_holds}
use Rattle.mls_facts.proofs.Each.{contains-each}

-- of a subject that isn't known there is no access
pub none_of_subject : (v : State) (s : ℕ) (p : Triple → Bool) → Each v.accesses (is_known v) → is_subject v s ≡ false → each v.accesses (λ t. not (nat_eq t.0 s) || p t) ≡ true
none_of_subject v s p known unknown = contains-each triples_total same_triple v.accesses (λ t. not (nat_eq t.0 s) || p t) (λ t there. from t (known t there) (cases_eq t.0 s)) where
  from : (t : Triple) → is_known v t ≡ true → (t.0 ≡ s) ⊎ (t.0 ≡ s → ⊥) → (not (nat_eq t.0 s) || p t) ≡ true
  from t is (inl own) = absurd (false≢true (sym unknown ∙ ap (is_subject v) (sym own) ∙ (and_parts (is_subject v t.0) (is_active v t.1) is).0))
  from t is (inr other) = ap (λ e. not e || p t) (ne_eqb t.0 s other)

-- and to an object that isn't active there is none
pub none_of_object : (v : State) (o : ℕ) (p : Triple → Bool) → Each v.accesses (is_known v) → is_active v o ≡ false → each v.accesses (λ t. not (nat_eq t.1 o) || p t) ≡ true
none_of_object v o p known unknown = contains-each triples_total same_triple v.accesses (λ t. not (nat_eq t.1 o) || p t) (λ t there. from t (known t there) (cases_eq t.1 o)) where
  from : (t : Triple) → is_known v t ≡ true → (t.1 ≡ o) ⊎ (t.1 ≡ o → ⊥) → (not (nat_eq t.1 o) || p t) ≡ true
  from t is (inl own) = absurd (false≢true (sym unknown ∙ ap (is_active v) (sym own) ∙ (and_parts (is_subject v t.0) (is_active v t.1) is).1))
  from t is (inr other) = ap (λ e. not e || p t) (ne_eqb t.1 o other)

-- star asks nothing of the accesses of a trusted subject, whatever its level
pub trusted_stars : (v : State) (s : ℕ) (l : Label) → set.contains v.trusted s ≡ true → each v.accesses (λ t. not (nat_eq t.0 s) || star_holds (with_current v s l) t) ≡ true
trusted_stars v s l trusted = contains-each triples_total same_triple v.accesses (λ t. not (nat_eq t.0 s) || star_holds (with_current v s l) t) (λ t there. from t (cases_eq t.0 s)) where
  from : (t : Triple) → (t.0 ≡ s) ⊎ (t.0 ≡ s → ⊥) → (not (nat_eq t.0 s) || star_holds (with_current v s l) t) ≡ true
  from t (inl own) =
      let is : set.contains v.trusted t.0 ≡ true = ap (set.contains v.trusted) own ∙ trusted in
      λ i. not (eq-eqb t.0 s own i) || (is i || star_between (map.get (map.insert v.current s l) t.0) (map.get v.object_label t.1) t.2)
  from t (inr other) = ap (λ e. not e || star_holds (with_current v s l) t) (ne_eqb t.0 s other)
