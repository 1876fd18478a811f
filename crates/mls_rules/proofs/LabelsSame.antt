-- What holds of a triple or of a pair of objects still holds where the labels that it looks at are the same.
use Rattle.std.proofs.Common.{◌≡◌, ℕ, true, not, ◌&&◌, ◌||◌, ◌∙◌}
use Rattle.std.specs.FinSet as set
use Rattle.std.specs.FinMap as map
use Rattle.mls_tables.specs.Mode.{observes, alters, uses}
use Rattle.mls_tables.specs.Triples.{Triple}
use Rattle.mls_state.specs.State.{State, is_above}
use Rattle.mls_state.specs.Properties.{star_between, simple_holds, star_holds, integrity_holds, compatible_holds}

-- a triple passes the tests on its subject and its object where it did with the same labels of the object
module _ (v w : State) (t : Triple) where
  pub simple_still : w.maximum ≡ v.maximum → map.get w.object_label t.1 ≡ map.get v.object_label t.1 → simple_holds v t ≡ true
      → simple_holds w t ≡ true
  simple_still subjects label holds = (λ i. not (observes t.2) || is_above (map.get (subjects i) t.0) (label i)) ∙ holds

  pub star_still : w.trusted ≡ v.trusted → w.current ≡ v.current → map.get w.object_label t.1 ≡ map.get v.object_label t.1
      → star_holds v t ≡ true → star_holds w t ≡ true
  star_still trusted subjects label holds = (λ i. set.contains (trusted i) t.0 || star_between (map.get (subjects i) t.0) (label i) t.2) ∙ holds

  pub integrity_still : w.subject_integrity ≡ v.subject_integrity
      → map.get w.object_integrity t.1 ≡ map.get v.object_integrity t.1 → integrity_holds v t ≡ true → integrity_holds w t ≡ true
  integrity_still subjects label holds =
      (λ i. (not (uses t.2) || is_above (label i) (map.get (subjects i) t.0))
      && (not (alters t.2) || is_above (map.get (subjects i) t.0) (label i)))
      ∙ holds

-- a child stays compatible where both keep their labels
pub compatible_still : (v w : State) (c p : ℕ) → map.get w.object_label c ≡ map.get v.object_label c
    → map.get w.object_label p ≡ map.get v.object_label p
    → map.get w.object_integrity c ≡ map.get v.object_integrity c → map.get w.object_integrity p ≡ map.get v.object_integrity p
    → compatible_holds v c p ≡ true → compatible_holds w c p ≡ true
compatible_still v w c p child parent child_integrity parent_integrity holds =
    (λ i. is_above (child i) (parent i) && is_above (parent_integrity i) (child_integrity i)) ∙ holds
