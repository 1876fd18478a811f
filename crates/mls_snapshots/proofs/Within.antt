-- Labels that are within the bounds of a state, at each number where they are at each known one.
use Rattle.std.proofs.Common.{◌≡◌, ℕ, ◌<◌, Bool, true, false, Option, Some, None, refl, sym, subst, ◌∙◌}
use Rattle.std.specs.Prelude.{nat_lt, is_some, IfSome, IsTrue}
use Rattle.std.specs.FinMap as map
use Rattle.mls_labels.specs.Label.{Label, Bounds, has_label}
use Rattle.mls_state.specs.State.{State, is_subject, is_active}
use Rattle.mls_state.specs.Properties.{HasTree, HasWholeTables}
use Rattle.mls_snapshots.specs.Reading.{IsSubjectWithin, IsObjectWithin}
use Rattle.mls_snapshots.proofs.SubjectTables.{by_count}

-- a label that is there
pub some_within : (b : Bounds) (o : Option Label) (l : Label) → o ≡ Some l → has_label b l ≡ true → IfSome o (λ k. IsTrue (has_label b k))
some_within b o l is has = subst (λ (q : Option Label). IfSome q (λ k. IsTrue (has_label b k))) (sym is) has

-- a label that is there is within where none that is there is outside
pub some_has : (b : Bounds) (o : Option Label) (l : Label) → o ≡ Some l → IfSome o (λ k. IsTrue (has_label b k)) → has_label b l ≡ true
some_has b o l is within = subst (λ (q : Option Label). IfSome q (λ k. IsTrue (has_label b k))) is within

-- where none is there
none_within : (b : Bounds) (o : Option Label) → is_some o ≡ false → IfSome o (λ k. IsTrue (has_label b k))
none_within b None none = tt
none_within b (Some l) none = absurd (let no : true ≡ false = none in cc)

pub subjects_within : (v : State) (count : ℕ) → ((s : ℕ) → is_subject v s ≡ nat_lt s count) → HasWholeTables v
    → ((s : ℕ) → s < count → IsSubjectWithin v s) → (s : ℕ) → IsSubjectWithin v s
subjects_within v count known whole below s = by_count count s (IsSubjectWithin v s) (below s) (λ above.
    let unknown : is_subject v s ≡ false = known s ∙ above in
    record {
      maximum = none_within v.security (map.get v.maximum s) unknown;
      current = none_within v.security (map.get v.current s) (whole.current s ∙ unknown);
      integrity = none_within v.integrity (map.get v.subject_integrity s) (whole.subject_integrity s ∙ unknown);
    })

pub objects_within : (v : State) → HasTree v → HasWholeTables v → ((o : ℕ) → o < 4096 → IsTrue (is_active v o) → IsObjectWithin v o)
    → (o : ℕ) → IsObjectWithin v o
objects_within v tree whole below o = from (is_active v o) refl where
  from : (b : Bool) → is_active v o ≡ b → IsObjectWithin v o
  from true is = below o (tree.objects.below o is) is
  from false is = record {
    security = none_within v.security (map.get v.object_label o) is;
    integrity = none_within v.integrity (map.get v.object_integrity o) (whole.object_integrity o ∙ is);
  }
