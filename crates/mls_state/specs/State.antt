-- The state of the monitor: the current accesses, the access matrix, the labels and the tree of objects.
use Rattle.std.specs.Prelude.{ℕ, Bool, ◌&&◌, Option, Some, None, false, refl}
use Rattle.std.specs.Ordering.{nat_cmp}
use Rattle.std.specs.FinSet as set
use Rattle.std.specs.FinSet.{FinSet}
use Rattle.std.specs.FinMap as map
use Rattle.std.specs.FinMap.{FinMap}
use Rattle.std.specs.Coded.{Coded, code_by, coded×, coded_ℕ}
use Rattle.mls_labels.specs.Label.{Label, Bounds, label_code, bounds_code, dominates}
use Rattle.mls_tables.specs.Triples.{TripleSet, triple_set_code}
use Rattle.mls_tree.specs.declared.profile.Profile.{Profile}
use Rattle.mls_tree.specs.contracts.profile.Profile as profiles

-- The state (b, M, f, H). (MTR-2997, system states; the integrity labels MTR-3153; the profile, the next number and the
-- bounds own)
pub record State : Type 0 where
  -- the triples of subject, object and mode that are current accesses, and those that the matrix permits
  pub accesses : TripleSet
  pub matrix : TripleSet
  -- of each known subject the maximum and the current security label, and the integrity label
  pub maximum : FinMap nat_cmp Label
  pub current : FinMap nat_cmp Label
  pub subject_integrity : FinMap nat_cmp Label
  -- the subjects that are exempt from the star property
  pub trusted : FinSet nat_cmp
  -- of each active object the security and the integrity label
  pub object_label : FinMap nat_cmp Label
  pub object_integrity : FinMap nat_cmp Label
  -- the parent of each active object but the root
  pub parent : FinMap nat_cmp ℕ
  -- whether object numbers are used again
  pub profile : Profile
  -- the number that the next object will have: in profile 1 the least that was never used, in profile 2 the least that
  -- isn't active; 4,096 where there is none
  pub next : ℕ
  -- the bounds of the security and of the integrity labels
  pub security : Bounds
  pub integrity : Bounds

-- A subject is known where it has a maximum label. (own)
abbrev pub is_subject : State → ℕ → Bool
is_subject v s = map.contains_key v.maximum s

-- An object is active where it has a security label. (MTR-2997, active objects)
abbrev pub is_active : State → ℕ → Bool
is_active v o = map.contains_key v.object_label o

-- Of two labels that may lack: both are there, and the first dominates the second. (own)
abbrev pub is_above : Option Label → Option Label → Bool
is_above (Some a) (Some b) = dominates a b
is_above (Some a) None = false
is_above None b = false

-- Of two labels that may lack: both are there and equal, since each dominates the other. (own)
abbrev pub is_equal : Option Label → Option Label → Bool
is_equal a b = is_above a b && is_above b a

-- How a table of labels is stored. (own)
abbrev pub labels_code : Coded (FinMap nat_cmp Label)
labels_code = map.code coded_ℕ label_code

-- The tables of a state that speak of subjects. (own)
abbrev Subjects : Type 0
Subjects = FinMap nat_cmp Label × (FinMap nat_cmp Label × (FinMap nat_cmp Label × FinSet nat_cmp))

-- The tables of a state that speak of objects, the profile, and the next number. (own)
abbrev Objects : Type 0
Objects = FinMap nat_cmp Label × (FinMap nat_cmp Label × (FinMap nat_cmp ℕ × (Profile × ℕ)))

-- How a state is stored: as the tuple of its parts. (own)
abbrev pub state_code : Coded State
state_code = code_by ((TripleSet × TripleSet) × (Subjects × (Objects × (Bounds × Bounds))))
    (coded× (coded× triple_set_code triple_set_code) (coded×
    (coded× labels_code (coded× labels_code (coded× labels_code (set.code coded_ℕ)))) (coded×
    (coded× labels_code
    (coded× labels_code (coded× (map.code coded_ℕ coded_ℕ) (coded× profiles.the_row.coded coded_ℕ))))
    (coded× bounds_code bounds_code))))
    (λ v. (
      (v.accesses, v.matrix),
      (
        (v.maximum, (v.current, (v.subject_integrity, v.trusted))),
        ((v.object_label, (v.object_integrity, (v.parent, (v.profile, v.next)))), (v.security, v.integrity)),
      ),
    ))
    (λ p. record {
      accesses = p.0.0;
      matrix = p.0.1;
      maximum = p.1.0.0;
      current = p.1.0.1.0;
      subject_integrity = p.1.0.1.1.0;
      trusted = p.1.0.1.1.1;
      object_label = p.1.1.0.0;
      object_integrity = p.1.1.0.1.0;
      parent = p.1.1.0.1.1.0;
      profile = p.1.1.0.1.1.1.0;
      next = p.1.1.0.1.1.1.1;
      security = p.1.1.1.0;
      integrity = p.1.1.1.1;
    })
    (λ _. refl)
