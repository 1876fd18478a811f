-- Tables of subjects are the same where they are the same at each subject.
use Rattle.std.proofs.Common.{◌≡◌, ℕ, ◌<◌, ◌≤◌, ◌⊎◌, inl, inr, Bool, true, false, Option, Some, None, refl, sym, ap, ◌∙◌, arith}
use Rattle.std.proofs.lemmas.Bool.{cases_lt}
use Rattle.std.proofs.lemmas.Bool.Decides.{nat_tests}
use Rattle.std.specs.Prelude.{nat_lt, is_some, IsTrue}
use Rattle.std.specs.Cmp.{nat_cmp_total}
use Rattle.std.specs.Ordering.{nat_cmp}
use Rattle.std.specs.FinMap as map
use Rattle.std.specs.FinMap.{FinMap, same_map}
use Rattle.std.specs.FinSet as set
use Rattle.std.specs.FinSet.{FinSet, same_set, nat_cmp-IsAntisymmetric}
use Rattle.mls_labels.specs.Label.{Label}
use Rattle.mls_state.specs.State.{State, is_subject}
use Rattle.mls_state.specs.Properties.{HasWholeTables}
use Rattle.mls_snapshots.specs.Reading.{IsFixedSubject, HasFixedSubjects}
use Rattle.mls_snapshots.specs.Renumbering.{IsSameSubject, HasSameSubjects}

-- below a number or not
pub by_count : (count s : ℕ) (P : Type 0) → (s < count → P) → (nat_lt s count ≡ false → P) → P
by_count count s P below above = from (nat_lt s count) refl where
  from : (b : Bool) → nat_lt s count ≡ b → P
  from true is = below (grind (arith, nat_tests, is))
  from false is = above is

-- a map has nothing where it has no key
unknown_get : (m : FinMap nat_cmp Label) (s : ℕ) → map.contains_key m s ≡ false → map.get m s ≡ None
unknown_get m s unknown = from (map.get m s) refl where
  from : (there : Option Label) → map.get m s ≡ there → map.get m s ≡ None
  from None is = is
  from (Some l) is = absurd (let no : true ≡ false = sym (ap is_some is) ∙ unknown in cc)

same_labels : (m n : FinMap nat_cmp Label) (count : ℕ) → ((s : ℕ) → map.contains_key m s ≡ nat_lt s count) → ((s : ℕ) → map.contains_key n s ≡ nat_lt s count)
    → ((s : ℕ) → s < count → map.get n s ≡ map.get m s) → n ≡ m
same_labels m n count first second same =
    same_map nat_cmp_total nat_cmp-IsAntisymmetric n m
    (λ s. by_count count s (map.get n s ≡ map.get m s) (same s)
    (λ above. unknown_get n s (second s ∙ above) ∙ sym (unknown_get m s (first s ∙ above))))

pub untrusted : (t : FinSet nat_cmp) (s : ℕ) (known : Bool) → known ≡ false → (IsTrue (set.contains t s) → IsTrue known) → set.contains t s ≡ false
untrusted t s known unknown within = from (set.contains t s) refl where
  from : (b : Bool) → set.contains t s ≡ b → set.contains t s ≡ false
  from false is = is
  from true is = absurd (let no : true ≡ false = sym (within is) ∙ unknown in cc)

same_trusted : (v w : State) (count : ℕ) → ((s : ℕ) → is_subject v s ≡ nat_lt s count) → ((s : ℕ) → is_subject w s ≡ nat_lt s count)
    → HasWholeTables v → HasWholeTables w → ((s : ℕ) → s < count → set.contains w.trusted s ≡ set.contains v.trusted s) → w.trusted ≡ v.trusted
same_trusted v w count first second whole others same =
    same_set nat_cmp_total nat_cmp-IsAntisymmetric w.trusted v.trusted
    (λ s. by_count count s (set.contains w.trusted s ≡ set.contains v.trusted s) (same s)
    (λ above. untrusted w.trusted s (is_subject w s) (second s ∙ above) (others.trusted s)
    ∙ sym (untrusted v.trusted s (is_subject v s) (first s ∙ above) (whole.trusted s))))

-- numbers below which there are the same numbers are one
pub one_count : (m n : ℕ) → ((s : ℕ) → nat_lt s m ≡ nat_lt s n) → m ≡ n
one_count m n same = from (cases_lt m n) (cases_lt n m) where
  from : (m < n) ⊎ (n ≤ m) → (n < m) ⊎ (m ≤ n) → m ≡ n
  from (inl less) other =
      let within : nat_lt m n ≡ true = grind (arith, nat_tests, less) in
      let past : nat_lt m m ≡ false = grind (arith, nat_tests) in
      absurd (let no : true ≡ false = sym within ∙ sym (same m) ∙ past in cc)
  from (inr more) (inl less) =
      let within : nat_lt n m ≡ true = grind (arith, nat_tests, less) in
      let past : nat_lt n n ≡ false = grind (arith, nat_tests) in
      absurd (let no : true ≡ false = sym within ∙ same n ∙ past in cc)
  from (inr more) (inr less) = omega (arith, more, less)

-- where the subjects are fixed each is
pub fixed_at : (v w : State) (s : ℕ) → HasFixedSubjects v w → IsFixedSubject v w s
fixed_at v w s fixed = record {
  maximum = ap (λ m. map.get m s) fixed.maximum;
  integrity = ap (λ m. map.get m s) fixed.integrity;
  trusted = ap (λ t. set.contains t s) fixed.trusted;
}

-- a number below the count is that of a subject
pub known_below : (v : State) (count q s : ℕ) → ((s : ℕ) → is_subject v s ≡ nat_lt s count) → q ≡ s → s < count → is_subject v q ≡ true
known_below v count q s known is below =
    let within : nat_lt s count ≡ true = grind (arith, nat_tests, below) in
    ap (is_subject v) is ∙ known s ∙ within

-- states with the same subjects have as many
pub counts_alike : (v w : State) (first second : ℕ) → ((s : ℕ) → is_subject v s ≡ nat_lt s first) → ((s : ℕ) → is_subject w s ≡ nat_lt s second)
    → HasFixedSubjects v w → second ≡ first
counts_alike v w first second known others fixed =
    one_count second first (λ s. sym (others s) ∙ ap (λ m. map.contains_key m s) fixed.maximum ∙ known s)

-- states with as many subjects, each of which is the same, have the same subjects
pub subjects_same : (v w : State) (count : ℕ) → ((s : ℕ) → is_subject v s ≡ nat_lt s count) → ((s : ℕ) → is_subject w s ≡ nat_lt s count)
    → HasWholeTables v → HasWholeTables w → ((s : ℕ) → s < count → IsSameSubject v w s) → HasSameSubjects v w
subjects_same v w count first second whole others same = record {
  maximum = same_labels v.maximum w.maximum count first second (λ s below. (same s below).maximum);
  current = same_labels v.current w.current count (λ s. whole.current s ∙ first s) (λ s. others.current s ∙ second s) (λ s below. (same s below).current);
  integrity = same_labels v.subject_integrity w.subject_integrity count (λ s. whole.subject_integrity s ∙ first s) (λ s. others.subject_integrity s ∙ second s)
      (λ s below. (same s below).integrity);
  trusted = same_trusted v w count first second whole others (λ s below. (same s below).trusted);
}

-- states with as many subjects, each of which is fixed, have the same subjects but for their current labels
pub subjects_fixed : (v w : State) (count : ℕ) → ((s : ℕ) → is_subject v s ≡ nat_lt s count) → ((s : ℕ) → is_subject w s ≡ nat_lt s count)
    → HasWholeTables v → HasWholeTables w → ((s : ℕ) → s < count → IsFixedSubject v w s) → HasFixedSubjects v w
subjects_fixed v w count first second whole others same = record {
  maximum = same_labels v.maximum w.maximum count first second (λ s below. (same s below).maximum);
  integrity = same_labels v.subject_integrity w.subject_integrity count (λ s. whole.subject_integrity s ∙ first s) (λ s. others.subject_integrity s ∙ second s)
      (λ s below. (same s below).integrity);
  trusted = same_trusted v w count first second whole others (λ s below. (same s below).trusted);
}
