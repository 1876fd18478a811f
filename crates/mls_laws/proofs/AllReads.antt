-- What can be read of a state leaves no choice of the state.
use Rattle.std.proofs.Common.{◌≡◌, ℕ, Bool, true, false, ◌&&◌, Option, Some, None, is_some, refl, sym, ◌∙◌}
use Rattle.std.proofs.lemmas.Bool.{and_parts}
use Rattle.std.specs.Ordering.{nat_cmp}
use Rattle.std.specs.Cmp.{nat_cmp_total}
use Rattle.std.specs.FinSet as set
use Rattle.std.specs.FinMap as map
use Rattle.std.specs.FinMap.{FinMap, nat_cmp-IsAntisymmetric}
use Rattle.mls_tables.specs.Triples.{Triple, TripleSet}
use Rattle.mls_tables.proofs.Laws.{same_triples}
use Rattle.mls_state.specs.State.{State, is_subject, is_active}
use Rattle.mls_state.specs.Properties.{Each, HasTree, HasWholeTables, is_known}
use Rattle.mls_laws.specs.Reads.{ReadsAgree}

none_there : {X : Type 0} (e : Option X) → is_some e ≡ false → e ≡ None
none_there None is = refl
none_there (Some x) is = cc

-- two tables with just the known numbers, which agree at each of these
module _ {X : Type 0} (m n : FinMap nat_cmp X) (known : ℕ → Bool) (first : (k : ℕ) → map.contains_key m k ≡ known k)
    (second : (k : ℕ) → map.contains_key n k ≡ known k) (agree : (k : ℕ) → known k ≡ true → map.get m k ≡ map.get n k) where
  at_each : (k : ℕ) (b : Bool) → known k ≡ b → map.get m k ≡ map.get n k
  at_each k true is = agree k is
  at_each k false is = none_there (map.get m k) (first k ∙ is) ∙ sym (none_there (map.get n k) (second k ∙ is))

  same_table : m ≡ n
  same_table = map.same_map nat_cmp_total nat_cmp-IsAntisymmetric m n (λ k. at_each k (known k) refl)

-- two tests that imply another, and agree where that holds
same_tests : (known a b : Bool) → (a ≡ true → known ≡ true) → (b ≡ true → known ≡ true) → (known ≡ true → a ≡ b) → a ≡ b
same_tests true a b first second agree = agree refl
same_tests false true b first second agree = let wrong : false ≡ true = first refl in cc
same_tests false false true first second agree = let wrong : false ≡ true = second refl in cc
same_tests false false false first second agree = refl

known_too : (b c : Bool) → b ≡ c → c ≡ true → b ≡ true
known_too b c same is = same ∙ is

-- two sets of triples that name what is known, and agree there
same_known : (b c : TripleSet) (known : Triple → Bool) → Each b known → Each c known → ((t : Triple) → known t ≡ true → set.contains b t ≡ set.contains c t) → b ≡ c
same_known b c known first second agree = same_triples b c (λ t. same_tests (known t) (set.contains b t) (set.contains c t) (first t) (second t) (agree t))

has_parent : (e : Option ℕ) (active : Bool) → ((p : ℕ) → e ≡ Some p → active ≡ true) → active ≡ false → e ≡ None
has_parent None active ends is = refl
has_parent (Some p) active ends is = let wrong : active ≡ true = ends p refl in cc

module _ (v w : State) (tv : HasTree v) (tw : HasTree w) (hv : HasWholeTables v) (hw : HasWholeTables w) (reads : ReadsAgree v w) where
  subject : (s : ℕ) → is_subject w s ≡ is_subject v s
  subject s = sym (reads.subjects s)

  object : (o : ℕ) → is_active w o ≡ is_active v o
  object o = sym (reads.objects o)

  trusted : v.trusted ≡ w.trusted
  trusted = set.same_set nat_cmp_total nat_cmp-IsAntisymmetric v.trusted w.trusted (λ s.
      same_tests (is_subject v s) (set.contains v.trusted s) (set.contains w.trusted s) (hv.trusted s)
      (λ there. known_too (is_subject v s) (is_subject w s) (reads.subjects s) (hw.trusted s there)) (reads.trusted s))

  parent_at : (o : ℕ) (b : Bool) → is_active v o ≡ b → map.get v.parent o ≡ map.get w.parent o
  parent_at o true is = reads.parent o is
  parent_at o false is =
      has_parent (map.get v.parent o) (is_active v o) (λ p step. (tv.objects.children_active o p step).0) is
      ∙ sym (has_parent (map.get w.parent o) (is_active w o) (λ p step. (tw.objects.children_active o p step).0) (object o ∙ is))

  parent : v.parent ≡ w.parent
  parent = map.same_map nat_cmp_total nat_cmp-IsAntisymmetric v.parent w.parent (λ o. parent_at o (is_active v o) refl)

  known_in_w : (b : TripleSet) → Each b (is_known w) → Each b (is_known v)
  known_in_w b all t there = (λ i. reads.subjects t.0 i && reads.objects t.1 i) ∙ all t there

  matrix : v.matrix ≡ w.matrix
  matrix = same_known v.matrix w.matrix (is_known v) tv.matrix_known (known_in_w w.matrix tw.matrix_known) (λ t known.
      let both = and_parts (is_subject v t.0) (is_active v t.1) known in reads.allowed t.0 t.1 t.2 both.0 both.1)

  accesses : v.accesses ≡ w.accesses
  accesses = same_known v.accesses w.accesses (is_known v) tv.accesses_known (known_in_w w.accesses tw.accesses_known) (λ t known.
      let both = and_parts (is_subject v t.0) (is_active v t.1) known in reads.accesses t.0 t.1 t.2 both.0 both.1)

  pub same_state : v ≡ w
  same_state i = record {
    accesses = accesses i;
    matrix = matrix i;
    maximum = same_table v.maximum w.maximum (is_subject v) (λ s. refl) subject reads.maximum i;
    current = same_table v.current w.current (is_subject v) hv.current (λ s. hw.current s ∙ subject s) reads.current i;
    subject_integrity = same_table v.subject_integrity w.subject_integrity (is_subject v) hv.subject_integrity (λ s. hw.subject_integrity s ∙ subject s) reads.subject_integrity i;
    trusted = trusted i;
    object_label = same_table v.object_label w.object_label (is_active v) (λ o. refl) object reads.object_label i;
    object_integrity = same_table v.object_integrity w.object_integrity (is_active v) hv.object_integrity (λ o. hw.object_integrity o ∙ object o) reads.object_integrity i;
    parent = parent i;
    profile = reads.profile i;
    next = reads.next i;
    security = reads.security i;
    integrity = reads.integrity i;
  }
