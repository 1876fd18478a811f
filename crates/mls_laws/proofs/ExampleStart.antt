-- The start of the examples: nothing is wrong with its rows, and what its tables have.
use Rattle.std.proofs.Common.{◌≡◌, ℕ, Bool, true, false, not, ◌&&◌, [], Option, Some, None, nat_lt, refl, ◌∙◌, arith}
use Rattle.std.specs.Prelude.{slice_get, option_and_then, if◌then◌else◌}
use Rattle.std.specs.List.{list_any, list_all}
use Rattle.std.specs.FinSet as set
use Rattle.std.specs.FinMap as map
use Rattle.mls_facts.specs.Each.{each}
use Rattle.mls_facts.specs.Numbered.{holds_of}
use Rattle.mls_facts.proofs.Each.{each-from_list}
use Rattle.mls_facts.proofs.Numbered.{get-numbered}
use Rattle.mls_facts.proofs.Passing.{contains-passing}
use Rattle.mls_labels.specs.Label.{has_label}
use Rattle.mls_tables.specs.Triples.{Triple, triple_cmp, is_triple}
use Rattle.mls_tables.proofs.Laws.{triples_total, same_triple, contains-from_list-triple}
use Rattle.mls_tree.specs.declared.profile.Profile.TheVariants.{One}
use Rattle.mls_state.specs.declared.subject.Subject.{Subject}
use Rattle.mls_state.specs.declared.subject.ObjectLabels.{ObjectLabels}
use Rattle.mls_state.specs.State.{State, is_subject, is_active}
use Rattle.mls_state.specs.Audit.{access_holds}
use Rattle.mls_state.specs.Properties.{IsSecure}
use Rattle.mls_state.specs.declared.start_fault.StartFault.{StartFault}
use Rattle.mls_state.specs.declared.start_fault.StartFault.TheVariants.{BadLabel, BadParent, CurrentAboveMaximum, NotCompatible, IntegrityAboveParent, NoSuchCell, NotSecure}
use Rattle.mls_start.specs.Rows.{labels_of, parents_of, opening}
use Rattle.mls_start.specs.StartFaults.{start_fault, labels_fit, parents_before, current_fits, security_fits, integrity_fits, is_cell}
use Rattle.mls_start.proofs.Laws.{subject_opening, active_opening, faultless, from_faultless, secure_opening}
use Rattle.mls_laws.specs.Examples.{plain, example_rows, example_subjects, example_objects, example_cells}
use Rattle.mls_laws.proofs.Plain.{plain_dominates, plain_within}

secrets : (n : ℕ) → has_label example_rows.security (plain n) ≡ nat_lt n 4
secrets n = plain_within example_rows.security n

trusts : (n : ℕ) → has_label example_rows.integrity (plain n) ≡ nat_lt n 2
trusts n = plain_within example_rows.integrity n

all_within : labels_fit example_rows ≡ true
all_within = λ i.
    ((secrets 2 i && (secrets 2 i && trusts 1 i))
    && ((secrets 1 i && (secrets 0 i && trusts 1 i))
    && ((secrets 3 i && (secrets 3 i && trusts 1 i)) && true)))
    && ((secrets 0 i && trusts 1 i)
    && ((secrets 2 i && trusts 1 i)
    && ((secrets 1 i && trusts 1 i) && ((secrets 0 i && trusts 0 i) && true))))

currents : list_all current_fits example_subjects ≡ true
currents = λ i. plain_dominates 2 2 i && (plain_dominates 1 0 i && (plain_dominates 3 3 i && true))

compatible : list_all (security_fits (labels_of example_rows)) example_objects ≡ true
compatible = λ i. plain_dominates 2 0 i && (plain_dominates 1 0 i && (plain_dominates 0 0 i && true))

integrities : list_all (integrity_fits (labels_of example_rows)) example_objects ≡ true
integrities = λ i. plain_dominates 1 1 i && (plain_dominates 1 1 i && (plain_dominates 1 0 i && true))

cells : each example_rows.cells (is_cell 3 4) ≡ true
cells = each-from_list triples_total same_triple (is_cell 3 4) example_cells

no_access : (p : Triple → Bool) → each {R = triple_cmp} example_rows.accesses p ≡ true
no_access p = each-from_list triples_total same_triple p []

pub nothing_wrong : start_fault example_rows ≡ None
nothing_wrong = from_faultless example_rows (record {
  some = omega arith;
  few = omega arith;
  room = omega arith;
  labels = all_within;
  parents = refl;
  currents = currents;
  security = compatible;
  integrity = integrities;
  cells = cells;
  accesses = no_access (is_cell 3 4);
  secure = no_access (access_holds (opening example_rows));
})

abbrev pub start : State
start = opening example_rows

pub start_secure : IsSecure start
start_secure = secure_opening example_rows (faultless example_rows nothing_wrong)

pub maximum_at : (s : ℕ) → map.get start.maximum s ≡ option_and_then (λ (r : Subject). Some r.maximum) (slice_get example_subjects s)
unfolding opening
maximum_at s = get-numbered (λ (r : Subject). Some r.maximum) example_subjects s

pub current_at : (s : ℕ) → map.get start.current s ≡ option_and_then (λ (r : Subject). Some r.current) (slice_get example_subjects s)
unfolding opening
current_at s = get-numbered (λ (r : Subject). Some r.current) example_subjects s

pub own_integrity_at : (s : ℕ) → map.get start.subject_integrity s ≡ option_and_then (λ (r : Subject). Some r.integrity) (slice_get example_subjects s)
unfolding opening
own_integrity_at s = get-numbered (λ (r : Subject). Some r.integrity) example_subjects s

pub label_at : (o : ℕ) → map.get start.object_label o ≡ option_and_then (λ (r : ObjectLabels). Some r.security) (slice_get (labels_of example_rows) o)
unfolding opening
label_at o = get-numbered (λ (r : ObjectLabels). Some r.security) (labels_of example_rows) o

pub integrity_at : (o : ℕ) → map.get start.object_integrity o ≡ option_and_then (λ (r : ObjectLabels). Some r.integrity) (slice_get (labels_of example_rows) o)
unfolding opening
integrity_at o = get-numbered (λ (r : ObjectLabels). Some r.integrity) (labels_of example_rows) o

pub parent_at : (o : ℕ) → map.get start.parent o ≡ option_and_then (λ e. e) (slice_get (parents_of example_rows) o)
unfolding opening
parent_at o = get-numbered (λ (e : Option ℕ). e) (parents_of example_rows) o

pub trusted_at : (s : ℕ) → set.contains start.trusted s ≡ (nat_lt s 3 && holds_of (λ (r : Subject). r.trusted) (slice_get example_subjects s))
unfolding opening
trusted_at s = contains-passing (λ k. holds_of (λ (r : Subject). r.trusted) (slice_get example_subjects k)) 3 s

pub permitted_at : (t : Triple) → set.contains start.matrix t ≡ list_any (λ u. is_triple u t) example_cells
unfolding opening
permitted_at t = contains-from_list-triple example_cells t

pub accessed_at : (t : Triple) → set.contains start.accesses t ≡ false
unfolding opening
accessed_at t = set.contains-empty triple_cmp t

pub next_at : start.next ≡ 4
unfolding opening
next_at = refl

pub profile_is : start.profile ≡ One
unfolding opening
profile_is = refl

pub security_is : start.security ≡ record { levels = 4; categories = 0 }
unfolding opening
security_is = refl

pub integrity_is : start.integrity ≡ record { levels = 2; categories = 0 }
unfolding opening
integrity_is = refl

pub subject_at : (s : ℕ) → is_subject start s ≡ nat_lt s 3
subject_at s = subject_opening example_rows s

pub active_at : (o : ℕ) → is_active start o ≡ nat_lt o 4
active_at o = active_opening example_rows o

pub known : (s o : ℕ) → (nat_lt s 3 && nat_lt o 4) ≡ true → (is_subject start s && is_active start o) ≡ true
known s o are = (λ i. subject_at s i && active_at o i) ∙ are
