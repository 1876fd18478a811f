-- Something flows, and something doesn't, in states that the start of the examples leads to.
use Rattle.std.proofs.Common.{◌≡◌, ℕ, Bool, true, false, ◌||◌, List, [], ◌∷◌, refl, sym, ap, subst, ◌∙◌}
use Rattle.std.proofs.lemmas.Bool.{and_from, or_right}
use Rattle.std.specs.FinSet as set
use Rattle.std.specs.FinMap as map
use Rattle.mls_tables.specs.declared.mode.Mode.TheVariants.{Read, Write}
use Rattle.mls_requests.specs.declared.action.Action.TheVariants.{Get}
use Rattle.mls_requests.specs.declared.request.Request.{Request}
use Rattle.mls_state.specs.State.{State, is_above}
use Rattle.mls_state.specs.Properties.{IsSecure}
use Rattle.mls_rules.specs.Rules.{change, after}
use Rattle.mls_rules.proofs.Laws.{after_secure}
use Rattle.mls_laws.specs.Journals.{run}
use Rattle.mls_laws.specs.Flow.{Flows, Feeds}
use Rattle.mls_laws.proofs.FlowLabels.{step_up}
use Rattle.mls_laws.proofs.Plain.{plain_above}
use Rattle.mls_laws.proofs.ExampleStart.{start, maximum_at, current_at, own_integrity_at, label_at, integrity_at, trusted_at, permitted_at, known, start_secure}
use Rattle.mls_laws.proofs.Replied.{changes, in_it, in_still, writes_plans}

pub run_secure : (v : State) (requests : List Request) → IsSecure v → IsSecure (run v requests)
run_secure v [] h = h
run_secure v (r ∷ requests) h = run_secure (after v r) requests (after_secure v r h)

-- where nothing flows, since it would flow down
down : (v : State) (a b : ℕ) → IsSecure v → is_above (map.get v.object_label b) (map.get v.object_label a) ≡ false → Flows v a b → ⊥
down v a b h below flows = let up : is_above (map.get v.object_label b) (map.get v.object_label a) ≡ true = step_up v h a b flows in cc

-- ann reads the root and writes plans
abbrev reads_root : Request
reads_root = record { subject = 0; action = Get Read 0 }

abbrev one : State
one = change start 0 (Get Read 0)

abbrev two : State
two = change one 0 (Get Write 1)

one_is : after start reads_root ≡ one
one_is = changes start reads_root (known 0 0 refl) (
  permitted_at (0, 0, Read),
  (
    (λ i. is_above (maximum_at 0 i) (label_at 0 i)) ∙ plain_above 2 0,
    (
      or_right (set.contains start.trusted 0) _ ((λ i. is_above (current_at 0 i) (label_at 0 i)) ∙ plain_above 2 0),
      (and_from _ true ((λ i. is_above (integrity_at 0 i) (own_integrity_at 0 i)) ∙ plain_above 1 1) refl, tt),
    ),
  ),
) refl

two_is : after one writes_plans ≡ two
two_is = changes one writes_plans (known 0 1 refl) (
  permitted_at (0, 1, Write),
  (
    (λ i. is_above (maximum_at 0 i) (label_at 1 i)) ∙ plain_above 2 2,
    (
      or_right (set.contains start.trusted 0) _
          (and_from _ _ ((λ i. is_above (label_at 1 i) (current_at 0 i)) ∙ plain_above 2 2) ((λ i. is_above (current_at 0 i) (label_at 1 i)) ∙ plain_above 2 2)),
      (
        and_from _ _ ((λ i. is_above (integrity_at 1 i) (own_integrity_at 0 i)) ∙ plain_above 1 1) ((λ i. is_above (own_integrity_at 0 i) (integrity_at 1 i)) ∙ plain_above 1 1),
        tt,
      ),
    ),
  ),
) refl

both_are : run start (reads_root ∷ writes_plans ∷ []) ≡ two
both_are = ap (λ v. after v writes_plans) one_is ∙ two_is

flows : Flows two 0 1
flows = record {
  subject = 0;
  seen_in = Read;
  altered_in = Write;
  untrusted = trusted_at 0;
  holds_first = in_still (set.insert start.accesses (0, 0, Read)) (0, 1, Write) (0, 0, Read) (in_it start.accesses (0, 0, Read));
  observes = refl;
  holds_second = in_it (set.insert start.accesses (0, 0, Read)) (0, 1, Write);
  alters = refl;
}

pub flows_up : (requests : List Request) × IsSecure (run start requests) × Flows (run start requests) 0 1 × (Flows (run start requests) 1 0 → ⊥)
flows_up =
    let secure : IsSecure (run start (reads_root ∷ writes_plans ∷ [])) = run_secure start (reads_root ∷ writes_plans ∷ []) start_secure in
    let label : is_above (map.get (run start (reads_root ∷ writes_plans ∷ [])).object_label 0) (map.get (run start (reads_root ∷ writes_plans ∷ [])).object_label 1) ≡ false =
    ap (λ (v : State). is_above (map.get v.object_label 0) (map.get v.object_label 1)) both_are ∙ (λ i. is_above (label_at 0 i) (label_at 1 i)) ∙ plain_above 0 2 in
    (reads_root ∷ writes_plans ∷ [], secure, subst (λ v. Flows v 0 1) (sym both_are) flows, down (run start (reads_root ∷ writes_plans ∷ [])) 1 0 secure label)

-- sec, who is trusted, reads memo and writes the root
abbrev sec_reads : Request
sec_reads = record { subject = 2; action = Get Read 2 }

abbrev sec_writes : Request
sec_writes = record { subject = 2; action = Get Write 0 }

abbrev three : State
three = change start 2 (Get Read 2)

abbrev four : State
four = change three 2 (Get Write 0)

exempt : (b c : Bool) → b ≡ true → (b || c) ≡ true
exempt b c is = ap (λ d. d || c) is

three_is : after start sec_reads ≡ three
three_is = changes start sec_reads (known 2 2 refl) (
  permitted_at (2, 2, Read),
  (
    (λ i. is_above (maximum_at 2 i) (label_at 2 i)) ∙ plain_above 3 1,
    (
      exempt (set.contains start.trusted 2) _ (trusted_at 2),
      (and_from _ true ((λ i. is_above (integrity_at 2 i) (own_integrity_at 2 i)) ∙ plain_above 1 1) refl, tt),
    ),
  ),
) refl

four_is : after three sec_writes ≡ four
four_is = changes three sec_writes (known 2 0 refl) (
  permitted_at (2, 0, Write),
  (
    (λ i. is_above (maximum_at 2 i) (label_at 0 i)) ∙ plain_above 3 0,
    (
      exempt (set.contains start.trusted 2) _ (trusted_at 2),
      (
        and_from _ _ ((λ i. is_above (integrity_at 0 i) (own_integrity_at 2 i)) ∙ plain_above 1 1) ((λ i. is_above (own_integrity_at 2 i) (integrity_at 0 i)) ∙ plain_above 1 1),
        tt,
      ),
    ),
  ),
) refl

all_four : run start (sec_reads ∷ sec_writes ∷ []) ≡ four
all_four = ap (λ v. after v sec_writes) three_is ∙ four_is

feeds : Feeds four 2 0
feeds = record {
  subject = 2;
  used_in = Read;
  altered_in = Write;
  holds_first = in_still (set.insert start.accesses (2, 2, Read)) (2, 0, Write) (2, 2, Read) (in_it start.accesses (2, 2, Read));
  uses = refl;
  holds_second = in_it (set.insert start.accesses (2, 2, Read)) (2, 0, Write);
  alters = refl;
}

pub feeds_only : (requests : List Request) × IsSecure (run start requests) × Feeds (run start requests) 2 0 × (Flows (run start requests) 2 0 → ⊥)
feeds_only =
    let secure : IsSecure (run start (sec_reads ∷ sec_writes ∷ [])) = run_secure start (sec_reads ∷ sec_writes ∷ []) start_secure in
    let label : is_above (map.get (run start (sec_reads ∷ sec_writes ∷ [])).object_label 0) (map.get (run start (sec_reads ∷ sec_writes ∷ [])).object_label 2) ≡ false =
    ap (λ (v : State). is_above (map.get v.object_label 0) (map.get v.object_label 2)) all_four ∙ (λ i. is_above (label_at 0 i) (label_at 2 i)) ∙ plain_above 0 1 in
    (sec_reads ∷ sec_writes ∷ [], secure, subst (λ v. Feeds v 2 0) (sym all_four) feeds, down (run start (sec_reads ∷ sec_writes ∷ [])) 2 0 secure label)
