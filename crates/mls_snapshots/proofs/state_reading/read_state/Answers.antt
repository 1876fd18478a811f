use Rattle.std.proofs.Common.{◌≡◌, ◌≤◌, nat_lt, true, false, sym, subst, ◌∙◌, arith}
use Rattle.std.proofs.lemmas.Bool.Decides.{nat_tests}
use Rattle.mls_state.specs.Properties.{IsSecure}
use Rattle.mls_state.specs.State.{State as StateView, is_subject}
use Rattle.mls_snapshots.specs.Reading.{IsOver}
use Rattle.mls_snapshots.specs.declared.read_fault.ReadStateFault.TheVariants.{Memory}
use Rattle.mls_snapshots.proofs.TextRead.{is_text, with_bytes, err_when}
use Rattle.mls_snapshots.proofs.state_reading.read_state.Goals as goal

pub returns-in_default-clause-reads : goal.returns-in_default-clause-reads
returns-in_default-clause-reads c = λ v of secure.
    absurd (c.in_default.ensures.cases.0 (is_text c.args.names.now c.args.start.now v c.args.bytes.now of c.words_are_seen.ensures))

pub returns-in-Ok-true-clause-reads : goal.returns-in-Ok-true-clause-reads
returns-in-Ok-true-clause-reads c = λ v of secure.
    let least : 1 ≤ c.subject_count.result = c.subject_count.ensures.least in
    let some : nat_lt 0 c.subject_count.result ≡ true = grind (arith, nat_tests, least) in
    let first : is_subject c.args.start.now 0 ≡ true = c.subject_count.ensures.count 0 ∙ some in
    let same : c.in_ok-state.state ≡ v =
    c.in_ok-state.ensures.state c.args.start.now v first (with_bytes c.args.names.now c.args.start.now v c.in-Ok.text.now c.args.bytes.now c.in-Ok.ensures.cases.0 of) in
    err_when c.begin.result (IsSecure c.in_ok-state.state) (λ fault. fault ≡ Memory) c.begin.ensures.accepted (subst IsSecure (sym same) secure)

pub returns-in-Ok-false-clause-reads : goal.returns-in-Ok-false-clause-reads
returns-in-Ok-false-clause-reads c = λ v of secure.
    let least : 1 ≤ c.subject_count.result = c.subject_count.ensures.least in
    let some : nat_lt 0 c.subject_count.result ≡ true = grind (arith, nat_tests, least) in
    let first : is_subject c.args.start.now 0 ≡ true = c.subject_count.ensures.count 0 ∙ some in
    let same : c.in_ok-state.state ≡ v =
    c.in_ok-state.ensures.state c.args.start.now v first (with_bytes c.args.names.now c.args.start.now v c.in-Ok.text.now c.args.bytes.now c.in-Ok.ensures.cases.0 of) in
    let over : IsOver c.args.start.now c.in_ok-state.state = subst (λ (w : StateView). IsOver c.args.start.now w) (sym same) of.over in
    absurd (let no : true ≡ false = sym (c.in-Ok-false.ensures.accepted over) ∙ c.in-Ok-false.field-0-test in cc)
