use Rattle.std.proofs.Common.{rules, ◌≡◌, None, Some, sym, ◌∙◌}
use Rattle.mls_snapshots.specs.declared.read_fault.ReadStateFault.TheVariants.{Memory}
use Rattle.mls_snapshots.proofs.RowsOf.{rows_of}
use Rattle.mls_snapshots.proofs.TextRead.{rows_within, rows_text, is_named, all_said}
use Rattle.mls_snapshots.proofs.state_reading.read_lines.Goals as goal

pub returns-in_err-rows-clause-accepted : goal.returns-in_err-rows-clause-accepted
returns-in_err-rows-clause-accepted c = λ start v first of.
    let names = c.args.names.now in
    let text = c.args.text.now in
    let fault : c.in_err-rows.field-0.0 ≡ Memory =
    c.in_err-rows.ensures.fault (rows_of v) of.named.has (rows_within names start v text of) (rows_text names start v text of) in
    search rules

pub returns-in-Ok-Some-clause-state : goal.returns-in-Ok-Some-clause-state
returns-in-Ok-Some-clause-state c = λ start v first of.
    let names = c.args.names.now in
    let text = c.args.text.now in
    let says = c.in_ok-rows.ensures.said (rows_of v) of.named.has (rows_within names start v text of) (rows_text names start v text of) in
    let rebuilt = c.in-Ok-Some.ensures v (is_named names start v text of first) (all_said names start v text of c.in_ok-rows.rows says) in
    search rules

pub returns-in-Ok-None-clause-accepted : goal.returns-in-Ok-None-clause-accepted
returns-in-Ok-None-clause-accepted c = λ start v first of.
    let names = c.args.names.now in
    let text = c.args.text.now in
    let says = c.in_ok-rows.ensures.said (rows_of v) of.named.has (rows_within names start v text of) (rows_text names start v text of) in
    let rebuilt : c.in-Ok-None.field-0 ≡ Some v = c.in-Ok-None.ensures v (is_named names start v text of first) (all_said names start v text of c.in_ok-rows.rows says) in
    absurd (let no : None ≡ Some v = sym c.in-Ok-None.field-0-is ∙ rebuilt in cc)
