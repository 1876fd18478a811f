use Rattle.std.proofs.Common.{◌≡◌, List, subst, ap, ◌∙◌}
use Rattle.std.specs.Prelude.{IfOk}
use Rattle.mls_requests.specs.declared.entry.Entry.{Entry}
use Rattle.mls_spans.proofs.Usages.{told_usages}
use Rattle.mls_spans.specs.Kept.{usages_told}
use Rattle.mls_spans.specs.UsageListings.{entries_between}
use Rattle.mls_spans.specs.Uses.{all_accesses}
use Rattle.mls_spans.proofs.using.usages_walked.Goals as goal

pub returns : goal.returns
returns c =
    let entries : List Entry = entries_between c.args.states c.args.replay.now.entries in
    subst (λ l. IfOk c.usages_by-usages.result (λ usages. usages.items ≡ l))
    (ap (λ v. usages_told v c.in_ok-tally.tally (all_accesses v)) c.state.ensures.state
    ∙ told_usages c.args.replay.now.state entries c.in_ok-tally.tally c.in_ok-tally.ensures)
    c.usages_by-usages.ensures
