use Rattle.mls_spans.specs.Kept.{is_there, usage_told}
use Rattle.mls_spans.proofs.UsageRows.{four_rows}
use Rattle.mls_spans.proofs.usage.push_object.Goals as goal

pub returns : goal.returns
returns c =
    let v = c.args.first.now in
    let m = c.args.tally.now in
    four_rows (is_there v m) (usage_told v m) c.args.s c.args.o _ _ _ _ _ c.in_ok-push_access.ensures c.in_ok-push_access-2.ensures
    c.in_ok-push_access-3.ensures c.in_ok-push_access-4.ensures
