use Rattle.std.proofs.Common.{rules, ◌≡◌, true, false}
use Rattle.mls_state.specs.State.{is_subject}
use Rattle.mls_spans.specs.Kept.{is_there}
use Rattle.mls_spans.proofs.EverRows.{of_known, of_unknown}
use Rattle.mls_spans.proofs.permissions.push_subject.Goals as goal

pub returns-then-not-is_subject : goal.returns-then-not-is_subject
returns-then-not-is_subject c =
    let unknown : is_subject c.args.first.now c.args.s ≡ false = search rules in
    of_unknown (is_there c.args.first.now c.args.tally.now) c.args.asked c.args.first.now c.args.s c.args.o c.args.found.now.items unknown

pub returns : goal.returns
returns c =
    let known : is_subject c.args.first.now c.args.s ≡ true = search rules in
    of_known (is_there c.args.first.now c.args.tally.now) c.args.asked c.args.first.now c.args.s c.args.o _ _ _ _ _ known
    c.in_ok-push_mode.ensures c.in_ok-push_mode-2.ensures c.in_ok-push_mode-3.ensures c.in_ok-push_mode-4.ensures
