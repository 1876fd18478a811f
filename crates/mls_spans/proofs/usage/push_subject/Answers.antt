use Rattle.std.proofs.Common.{rules, ◌≡◌, true, false}
use Rattle.mls_state.specs.State.{is_subject}
use Rattle.mls_tables.specs.declared.limits.TheConstants.{MAX_OBJECTS}
use Rattle.mls_spans.specs.Kept.{is_there, usage_told}
use Rattle.mls_spans.specs.Uses.{accesses_on}
use Rattle.mls_spans.proofs.UsageRows.{rows_more}
use Rattle.mls_spans.proofs.Usages.{none_by_unknown, all_by_known}
use Rattle.mls_spans.proofs.usage.push_subject.Goals as goal

pub returns-then-not-is_subject : goal.returns-then-not-is_subject
returns-then-not-is_subject c =
    let unknown : is_subject c.args.first.now c.args.s ≡ false = search rules in
    none_by_unknown c.args.first.now c.args.tally.now c.args.s c.args.usages.now.items unknown

pub loop-o-preserved : goal.loop-o-preserved
loop-o-preserved c =
    let v = c.args.first.now in
    let m = c.args.tally.now in
    rows_more (is_there v m) (usage_told v m) (accesses_on c.args.s) c.loop-o.o c.args.usages.now.items c.loop-o.usages.items
    c.push_object.new.usages.items c.loop-o.invariant c.in_ok-push_object.ensures

pub returns : goal.returns
returns c =
    let known : is_subject c.args.first.now c.args.s ≡ true = search rules in
    let all : c.loop-o.o ≡ MAX_OBJECTS = search rules in
    all_by_known c.args.first.now c.args.tally.now c.args.s c.loop-o.o c.args.usages.now.items c.loop-o.usages.items known all c.loop-o.invariant
