use Rattle.std.proofs.Common.{rules, ◌≡◌, [], ap, ◌∙◌}
use Rattle.std.specs.List.{flat_map, range_with_len}
use Rattle.mls_tables.specs.declared.limits.TheConstants.{MAX_SUBJECTS}
use Rattle.mls_spans.specs.Kept.{is_there, usage_told, usages_told}
use Rattle.mls_spans.specs.Uses.{accesses_by}
use Rattle.mls_spans.proofs.UsageRows.{rows_more}
use Rattle.mls_spans.proofs.usage.usages_by.Goals as goal

pub loop-s-preserved : goal.loop-s-preserved
loop-s-preserved c =
    let v = c.args.first.now in
    let m = c.args.tally.now in
    rows_more (is_there v m) (usage_told v m) (accesses_by v) c.loop-s.s [] c.loop-s.usages.items c.push_subject.new.usages.items
    c.loop-s.invariant c.in_ok-push_subject.ensures

pub returns : goal.returns
returns c =
    let all : c.loop-s.s ≡ MAX_SUBJECTS = search rules in
    c.loop-s.invariant
    ∙ ap (λ k. usages_told c.args.first.now c.args.tally.now (flat_map (accesses_by c.args.first.now) (range_with_len 0 k))) all
