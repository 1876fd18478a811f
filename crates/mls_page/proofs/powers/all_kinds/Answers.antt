use Rattle.std.proofs.Common.{◌≤◌, ◌∙◌, ap, arith, length, List}
use Rattle.std.specs.Borrow.{Bor}
use Rattle.mls_markup.specs.Drafts.{added}
use Rattle.mls_markup.specs.Trees.{Forest, all_of}
use Rattle.mls_markup.proofs.Laws.{row_next}
use Rattle.mls_page.specs.Powers.{kind_items}
use Rattle.mls_page.proofs.Listed.{all_lent, take_all}
use Rattle.mls_page.proofs.powers.all_kinds.Goals as goal
use Rattle.mls_review.specs.declared.change.Change.{Change}

pub loop-run-preserved : goal.loop-run-preserved
loop-run-preserved c =
    let shown : Bor (List Change) → Forest = λ run. kind_items c.args.names.now run.now in
    row_next c.args.page.now c.loop-run.page c.kind_items.new.page shown c.args.runs.now c.loop-run.run-index c.run-item.result
    c.loop-run-test.true c.loop-run.invariant (c.in_ok-kind_items.ensures ∙ ap (λ (r : Bor (List Change)). added c.loop-run.page (shown r)) c.run-item.is)

pub returns : goal.returns
returns c =
    let shown : Bor (List Change) → Forest = λ run. kind_items c.args.names.now run.now in
    let over : length c.args.runs.now ≤ c.loop-run.run-index = omega arith in
    c.loop-run.invariant ∙ ap (λ (rs : List (Bor (List Change))). added c.args.page.now (all_of shown rs)) (take_all c.args.runs.now c.loop-run.run-index over)
    ∙ ap (added c.args.page.now) (all_lent (kind_items c.args.names.now) c.args.runs.now)
