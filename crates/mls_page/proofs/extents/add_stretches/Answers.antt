use Rattle.std.proofs.Common.{◌∙◌, ap}
use Rattle.mls_markup.specs.Drafts.{added}
use Rattle.mls_markup.proofs.Laws.{row_next}
use Rattle.mls_page.specs.Held.{span_stretch}
use Rattle.mls_page.proofs.extents.add_stretches.Goals as goal
use Rattle.mls_spans.specs.declared.span.Span.{Span}

pub loop-span-preserved : goal.loop-span-preserved
loop-span-preserved c =
    let shown = span_stretch c.args.entries in
    row_next c.args.page.now c.loop-span.page c.span_stretch.new.page shown c.args.spans.now c.loop-span.span-index c.span-item.result
    c.loop-span-test.true c.loop-span.invariant (c.in_ok-span_stretch.ensures ∙ ap (λ (s : Span). added c.loop-span.page (shown s)) c.span-item.is)
