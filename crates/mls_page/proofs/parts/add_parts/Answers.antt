use Rattle.std.proofs.Common.{◌∙◌, ap}
use Rattle.mls_page.specs.Parts.{with_part}
use Rattle.mls_page.specs.declared.parts.Part.{Part}
use Rattle.mls_page.proofs.InTurn.{part_next}
use Rattle.mls_page.proofs.parts.add_parts.Goals as goal

pub loop-part-preserved : goal.loop-part-preserved
loop-part-preserved c =
    part_next c.args.page.now c.loop-part.page c.add_part.new.page c.args.parts.now c.loop-part.part-index c.part-item.result
    c.loop-part-test.true c.loop-part.invariant
    (c.in_ok-add_part.ensures ∙ ap (λ (p : Part). with_part c.loop-part.page p) c.part-item.is)
