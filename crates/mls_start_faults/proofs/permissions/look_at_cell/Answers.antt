use Rattle.std.proofs.Common.{ap, map, ◌∙◌}
use Rattle.mls_start_text.specs.Views.{text_view, cell_view}
use Rattle.mls_start_faults.proofs.Looked.{one_more_step}
use Rattle.mls_start_faults.specs.Permissions.{mode_looked}
use Rattle.mls_start_faults.specs.Places.{located_view}
use Rattle.mls_start_faults.proofs.permissions.look_at_cell.Goals as goal

pub loop-k-preserved : goal.loop-k-preserved
loop-k-preserved c =
    one_more_step text_view (mode_looked c.args.row (cell_view c.args.cell.now)) c.args.cell.now.modes.now c.loop-k.k c.word-item.result _ _ _ c.loop-k-test.true c.loop-k.invariant
    (c.in_ok-look_at_mode.ensures
    ∙ ap (λ x. mode_looked c.args.row (cell_view c.args.cell.now) c.loop-k.k (text_view x) (map located_view c.loop-k.found.items, c.loop-k.seen)) c.word-item.is)
