use Rattle.std.proofs.Common.{◌++◌, ◌∙◌, ap, arith, map}
use Rattle.mls_start_faults.proofs.Each.{one_more_seen}
use Rattle.mls_start_faults.specs.Unknowns.{mode_place}
use Rattle.mls_start_text.specs.Views.{text_view}
use Rattle.mls_start_faults.specs.Places.{located_view}
use Rattle.mls_start_faults.proofs.unknowns.push_modes.Goals as goal

pub loop-k-preserved : goal.loop-k-preserved
loop-k-preserved c =
    one_more_seen text_view (mode_place c.args.list.now c.args.n) 0 c.args.words.now c.loop-k.k c.index-words-k.result c.loop-k.k _ _ _ c.loop-k-test.true (omega arith) c.loop-k.invariant (c.in_ok-push_mode.ensures ∙ ap (λ x. map located_view c.loop-k.found.items ++ mode_place c.args.list.now c.args.n c.loop-k.k (text_view x)) c.index-words-k.is)
