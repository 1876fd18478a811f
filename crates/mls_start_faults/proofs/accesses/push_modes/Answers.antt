use Rattle.std.proofs.Common.{◌++◌, ◌∙◌, ap, arith, map}
use Rattle.mls_start_faults.proofs.Each.{one_more_seen}
use Rattle.mls_start_faults.specs.Accesses.{access_place}
use Rattle.mls_start_text.specs.Views.{text_view}
use Rattle.mls_start_faults.specs.Places.{located_view}
use Rattle.mls_start_faults.proofs.accesses.push_modes.Goals as goal

pub loop-k-preserved : goal.loop-k-preserved
loop-k-preserved c =
    one_more_seen text_view (access_place c.args.state.now c.args.pair.now.subject c.args.pair.now.object c.args.pair.now.row) 0 c.args.words.now c.loop-k.k c.index-words-k.result c.loop-k.k _ _ _ c.loop-k-test.true (omega arith) c.loop-k.invariant (c.in_ok-push_access.ensures ∙ ap (λ x. map located_view c.loop-k.found.items ++ access_place c.args.state.now c.args.pair.now.subject c.args.pair.now.object c.args.pair.now.row c.loop-k.k (text_view x)) c.index-words-k.is)
