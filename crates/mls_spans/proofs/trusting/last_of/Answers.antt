use Rattle.mls_spans.proofs.TrustUses.{last_next}
use Rattle.mls_spans.proofs.trusting.last_of.Goals as goal

pub loop-entry-preserved : goal.loop-entry-preserved
loop-entry-preserved c =
    last_next c.args.s c.args.entries.now c.loop-entry.entry-index c.entry-item.result c.loop-entry.last _ c.loop-entry-test.true c.entry-item.is
    c.loop-entry.invariant c.last_with-last.ensures
