use Rattle.std.proofs.Common.{◌<◌, length, sym, arith}
use Rattle.mls_c.specs.Batches.{pair_number}
use Rattle.mls_c.proofs.Batches.{none_at, reply_more}
use Rattle.mls_c.proofs.batch.put_in.Goals as goal

pub returns-in_default : goal.returns-in_default
returns-in_default c =
    none_at (pair_number c.args.standing.now c.args.subject c.args.mode) c.args.pairs.now c.loop-k.k _ c.loop-k-test.true (sym c.in_default.ensures)

pub loop-k-preserved : goal.loop-k-preserved
loop-k-preserved c =
    let room : c.loop-k.k < length c.loop-k.replies = omega arith in
    reply_more (pair_number c.args.standing.now c.args.subject c.args.mode) c.args.pairs.now c.loop-k.replies c.loop-k.k _ c.in-Some.number c.loop-k-test.true room
    (sym c.in-Some.ensures) c.loop-k.invariant
