use Rattle.std.proofs.Common.{◌≡◌, ◌+◌, ◌++◌, take, drop, map, set, sym, subst, arith}
use Rattle.mls_c.specs.Conditions.{numbers_of_condition}
use Rattle.mls_c.proofs.Rows.{put_more}
use Rattle.mls_c.proofs.explaining.put_rows.Goals as goal

pub loop-k-preserved : goal.loop-k-preserved
loop-k-preserved c =
    subst (λ r. set c.loop-k.rows c.loop-k.k r ≡ map numbers_of_condition (take (c.loop-k.k + 1) c.args.all.now) ++ drop (c.loop-k.k + 1) c.args.rows.now)
    (sym c.of.ensures)
    (put_more numbers_of_condition c.args.all.now c.args.rows.now c.loop-k.rows c.loop-k.k c.index-all-k.result c.loop-k-test.true (omega (arith, c.requires))
    c.loop-k.invariant c.index-all-k.is)
