use Rattle.std.proofs.Common.{◌≡◌, sym, ◌∙◌, arith}
use Rattle.mls_remedies.proofs.Granting.{none_more}
use Rattle.mls_remedies.proofs.able.next_able.Goals as goal

pub loop-n-preserved : goal.loop-n-preserved
loop-n-preserved c = record {
  behind = omega (arith, c.loop-n.invariant.behind);
  none =
      none_more c.args.state.now c.args.action.now c.args.from c.loop-n.n c.new-s.result c.new-s.ensures c.loop-n.invariant.none
      (sym c.may.ensures ∙ c.if-may.false);
}
