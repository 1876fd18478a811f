use Rattle.std.proofs.Common.{None}
use Rattle.mls_compare.proofs.Refusals.{coulds_told, comparison_refuses}
use Rattle.mls_compare.proofs.coulds.compare_could.Goals as goal

pub returns-in-Ok-clause-ok : goal.returns-in-Ok-clause-ok
returns-in-Ok-clause-ok c =
    coulds_told c.args.form c.args.words.0.now c.args.words.1.now c.args.first.now c.args.second.now c.in-Ok.first
    c.compare_with-answer.result c.in-Ok.ensures.ok c.compare_with-answer.ensures.ok

pub returns-in-Ok-clause-fault : goal.returns-in-Ok-clause-fault
returns-in-Ok-clause-fault c =
    comparison_refuses c.args.first.now c.args.second.now None c.in-Ok.first c.compare_with-answer.result c.in-Ok.ensures.ok
    c.compare_with-answer.ensures.fault
