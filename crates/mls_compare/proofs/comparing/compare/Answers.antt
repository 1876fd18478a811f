use Rattle.mls_compare.proofs.Refusals.{comparison_tells, comparison_refuses}
use Rattle.mls_compare.proofs.comparing.compare.Goals as goal

pub returns-in-Ok-clause-ok : goal.returns-in-Ok-clause-ok
returns-in-Ok-clause-ok c =
    comparison_tells c.args.asked.now c.args.form c.args.words.0.now c.args.words.1.now _ c.args.first.now c.args.second.now c.in-Ok.first
    c.compare_with.result c.in-Ok.ensures.ok c.compare_with.ensures.ok

pub returns-in-Ok-clause-fault : goal.returns-in-Ok-clause-fault
returns-in-Ok-clause-fault c =
    comparison_refuses c.args.first.now c.args.second.now _ c.in-Ok.first c.compare_with.result c.in-Ok.ensures.ok c.compare_with.ensures.fault
