use Rattle.mls_compare.proofs.RefusalsSet.{as_set_tells, as_set_refuses}
use Rattle.mls_compare.proofs.as_set.compare_set.Goals as goal

pub returns-in-Ok-clause-ok : goal.returns-in-Ok-clause-ok
returns-in-Ok-clause-ok c =
    as_set_tells c.args.asked.now c.args.form c.args.words.0.now c.args.words.1.now _ c.args.first.now c.args.settings.now c.in-Ok.loaded
    c.compare_set_with.result c.in-Ok.ensures.ok c.compare_set_with.ensures.ok

pub returns-in-Ok-clause-fault : goal.returns-in-Ok-clause-fault
returns-in-Ok-clause-fault c =
    as_set_refuses c.args.first.now c.args.settings.now _ c.in-Ok.loaded c.compare_set_with.result c.in-Ok.ensures.ok c.compare_set_with.ensures.fault
