use Rattle.mls_compare.proofs.RefusalsSet.{set_tells, set_refused}
use Rattle.mls_compare.proofs.as_set.compare_set_with.Goals as goal

pub returns-in-Ok-clause-ok : goal.returns-in-Ok-clause-ok
returns-in-Ok-clause-ok c =
    set_tells c.args.asked.now c.args.form c.args.words.0.now c.args.words.1.now _ c.args.first c.in-Ok.second c.names.result.now c.args.bytes.now
    c.args.settings.now c.compare_loaded-answer.result c.names.ensures.names c.in-Ok.ensures.right c.in-Ok.ensures.ok c.compare_loaded-answer.ensures.ok

pub returns-in-Ok-clause-fault : goal.returns-in-Ok-clause-fault
returns-in-Ok-clause-fault c =
    set_refused c.args.first c.args.bytes.now c.args.settings.now _ c.in-Ok.second c.compare_loaded-answer.result c.in-Ok.ensures.ok
    c.compare_loaded-answer.ensures.fault
