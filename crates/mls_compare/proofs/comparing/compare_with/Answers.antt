use Rattle.mls_compare.proofs.Refusals.{second_tells, second_refused}
use Rattle.mls_compare.proofs.comparing.compare_with.Goals as goal

pub returns-in-Ok-clause-ok : goal.returns-in-Ok-clause-ok
returns-in-Ok-clause-ok c =
    second_tells c.args.asked.now c.args.form c.args.words.0.now c.args.words.1.now _ c.args.first c.in-Ok.second c.args.second.now
    c.compare_loaded-answer.result c.in-Ok.ensures.ok c.compare_loaded-answer.ensures.ok

pub returns-in-Ok-clause-fault : goal.returns-in-Ok-clause-fault
returns-in-Ok-clause-fault c =
    second_refused c.args.first.start c.args.second.now _ c.in-Ok.second c.compare_loaded-answer.result c.in-Ok.ensures.ok
    c.compare_loaded-answer.ensures.fault
