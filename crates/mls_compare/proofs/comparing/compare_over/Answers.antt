use Rattle.mls_compare.proofs.Refusals.{follows}
use Rattle.mls_compare.proofs.comparing.compare_over.Goals as goal

pub returns-clause-ok : goal.returns-clause-ok
returns-clause-ok c =
    follows c.args.asked.now c.args.form c.args.names.now c.args.start c.in_ok-monitor.monitor.start c.args.second.now c.args.journal.now
    c.in_ok-monitor.monitor.entries c.entries.result.now c.in_ok-answer.field-0 c.in_ok-monitor.ensures.start c.in_ok-monitor.ensures.text
    c.entries.ensures.legal (c.entries.ensures.whole c.in_ok-monitor.ensures.forgotten) c.in_ok-answer.ensures
