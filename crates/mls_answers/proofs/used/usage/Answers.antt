use Rattle.mls_rows.specs.Times.{rows_lent}
use Rattle.mls_spans.specs.UsageListings.{IsUsage, trust_seen, usages_seen}
use Rattle.mls_answers.proofs.Histories.{states_ok}
use Rattle.mls_answers.proofs.used.usage.Goals as goal

pub returns-clause-ok : goal.returns-clause-ok
returns-clause-ok c =
    states_ok c.args.history.now c.replay.ensures.of_files c.replay.result.now c.replay.ensures.replayed c.number-first.result c.args.last
    (λ r states listing. IsUsage c.args.form r.names (rows_lent c.args.marks) (usages_seen r states) (trust_seen r states) listing) c.tell_states.result
    c.number-first.ensures c.tell_states.ensures.ok
