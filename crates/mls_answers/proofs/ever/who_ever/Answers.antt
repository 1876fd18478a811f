use Rattle.mls_rows.specs.Times.{rows_lent}
use Rattle.mls_spans.specs.EverListings.{ListsWord, RefusesWord}
use Rattle.mls_answers.proofs.Histories.{states_ok, replayed_err}
use Rattle.mls_answers.proofs.ever.who_ever.Goals as goal

pub returns-clause-ok : goal.returns-clause-ok
returns-clause-ok c =
    states_ok c.args.history.now c.replay.ensures.of_files c.replay.result.now c.replay.ensures.replayed c.number-first.result c.args.last
    (λ r states listing. ListsWord c.args.form r (rows_lent c.args.marks) states c.args.mode c.args.word.now listing) c.list_ever.result
    c.number-first.ensures c.list_ever.ensures.ok

pub returns-clause-fault : goal.returns-clause-fault
returns-clause-fault c =
    replayed_err c.args.history.now c.replay.ensures.of_files c.replay.result.now c.replay.ensures.replayed
    (λ r fault. RefusesWord r.names c.args.word.now fault) c.list_ever.result c.list_ever.ensures.fault
