use Rattle.mls_rows.specs.Times.{rows_lent}
use Rattle.mls_spans.specs.Listings.{ListsFrom, RefusesFrom}
use Rattle.mls_answers.proofs.Histories.{replayed_ok, replayed_err}
use Rattle.mls_answers.proofs.spans.held.Goals as goal

pub returns-clause-ok : goal.returns-clause-ok
returns-clause-ok c =
    replayed_ok c.args.history.now c.replay.ensures.of_files c.replay.result.now c.replay.ensures.replayed
    (λ r listing. ListsFrom c.args.form r (rows_lent c.args.marks) c.args.words.now listing) c.list_held.result c.list_held.ensures.ok

pub returns-clause-fault : goal.returns-clause-fault
returns-clause-fault c =
    replayed_err c.args.history.now c.replay.ensures.of_files c.replay.result.now c.replay.ensures.replayed
    (λ r fault. RefusesFrom r c.args.words.now fault) c.list_held.result c.list_held.ensures.fault
