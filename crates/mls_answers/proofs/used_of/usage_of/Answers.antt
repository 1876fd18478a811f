use Rattle.mls_rows.specs.Times.{rows_lent}
use Rattle.mls_spans.specs.Listings.{RefusesNames}
use Rattle.mls_spans.specs.UsageChosen.{ListsChosen}
use Rattle.mls_answers.proofs.Histories.{replayed_err, states_ok}
use Rattle.mls_answers.proofs.used_of.usage_of.Goals as goal

pub returns-clause-ok : goal.returns-clause-ok
returns-clause-ok c =
    states_ok c.args.history.now c.replay.ensures.of_files c.replay.result.now c.replay.ensures.replayed c.number-first.result c.args.last
    (λ r states listing. ListsChosen c.args.form r (rows_lent c.args.marks) states c.args.words.now c.args.never listing) c.tell_chosen.result
    c.number-first.ensures c.tell_chosen.ensures.ok

pub returns-clause-fault : goal.returns-clause-fault
returns-clause-fault c =
    replayed_err c.args.history.now c.replay.ensures.of_files c.replay.result.now c.replay.ensures.replayed
    (λ r fault. RefusesNames r.names c.args.words.now fault) c.tell_chosen.result c.tell_chosen.ensures.fault
