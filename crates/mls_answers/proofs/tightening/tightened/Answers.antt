use Rattle.std.proofs.Common.{string_bytes}
use Rattle.mls_answers.specs.Tightening.{RefusesTight, Tightens}
use Rattle.mls_answers.proofs.Histories.{states_err, states_ok}
use Rattle.mls_answers.proofs.tightening.tightened.Goals as goal

pub returns-clause-ok : goal.returns-clause-ok
returns-clause-ok c =
    states_ok c.args.history.now c.replay.ensures.of_files c.replay.result.now c.replay.ensures.replayed c.number-first.result c.args.last
    (λ r states made. Tightens r states c.args.words.now made.order.items (string_bytes made.text)) c.tight_file.result
    c.number-first.ensures c.tight_file.ensures.ok

pub returns-clause-fault : goal.returns-clause-fault
returns-clause-fault c =
    states_err c.args.history.now c.replay.ensures.of_files c.replay.result.now c.replay.ensures.replayed c.number-first.result c.args.last
    (λ r states fault. RefusesTight r states c.args.words.now fault) c.tight_file.result
    c.number-first.ensures c.tight_file.ensures.fault
