use Rattle.mls_about.specs.About.{RefusesNamed}
use Rattle.mls_rows.specs.Times.{rows_lent}
use Rattle.mls_answers.specs.Describing.{TellsAbout}
use Rattle.mls_answers.proofs.Describing.{told_ok}
use Rattle.mls_answers.proofs.Histories.{replayed_err}
use Rattle.mls_answers.proofs.described.about.Goals as goal

pub returns-clause-ok : goal.returns-clause-ok
returns-clause-ok c =
    told_ok c.args.history.now c.replay.ensures.of_files c.replay.result.now c.replay.ensures.replayed c.args.form c.args.has_journal
    c.number_told-number.result (rows_lent c.args.marks) c.args.word.now c.args.is_object c.list_about.result c.number_told-number.ensures.number c.list_about.ensures.ok

pub returns-clause-fault : goal.returns-clause-fault
returns-clause-fault c =
    replayed_err c.args.history.now c.replay.ensures.of_files c.replay.result.now c.replay.ensures.replayed
    (λ r fault. RefusesNamed r.names c.args.word.now c.args.is_object fault) c.list_about.result c.list_about.ensures.fault
